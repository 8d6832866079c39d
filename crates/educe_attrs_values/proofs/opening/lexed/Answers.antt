use Rattle.std.proofs.Common.{chars}
use Rattle.educe_attrs_values.proofs.Deciding.{lexed_ok, lexed_err}
use Rattle.educe_attrs_values.proofs.opening.lexed.Goals as goal

pub returns-in-Ok-clause-found : goal.returns-in-Ok-clause-found
returns-in-Ok-clause-found c = lexed_ok (chars c.args.text.now) c.in-Ok.tokens (record { lexes = c.in-Ok.ensures.lexes; balanced = c.in-Ok.ensures.balanced; shallow = c.in-Ok.ensures.shallow })

pub returns-in-Err-clause-err : goal.returns-in-Err-clause-err
returns-in-Err-clause-err c = λ told. lexed_err (chars c.args.text.now) c.in-Err.error c.in-Err.ensures.err told
