use Rattle.std.proofs.Common.{refl}
use Rattle.std.proofs.lemmas.Result.{on_ok_weaker}
use Rattle.educe_tokens.proofs.lexer.push_token.Goals as goal

pub returns : goal.returns
returns c = on_ok_weaker c.push.result (λ e. (_, e, refl, refl, c.in_ok-spelling.ensures)) c.push.ensures.ok
