use Rattle.std.proofs.lemmas.Str.{chars-nil}
use Rattle.educe_body_eval.proofs.showing.no_text.Goals as goal

pub returns : goal.returns
returns c = rw chars-nil at c.from_str.ensures
