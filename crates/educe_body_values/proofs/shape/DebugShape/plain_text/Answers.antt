use Rattle.std.proofs.Common.{◌∙◌, ◌++◌, ap, chars, List, ℕ}
use Rattle.std.proofs.lemmas.Str.{chars-nil}
use Rattle.educe_body_values.specs.PlainTexts.{plain_text}
use Rattle.educe_body_values.proofs.shape.DebugShape.plain_text.Goals as goal

pub returns : goal.returns
returns c =
    c.in_ok-push_shape.ensures
    ∙ ap (λ (front : List ℕ). front ++ plain_text c.args.self.now c.args.texts.now) (ap chars c.new-out.ensures.bytes ∙ chars-nil)
