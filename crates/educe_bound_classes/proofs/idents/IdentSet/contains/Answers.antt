use Rattle.std.proofs.Common.{List, ℕ, ap, ◌∙◌, chars}
use Rattle.educe_bound_classes.specs.Texts.{has_text}
use Rattle.educe_bound_classes.proofs.Texts.{found_by_bytes}
use Rattle.educe_bound_classes.proofs.idents.IdentSet.contains.Goals as goal

pub returns : goal.returns
returns c =
    c.contains.ensures ∙ found_by_bytes c.self.inside.texts.keys c.args.text.now c.self.invariant c.utf8.text ∙ ap (λ (texts : List (List ℕ)). has_text texts (chars c.args.text.now)) c.self.view_is
