use Rattle.std.proofs.Common.{[], refl, ◌∙◌}
use Rattle.educe_tree.specs.TokenLaws.{ascii_chars}
use Rattle.educe_body_forms.proofs.Literals.{spelled-same}
use Rattle.educe_body_forms.proofs.literal_text.LiteralText.empty.Goals as goal

pub invariant_of-result : goal.invariant_of-result
invariant_of-result c = record { spelled = spelled-same c.in_ok-text.text [] (c.in_ok-text.ensures ∙ ascii_chars [] refl) refl }

pub returns : goal.returns
returns c = c.in_ok-text.ensures ∙ ascii_chars [] refl
