use Rattle.std.proofs.Common.{◌<◌, ◌^◌, ◌∙◌, List, ℕ, IsTrue, ap, sym, subst, arith, chars}
use Rattle.educe_tokens.specs.Pieces.{is_name_or_index}
use Rattle.educe_body_forms.specs.Indices.{decimal_is_index, chars_decimal}
use Rattle.educe_body_forms.proofs.keys.index_word.Goals as goal

pub new-requires : goal.new-requires
new-requires c =
    let small : c.args.place < 2 ^ 64 = omega arith in
    let text = c.in_ok-text.ensures ∙ ap chars (c.deref.ensures ∙ c.in_ok-digits.ensures.ok) ∙ chars_decimal c.args.place small in
    subst (λ (t : List ℕ). IsTrue (is_name_or_index t)) (sym text) (decimal_is_index c.args.place small)

pub returns : goal.returns
returns c =
    let small : c.args.place < 2 ^ 64 = omega arith in
    c.new.ensures ∙ c.in_ok-text.ensures ∙ ap chars (c.deref.ensures ∙ c.in_ok-digits.ensures.ok) ∙ chars_decimal c.args.place small
