use Rattle.std.proofs.Common.{◌<◌, ◌^◌, ◌++◌, ◌∙◌, List, ℕ, IsTrue, ap, sym, subst, arith, chars, codes}
use Rattle.educe_tokens.specs.Pieces.{is_name_or_index}
use Rattle.educe_body_forms.specs.Suffixed.{steps_spelled}
use Rattle.educe_body_forms.specs.Indices.{chars_steps}
use Rattle.educe_body_forms.proofs.print_patterns.steps_word.Goals as goal

pub new-requires : goal.new-requires
new-requires c =
    let small : c.args.steps < 2 ^ 64 = omega arith in
    let bytes = c.deref.ensures ∙ c.in_ok-push_str.ensures.bytes ∙ ap (λ (t : List ℕ). t ++ codes "usize") c.in_ok-digits.ensures.ok in
    let text = c.in_ok-text.ensures ∙ ap chars bytes ∙ chars_steps c.args.steps small in
    subst (λ (t : List ℕ). IsTrue (is_name_or_index t)) (sym text) (steps_spelled c.args.steps small)

pub returns : goal.returns
returns c =
    let small : c.args.steps < 2 ^ 64 = omega arith in
    let bytes = c.deref.ensures ∙ c.in_ok-push_str.ensures.bytes ∙ ap (λ (t : List ℕ). t ++ codes "usize") c.in_ok-digits.ensures.ok in
    c.new.ensures ∙ c.in_ok-text.ensures ∙ ap chars bytes ∙ chars_steps c.args.steps small
