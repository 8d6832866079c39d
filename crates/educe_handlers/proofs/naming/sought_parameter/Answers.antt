use Rattle.std.proofs.Common.{◌≡◌, ℕ, List, sym, ◌∙◌, subst, chars, arith}
use Rattle.std.proofs.lemmas.Bool.{true≢false}
use Rattle.std.proofs.lemmas.Result.{IfOk-weaker}
use Rattle.educe_tokens.proofs.Quoting.{ascii_name_is}
use Rattle.educe_syntax.specs.Ident.{Ident}
use Rattle.educe_syntax.specs.DeriveInput.{DeriveInput}
use Rattle.educe_body.specs.Chosen.{IsChosen}
use Rattle.educe_body.specs.Held.{AreWordsOf}
use Rattle.educe_body.specs.Words.{HasWord}
use Rattle.educe_handlers.proofs.Chosen.{chosen_is}
use Rattle.educe_meaning.specs.Blocks.{IsParameter}
use Rattle.educe_handlers.proofs.naming.sought_parameter.Goals as goal

-- where it is no word of the definition as it is, it is the name
plain_is : (d : DeriveInput) (plain name : List ℕ) → name ≡ plain → (HasWord d.tokens plain → ⊥) → IsParameter d plain name
plain_is d plain name is no_word = record {
  count = 0;
  is = is;
  no_word = λ has. no_word (subst (HasWord d.tokens) is has);
  least = λ fewer less. absurd (omega (arith, less));
}

pub returns-clause-chosen : goal.returns-clause-chosen
returns-clause-chosen c =
    let d = c.args.ast.now in
    let plain = c.args.name.now in
    let words = c.in_ok-used.used in
    IfOk-weaker c.select.result (λ (name : Ident). IsChosen words plain name.text) (λ (name : Ident). IsParameter d plain name.text)
    (λ name chosen. chosen_is d words plain name.text (subst (λ tokens. AreWordsOf tokens words) c.as_slice-tokens.ensures c.in_ok-used.ensures) chosen)
    c.select.ensures.chosen

pub returns-then-not-branch-clause-chosen : goal.returns-then-not-branch-clause-chosen
returns-then-not-branch-clause-chosen c =
    let d = c.args.ast.now in
    let plain = c.args.name.now in
    let same : chars plain ≡ plain = (ascii_name_is plain c.requires).1 in
    let no_word : HasWord d.tokens plain → ⊥ = λ has.
    true≢false (sym (c.in_ok-has_word.ensures.1 (subst (HasWord c.as_slice-tokens.result.now) (sym same) (subst (λ tokens. HasWord tokens plain) (sym c.as_slice-tokens.ensures) has)))
    ∙ c.if-not-branch.true) in
    IfOk-weaker c.from_name.result (λ (name : Ident). name.text ≡ plain) (λ (name : Ident). IsParameter d plain name.text) (λ name is. plain_is d plain name.text is no_word) c.from_name.ensures.text
