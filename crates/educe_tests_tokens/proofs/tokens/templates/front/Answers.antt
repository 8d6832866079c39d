use Rattle.std.proofs.Common.{◌≡◌, ◌∙◌, refl, sym, ap, subst, IsTrue, List, take, codes}
use Rattle.std.proofs.lemmas.List.{take-map}
use Rattle.educe_tokens.specs.Copied.{may_be_copied}
use Rattle.educe_tokens.specs.Lexes.{Lexeme, lexeme_of, lexemes}
use Rattle.educe_tokens.specs.Quote.{quoted}
use Rattle.educe_tokens.proofs.Appending.{lexemes-Appends}
use Rattle.educe_tests_tokens.proofs.tokens.templates.front.Goals as goal

pub new-requires : goal.new-requires
unfolding quoted
new-requires c =
    let all : lexemes c.in_ok-all.all ≡ quoted (codes "a :: b") = ap lexemes c.in_ok-all.ensures ∙ lexemes-Appends c.new-tokens.ensures c.in_ok-quote.ensures.ok in
    let part : lexemes c.in_ok-part.field-0 ≡ take 2 (quoted (codes "a :: b")) = ap lexemes c.in_ok-part.ensures ∙ sym (take-map lexeme_of 2 c.in_ok-all.all) ∙ ap (take 2) all in
    subst (λ (found : List Lexeme). IsTrue (may_be_copied found)) (sym part) refl
