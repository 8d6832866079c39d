use Rattle.std.proofs.Common.{◌≡◌, ℕ, IsTrue, List, [], ◌∷◌, refl, sym, ap, ◌∙◌, subst}
use Rattle.educe_tokens.specs.LiteralKind.TheVariants.{Str}
use Rattle.educe_tokens.specs.TokenKind.TheVariants.{Literal}
use Rattle.educe_tokens.specs.Lexes.{Lexeme}
use Rattle.educe_tokens.specs.Pieces.{spells}
use Rattle.educe_tree.specs.TokenLaws.{ascii_chars}
use Rattle.educe_body_items.specs.Items.{documentation_spelling}
use Rattle.educe_body_items.proofs.print_constructors.push_documentation_text.Goals as goal

-- the token of a string literal
abbrev literal : List ℕ → Lexeme
literal text = record { kind = Literal Str; spelling = text }

pub invariant_of-push : goal.invariant_of-push
invariant_of-push c =
    let same : c.in_ok-spelling.spelling ≡ documentation_spelling = c.in_ok-spelling.ensures ∙ ascii_chars documentation_spelling refl in
    record { spelled = subst (λ (text : List ℕ). IsTrue (spells (Literal Str) text)) (sym same) refl }

pub returns-clause-ok : goal.returns-clause-ok
returns-clause-ok c =
    let same : c.in_ok-spelling.spelling ≡ documentation_spelling = c.in_ok-spelling.ensures ∙ ascii_chars documentation_spelling refl in
    record { more = _; joined = c.in_ok-push.ensures.ok; same = ap (λ (text : List ℕ). literal text ∷ []) same }
