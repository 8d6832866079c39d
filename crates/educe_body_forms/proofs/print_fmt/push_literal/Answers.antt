use Rattle.std.proofs.Common.{ℕ, IsTrue, List, [], ◌∷◌, sym, ap, ◌∙◌, subst, chars}
use Rattle.std.proofs.lemmas.Result.{on_ok_weaker}
use Rattle.educe_tokens.specs.Lexes.{Lexeme}
use Rattle.educe_tokens.specs.LiteralKind.TheVariants.{Str}
use Rattle.educe_tokens.specs.Pieces.{spells}
use Rattle.educe_tokens.specs.TokenKind.TheVariants.{Literal}
use Rattle.educe_tokens.proofs.Appending.{Appends-same}
use Rattle.educe_body_forms.specs.Quotes.{in_quotes}
use Rattle.educe_body_forms.proofs.Literals.{chars_quoted}
use Rattle.educe_body_forms.proofs.print_fmt.push_literal.Goals as goal

-- the token of a string literal
abbrev literal : List ℕ → Lexeme
literal text = record { kind = Literal Str; spelling = text }

pub push_spelling-requires : goal.push_spelling-requires
push_spelling-requires c =
    let whole = c.in_ok-spelling.ensures ∙ ap chars (c.deref.ensures ∙ c.in_ok-whole.ensures.ok) in
    let same = whole ∙ chars_quoted c.as_str.result.now c.as_str.utf8 ∙ ap in_quotes c.as_str.ensures.chars in
    subst (λ (text : List ℕ). IsTrue (spells (Literal Str) text)) (sym same) c.args.text.now.spelled

pub returns-clause-ok : goal.returns-clause-ok
returns-clause-ok c =
    let whole = c.in_ok-spelling.ensures ∙ ap chars (c.deref.ensures ∙ c.in_ok-whole.ensures.ok) in
    let same = ap (λ (text : List ℕ). literal text ∷ []) (whole ∙ chars_quoted c.as_str.result.now c.as_str.utf8 ∙ ap in_quotes c.as_str.ensures.chars) in
    on_ok_weaker _ (λ found. Appends-same same found) c.push_spelling.ensures.ok
