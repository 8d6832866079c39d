-- The laws of keys as tokens: a key may stand beside other tokens, and its text lexes as it.
use Rattle.std.proofs.Common.{◌≡◌, ℕ, ◌<◌, ◌^◌, [], ◌∷◌, subst}
use Rattle.std.specs.Prelude.{nat_lt}
use Rattle.std.specs.Fmt.{decimal}
use Rattle.std.proofs.lemmas.Bool.{cond_both, ltb-true}
use Rattle.educe_tokens.specs.TokenKind.{TokenKind}
use Rattle.educe_tokens.specs.declared.word.Word.{Word}
use Rattle.educe_tokens.specs.Lexes.{Lexeme}
use Rattle.educe_tokens.proofs.Printable.{IsPrintable, printable-nil, printable-ident, printable-word}
use Rattle.educe_tree.specs.TokenLaws.{lawful_kinds}
use Rattle.educe_body_forms.specs.Indices.{decimal_begins, decimal_is_index}
use Rattle.educe_body_forms.specs.declared.ident_or_index.IdentOrIndex.{IdentOrIndex}
use Rattle.educe_body_forms.specs.declared.ident_or_index.IdentOrIndex.TheVariants.{Ident, Index}
use Rattle.educe_body_forms.specs.FieldKeys.{key_lexeme, key_lexemes}

-- The decimal digits of an index are printable.
digits_printable : (index : ℕ) → index < 2 ^ 64 → IsPrintable (key_lexeme (Index index) ∷ [])
digits_printable index small =
    let word : Word = record { text = decimal index; spelled = decimal_is_index index small } in
    let P : TokenKind → Type 0 = λ kind. IsPrintable (record { kind = kind; spelling = decimal index } ∷ []) in
    subst P (lawful_kinds.index (decimal index) (decimal_begins index small)) (printable-word word)

-- The token of a key is printable.
pub key_printable : (key : IdentOrIndex) → IsPrintable (key_lexemes key)
key_printable (Ident name) = printable-ident name.text name.spelled
key_printable (Index index) =
    cond_both (nat_lt index (2 ^ 64)) (key_lexeme (Index index) ∷ []) [] IsPrintable (λ e. digits_printable index (ltb-true index (2 ^ 64) e)) (λ _. printable-nil)
