-- The tokens of keys and of initializers.
use Rattle.std.proofs.Common.{◌≡◌, ℕ, ◌<◌, ◌^◌, IsTrue, List, [], ◌∷◌, ◌++◌, codes, refl, sym, ap, ◌∙◌}
use Rattle.std.specs.Prelude.{nat_lt}
use Rattle.std.specs.Fmt.{decimal}
use Rattle.std.proofs.lemmas.Bool.{cond-true, lt-ltb}
use Rattle.educe_tokens.specs.LiteralKind.TheVariants.{Int}
use Rattle.educe_tokens.specs.TokenKind.{TokenKind}
use Rattle.educe_tokens.specs.TokenKind.TheVariants.{Literal}
use Rattle.educe_tokens.specs.Lexes.{Lexeme}
use Rattle.educe_tokens.specs.Quote.{quoted, word_lexeme}
use Rattle.educe_tokens.specs.Text.{is_written}
use Rattle.educe_tokens.proofs.Printable.{printable-ident, printable-quoted}
use Rattle.educe_tokens.proofs.Writing.{written-append}
use Rattle.educe_tree.specs.TokenLaws.{lawful_kinds}
use Rattle.educe_body_forms.specs.Indices.{decimal_begins}
use Rattle.educe_body_forms.specs.declared.ident_or_index.IdentOrIndex.{IdentOrIndex}
use Rattle.educe_body_forms.specs.declared.ident_or_index.IdentOrIndex.TheVariants.{Ident, Index}
use Rattle.educe_body_forms.specs.FieldKeys.{key_lexeme, key_lexemes, name_lexemes, field_lexemes}

-- the decimal digits of an index are its token
pub digits_lexeme : (index : ℕ) (text : List ℕ) → index < 2 ^ 64 → text ≡ decimal index → word_lexeme text ≡ key_lexeme (Index index)
digits_lexeme index text small is =
    ap word_lexeme is ∙ ap (λ (kind : TokenKind). record { kind = kind; spelling = decimal index }) (lawful_kinds.index (decimal index) (decimal_begins index small))

-- which is all that the index has
pub one_lexeme : (index : ℕ) → index < 2 ^ 64 → key_lexeme (Index index) ∷ [] ≡ key_lexemes (Index index)
one_lexeme index small = sym (cond-true (nat_lt index (2 ^ 64)) (key_lexeme (Index index) ∷ []) [] (lt-ltb index (2 ^ 64) small))

-- what stands before a value may stand beside others
name_written : (key : IdentOrIndex) → IsTrue (is_written (name_lexemes key))
name_written (Ident name) = written-append (key_lexeme (Ident name) ∷ []) (quoted (codes ":")) (printable-ident name.text name.spelled).written (printable-quoted (codes ":") refl).written
name_written (Index index) = refl

-- an initializer may stand beside others, where its value may
pub field_written : (key : IdentOrIndex) (value : List Lexeme) → IsTrue (is_written value) → IsTrue (is_written (field_lexemes key value))
field_written key value h =
    written-append (name_lexemes key ++ value) (quoted (codes ",")) (written-append (name_lexemes key) value (name_written key) h) (printable-quoted (codes ",") refl).written
