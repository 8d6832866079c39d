-- Each string has a value: its text.
use Rattle.std.proofs.Common.{◌≡◌, ℕ, List, IsTrue, Some, sym, subst, inl, inr}
use Rattle.std.proofs.lemmas.Option.{same_Some}
use Rattle.educe_tokens.specs.LiteralKind.TheVariants.{Str}
use Rattle.educe_tokens.specs.TokenKind.{TokenKind}
use Rattle.educe_tokens.specs.TokenKind.TheVariants.{Literal}
use Rattle.educe_tokens.specs.declared.token.Token.{Token}
use Rattle.educe_tokens.specs.Lexes.{Lexeme, lexeme_of}
use Rattle.educe_tokens.specs.Pieces.{spells}
use Rattle.educe_tokens.specs.Spells.{Spells}
use Rattle.educe_tokens.specs.StringValue.{literal_text, IsStringValue}
use Rattle.educe_tokens.proofs.StringValues.{text_is}
use Rattle.educe_tokens_scan.proofs.SpellLaws.{spells_sound}
use Rattle.educe_attrs_values.specs.Texts.{text_of_kind, text_in}
use Rattle.educe_attrs_values.proofs.Texts.{text_kind}

-- a string literal, spelled so
abbrev string_of : List ℕ → Lexeme
string_of spelling = record { kind = Literal Str; spelling = spelling }

-- a value of it
abbrev Value : List ℕ → Type 0
Value spelling = (value : List ℕ) × IsStringValue (string_of spelling) value

-- there is one, raw or not
valued : (spelling : List ℕ) → Spells (Literal Str) spelling → Value spelling
valued spelling (inl quoted) = subst Value (sym quoted.is) (_, IsStringValue.parts quoted.body quoted.parts quoted.holds)
valued spelling (inr raw) = subst Value (sym raw.is) (raw.value, IsStringValue.raw raw.raw raw.value raw.own)

-- the value is the text
text_valued : (spelling : List ℕ) → Spells (Literal Str) spelling → IsStringValue (string_of spelling) (literal_text spelling)
text_valued spelling spelled =
    let found = valued spelling spelled in
    subst (IsStringValue (string_of spelling)) (sym (same_Some (literal_text spelling) found.0 (text_is (string_of spelling) found.0 found.1))) found.1

kind_valued : (kind : TokenKind) (spelling text : List ℕ) → IsTrue (spells kind spelling) → kind ≡ Literal Str → text_of_kind kind spelling ≡ Some text → IsStringValue (record { kind = kind; spelling = spelling }) text
kind_valued (Literal Str) spelling text spelled is h =
    subst (IsStringValue (string_of spelling)) (same_Some (literal_text spelling) text h) (text_valued spelling (spells_sound (Literal Str) spelling spelled))
kind_valued _ spelling text spelled is h = absurd (cc)

-- the text of a token is the value of a string
pub text_value : (t : Token) (text : List ℕ) → text_in t ≡ Some text → IsStringValue (lexeme_of t) text
text_value t text h = kind_valued t.kind t.spelling text t.spelled (text_kind t.kind t.spelling text h) h
