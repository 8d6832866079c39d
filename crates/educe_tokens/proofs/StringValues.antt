-- The two forms of string literals, by their first character; the value of a string or of documentation, which is one.
use Rattle.std.proofs.Common.{◌≡◌, ℕ, true, false, Option, Some, None, List, [], ◌∷◌, drop, refl, sym, ap, ◌∙◌, subst, ⊎_elim, arith}
use Rattle.std.specs.Prelude.{◌==◌}
use Rattle.std.proofs.lemmas.Bool.{or_cases, and_parts, cond-true, false≢true}
use Rattle.std.proofs.lemmas.Bool.Decides.{nat_tests}
use Rattle.educe_tokens_pieces.specs.declared.kind.LiteralKind.TheVariants as literal
use Rattle.educe_tokens_pieces.specs.declared.kind.TokenKind.{TokenKind}
use Rattle.educe_tokens_pieces.specs.declared.kind.TokenKind.TheVariants.{Ident, Lifetime, Literal, Punct, Start, Stop, Doc}
use Rattle.educe_tokens_pieces.specs.declared.quotes.Quote.TheVariants.{Str}
use Rattle.educe_tokens_pieces.specs.Chars.{begins}
use Rattle.educe_tokens_pieces.specs.Machine.{is_str}
use Rattle.educe_tokens_pieces.specs.RawStrings.{is_raw_str}
use Rattle.educe_tokens_pieces.specs.Quotes.{Part, IsBody, value_of}
use Rattle.educe_tokens_pieces.specs.Pieces.{spells}
use Rattle.educe_tokens_pieces.proofs.Bodies.{body_ends}
use Rattle.educe_tokens_pieces.proofs.CommentLaws.{doc_value_is}
use Rattle.educe_tokens_pieces.proofs.Quoted.{str_parts}
use Rattle.educe_tokens_pieces.proofs.RawStrings.{raw_value_is}
use Rattle.educe_tokens.specs.Lexes.{Lexeme}
use Rattle.educe_tokens.specs.StringValue.{IsString, IsStringValue, parts as value_parts, text_of_kind}

-- a quote is no `r`
quote_no_r : (c : ℕ) → (c == 34) ≡ true → (c == 114) ≡ false
quote_no_r c h = grind (arith, nat_tests)

-- a string literal that begins with `r` is raw
pub raw_by_first : (cs : List ℕ) → spells (Literal literal.Str) cs ≡ true → begins (λ c. c == 114) cs ≡ true → is_raw_str cs ≡ true
raw_by_first [] h r = absurd (false≢true h)
raw_by_first (c ∷ cs) h r =
    ⊎_elim (λ s. absurd (false≢true (sym (quote_no_r c (and_parts (c == 34) _ s).0) ∙ r))) (λ raw. raw) (or_cases _ _ h)

-- a string literal that doesn't begin with `r` is not raw
pub str_by_first : (cs : List ℕ) → spells (Literal literal.Str) cs ≡ true → begins (λ c. c == 114) cs ≡ false → is_str cs ≡ true
str_by_first [] h r = absurd (false≢true h)
str_by_first (c ∷ cs) h r = ⊎_elim (λ s. s) (λ raw. absurd (false≢true (sym r ∙ (and_parts (c == 114) _ raw).0))) (or_cases _ _ h)

-- a string literal's token, spelled so
abbrev str_lexeme : List ℕ → Lexeme
str_lexeme cs = record { kind = Literal literal.Str; spelling = cs }

-- the value of a string literal that is not raw is that of its parts
pub quoted_value : (cs value : List ℕ) (found : List Part) → is_str cs ≡ true → IsBody Str (drop 1 cs) found → value ≡ value_of found
    → IsStringValue (str_lexeme cs) value
quoted_value cs value found h body is =
    let p = str_parts cs h in
    let rest : drop 1 cs ≡ p.0 = ap (drop 1) p.1 in
    let Here : List ℕ → Type 0 = λ s. IsStringValue (str_lexeme s) value in
    let There : List ℕ → Type 0 = λ v. IsStringValue (str_lexeme (34 ∷ p.0)) v in
    subst Here (sym p.1) (subst There (sym is) (value_parts p.0 found (subst (λ t. IsBody Str t found) rest body)))

-- ---- one value

-- the value, computed
pub text_is : (token : Lexeme) (value : List ℕ) → IsStringValue token value → text_of_kind token.kind token.spelling ≡ Some value
text_is token value (IsStringValue.parts text found body) = ap (λ (v : List ℕ). Some v) (body_ends Str text found body).1
text_is token value (IsStringValue.raw text v own) =
    ap (λ (v : List ℕ). Some v) (cond-true (begins (λ c. c == 114) text) _ _ (ap (begins (λ c. c == 114)) own.is) ∙ raw_value_is text v own)
text_is token value (IsStringValue.doc text v own) = ap (λ (v : List ℕ). Some v) (doc_value_is text v own)

-- a token of another kind has none
pub text_none : (kind : TokenKind) (spelling : List ℕ) → (IsString kind → ⊥) → text_of_kind kind spelling ≡ None
text_none (Literal literal.Int) cs other = refl
text_none (Literal literal.Str) cs other = absurd (other IsString.str)
text_none (Literal literal.ByteStr) cs other = refl
text_none (Literal literal.Char) cs other = refl
text_none (Literal literal.Byte) cs other = refl
text_none Ident cs other = refl
text_none Lifetime cs other = refl
text_none (Punct c joint) cs other = refl
text_none (Start b) cs other = refl
text_none (Stop b) cs other = refl
text_none Doc cs other = absurd (other IsString.doc)

-- the value that there is
abbrev value_in : Option (List ℕ) → List ℕ
value_in None = []
value_in (Some value) = value

-- a token has one value
pub string_value-one : (token : Lexeme) (value other : List ℕ) → IsStringValue token value → IsStringValue token other → value ≡ other
string_value-one token value other own another = ap value_in (sym (text_is token value own) ∙ text_is token other another)

-- a token with a value is a string or documentation
pub string_value-kind : (token : Lexeme) (value : List ℕ) → IsStringValue token value → IsString token.kind
string_value-kind token value (IsStringValue.parts text found body) = IsString.str
string_value-kind token value (IsStringValue.raw text v own) = IsString.str
string_value-kind token value (IsStringValue.doc text v own) = IsString.doc
