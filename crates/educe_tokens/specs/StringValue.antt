-- The value of a string literal, and the text of documentation (Rust Reference, String literals; Raw string literals; Doc
-- comments).
use Rattle.std.specs.Prelude.{ℕ, ◌==◌, cond, Option, Some, None, List, ◌∷◌, drop}
use Rattle.educe_tokens_pieces.specs.declared.kind.LiteralKind.TheVariants as literal
use Rattle.educe_tokens_pieces.specs.declared.kind.TokenKind.{TokenKind}
use Rattle.educe_tokens_pieces.specs.declared.kind.TokenKind.TheVariants.{Ident, Lifetime, Literal, Punct, Start, Stop, Doc}
use Rattle.educe_tokens_pieces.specs.declared.quotes.Quote.TheVariants.{Str}
use Rattle.educe_tokens_pieces.specs.declared.quotes.Within.TheVariants.{Open}
use Rattle.educe_tokens_pieces.specs.Chars.{begins}
use Rattle.educe_tokens_pieces.specs.Machine.{given}
use Rattle.educe_tokens_pieces.specs.Quotes.{Part, IsBody, value_of}
use Rattle.educe_tokens_pieces.specs.RawStrings.{raw_value, IsRawOf}
use Rattle.educe_tokens_pieces.specs.Comments.{doc_value, IsDocOf}
use Rattle.educe_tokens.specs.declared.token.Token.{Token}
use Rattle.educe_tokens.specs.Lexes.{Lexeme}

-- The kinds of tokens that have a string as their value: string literals and documentation.
pub data IsString : TokenKind → Type 0 where
  str : IsString (Literal literal.Str)
  doc : IsString Doc

-- The characters of a token's value: what the parts of a string literal stand for, or the text between the delimiters of a raw
-- string or of documentation.
pub data IsStringValue : Lexeme → List ℕ → Type 0 where
  -- The value of a quoted string: what its parts stand for.
  parts : (text : List ℕ) (found : List Part) → IsBody Str text found
      → IsStringValue (record { kind = Literal literal.Str; spelling = 34 ∷ text }) (value_of found)
  -- The value of a raw string: the characters between its quotes.
  raw : (text value : List ℕ) → IsRawOf text value → IsStringValue (record { kind = Literal literal.Str; spelling = text }) value
  -- The value of documentation: the text after `///`, or between `/**` and `*/`.
  doc : (text value : List ℕ) → IsDocOf text value → IsStringValue (record { kind = Doc; spelling = text }) value

-- The value of a string literal, computed: the text between the quotes of a raw string, or what the parts of a quoted
-- one stand for.
abbrev pub literal_text : List ℕ → List ℕ
literal_text cs = cond (begins (λ c. c == 114) cs) (raw_value cs) (given (Open Str) (drop 1 cs))

-- The value of a token with this kind and spelling.
abbrev pub text_of_kind : TokenKind → List ℕ → Option (List ℕ)
text_of_kind (Literal literal.Int) cs = None
text_of_kind (Literal literal.Str) cs = Some (literal_text cs)
text_of_kind (Literal literal.ByteStr) cs = None
text_of_kind (Literal literal.Char) cs = None
text_of_kind (Literal literal.Byte) cs = None
text_of_kind Ident cs = None
text_of_kind Lifetime cs = None
text_of_kind (Punct c joint) cs = None
text_of_kind (Start b) cs = None
text_of_kind (Stop b) cs = None
text_of_kind Doc cs = Some (doc_value cs)

-- The value of a string literal, or the text of documentation; any other token has none.
abbrev pub text_in : Token → Option (List ℕ)
text_in token = text_of_kind token.kind token.spelling
