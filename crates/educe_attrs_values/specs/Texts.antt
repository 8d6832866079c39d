-- The texts of strings (Rust Reference, String literals; Raw string literals).
use Rattle.std.specs.Prelude.{ℕ, List, [], ◌∷◌, Option, Some, None}
use Rattle.educe_tokens.specs.LiteralKind.TheVariants.{Int, Str, ByteStr, Char, Byte}
use Rattle.educe_tokens.specs.StringValue.{literal_text}
use Rattle.educe_tokens.specs.TokenKind.{TokenKind}
use Rattle.educe_tokens.specs.TokenKind.TheVariants as token
use Rattle.educe_tokens.specs.declared.token.Token.{Token}

-- The text of a string with this kind and spelling; any other token has none, documentation neither.
abbrev pub text_of_kind : TokenKind → List ℕ → Option (List ℕ)
text_of_kind (token.Literal Str) spelling = Some (literal_text spelling)
text_of_kind (token.Literal Int) spelling = None
text_of_kind (token.Literal ByteStr) spelling = None
text_of_kind (token.Literal Char) spelling = None
text_of_kind (token.Literal Byte) spelling = None
text_of_kind token.Ident spelling = None
text_of_kind token.Lifetime spelling = None
text_of_kind (token.Punct c joint) spelling = None
text_of_kind (token.Start b) spelling = None
text_of_kind (token.Stop b) spelling = None
text_of_kind token.Doc spelling = None

-- The text of a string; documentation has none.
abbrev pub text_in : Token → Option (List ℕ)
text_in t = text_of_kind t.kind t.spelling

-- The text of the string that is the only token.
abbrev pub only_text : List Token → Option (List ℕ)
only_text [] = None
only_text (t ∷ []) = text_in t
only_text (t ∷ u ∷ ts) = None
