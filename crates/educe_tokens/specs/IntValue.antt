-- The value of an integer literal.
use Rattle.std.specs.Prelude.{ℕ, Option, Some, None, List}
use Rattle.educe_tokens_pieces.specs.declared.kind.LiteralKind.TheVariants.{Int, Str, ByteStr, Char, Byte}
use Rattle.educe_tokens_pieces.specs.declared.kind.TokenKind.{TokenKind}
use Rattle.educe_tokens_pieces.specs.declared.kind.TokenKind.TheVariants.{Ident, Lifetime, Literal, Punct, Start, Stop, Doc}
use Rattle.educe_tokens_pieces.specs.Integers.{int_value_of}
use Rattle.educe_tokens.specs.Lexes.{Lexeme}

-- The number that the digits write, if the kind is `Int`.
abbrev pub value_of : TokenKind → List ℕ → Option ℕ
value_of (Literal Int) cs = Some (int_value_of cs)
value_of (Literal Str) cs = None
value_of (Literal ByteStr) cs = None
value_of (Literal Char) cs = None
value_of (Literal Byte) cs = None
value_of Ident cs = None
value_of Lifetime cs = None
value_of (Punct c joint) cs = None
value_of (Start b) cs = None
value_of (Stop b) cs = None
value_of Doc cs = None

-- The value of an integer literal; any other token has none.
abbrev pub int_value : Lexeme → Option ℕ
int_value lexeme = value_of lexeme.kind lexeme.spelling
