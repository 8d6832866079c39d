-- The piece at the start of a text, given by the bytes that it takes.
use Rattle.std.specs.Prelude.{◌≡◌, ℕ, ◌==◌, Bool, ◌&&◌, IsTrue, Some, List, [], ◌∷◌, ◌++◌, take, drop, length, chars}
use Rattle.std.specs.List.{list_all}
use Rattle.std.specs.Char.{is_ascii_digit}
use Rattle.std.specs.Str.{IsCharBoundary}
use Rattle.educe_tokens_pieces.specs.declared.kind.LiteralKind.TheVariants.{Str, ByteStr, Char, Byte}
use Rattle.educe_tokens_pieces.specs.declared.kind.TokenKind.TheVariants.{Literal}
use Rattle.educe_tokens_pieces.specs.declared.kind.UncarriedKind.TheVariants.{CStr}
use Rattle.educe_tokens_pieces.specs.declared.kind.PieceKind.{PieceKind}
use Rattle.educe_tokens_pieces.specs.declared.kind.PieceKind.TheVariants.{Token, Uncarried}
use Rattle.educe_tokens_pieces.specs.declared.quotes.Quote.{Quote}
use Rattle.educe_tokens_pieces.specs.declared.quotes.Quote.TheVariants.{Str as InStr, ByteStr as InByteStr, CStr as InCStr, Char as InChar, Byte as InByte}
use Rattle.educe_tokens_pieces.specs.Pieces.{is_piece, may_precede}
use Rattle.educe_tokens_scan.specs.Reading.{Piece}
use Rattle.educe_tokens_scan.specs.Scan.{piece_at}

-- The text is a piece of the kind followed by the rest, before which the piece may stand.
pub record Stands (kind : PieceKind) (text rest : List ℕ) : Type 0 where
  pub spelling : List ℕ
  pub is : text ≡ spelling ++ rest
  pub piece : IsTrue (is_piece kind spelling)
  pub before : IsTrue (may_precede kind spelling rest)

-- So many bytes at the front are the piece that `piece_at` finds in the characters; a character begins behind them, or the text
-- ends.
pub record IsFront (text : List ℕ) (found : PieceKind × ℕ) : Type 0 where
  pub count : ℕ
  pub is : piece_at (chars text) ≡ Some (found.0, count)
  pub front : chars (take found.1 text) ≡ take count (chars text)
  pub back : chars (drop found.1 text) ≡ drop count (chars text)
  pub boundary : IsCharBoundary text found.1

-- The piece that consists of the found number of bytes at the start of the text.
abbrev pub byte_piece : List ℕ → PieceKind × ℕ → Piece
byte_piece text found = record { kind = found.0; spelling = chars (take found.1 text) }

-- The opening of a quoted literal: its prefix letter, if it has one, and the quote.
abbrev pub opening : Quote → List ℕ
opening InStr = 34 ∷ []
opening InByteStr = 98 ∷ 34 ∷ []
opening InCStr = 99 ∷ 34 ∷ []
opening InChar = 39 ∷ []
opening InByte = 98 ∷ 39 ∷ []

-- The kind of the piece that such a literal is; a C string is unsupported.
abbrev pub quoted_kind : Quote → PieceKind
quoted_kind InStr = Token (Literal Str)
quoted_kind InByteStr = Token (Literal ByteStr)
quoted_kind InCStr = Uncarried CStr
quoted_kind InChar = Token (Literal Char)
quoted_kind InByte = Token (Literal Byte)

-- The list consists of `count` ASCII digits.
abbrev pub is_digits : ℕ → List ℕ → Bool
is_digits count cs = list_all is_ascii_digit cs && (length cs == count)
