-- The tokens of a text (Rust Reference, Lexical structure).
use Rattle.std.specs.Prelude.{◌≡◌, ℕ, ◌+◌, Bool, true, false, cond, IsTrue, List, [], ◌∷◌, length, map, encode_utf8_all}
use Rattle.std.specs.List.{filter, list_all}
use Rattle.educe_tokens_pieces.specs.declared.kind.TokenKind.{TokenKind}
use Rattle.educe_tokens_pieces.specs.declared.kind.PieceKind.TheVariants.{Blank, Comment, Token as TokenPiece, Uncarried}
use Rattle.educe_tokens_scan.specs.Reading.{Piece, Reads}
use Rattle.educe_tokens.specs.declared.span.Span.{Span}
use Rattle.educe_tokens.specs.declared.token.Token.{Token}

-- A token without its span: the kind, jointness included, and the spelling.
pub record Lexeme : Type 0 where
  pub kind : TokenKind
  pub spelling : List ℕ

-- A token without its span.
abbrev pub lexeme_of : Token → Lexeme
lexeme_of t = record { kind = t.kind; spelling = t.spelling }

-- The tokens without their spans.
abbrev pub lexemes : List Token → List Lexeme
lexemes tokens = map lexeme_of tokens

-- The piece is a token: neither a blank nor a comment.
abbrev pub is_token : Piece → Bool
is_token p = elim p.kind [ Blank ↦ false | Comment ↦ false | TokenPiece kind ↦ true | Uncarried kind ↦ false ]

-- The piece is no unsupported literal.
abbrev pub is_carried : Piece → Bool
is_carried p = elim p.kind [ Blank ↦ true | Comment ↦ true | TokenPiece kind ↦ true | Uncarried kind ↦ false ]

-- None of the pieces is an unsupported literal.
abbrev pub are_carried : List Piece → Bool
are_carried ps = list_all is_carried ps

-- The piece that a token is.
abbrev pub piece_of : Lexeme → Piece
piece_of lexeme = record { kind = TokenPiece lexeme.kind; spelling = lexeme.spelling }

-- The offset at which pieces end, given the offset of the first, both in bytes.
abbrev pub end_of : ℕ → List Piece → ℕ
end_of start [] = start
end_of start (p ∷ ps) = end_of (start + length (encode_utf8_all p.spelling)) ps

-- The span of a piece that begins at an offset.
abbrev pub span_at : ℕ → Piece → Span
span_at start p = record { start = start; end = start + length (encode_utf8_all p.spelling) }

-- The spans of the tokens among the pieces.
abbrev pub spans : ℕ → List Piece → List Span
spans start [] = []
spans start (p ∷ ps) =
    let more = spans (start + length (encode_utf8_all p.spelling)) ps in
    cond (is_token p) (span_at start p ∷ more) more

-- The text consists of pieces with no unsupported literal among them, and the tokens are those among them, spans aside.
pub record LexesAside (text : List ℕ) (found : List Lexeme) : Type 0 where
  pub pieces : List Piece
  pub reads : Reads text pieces []
  pub carried : IsTrue (are_carried pieces)
  pub tokens_are : filter is_token pieces ≡ map piece_of found

-- The text consists of pieces with no unsupported literal among them, and the tokens are those among them, each with
-- the offsets of its piece as its span.
pub record Lexes (text : List ℕ) (tokens : List Token) : Type 0 where
  pub pieces : List Piece
  pub reads : Reads text pieces []
  pub carried : IsTrue (are_carried pieces)
  pub tokens_are : filter is_token pieces ≡ map piece_of (lexemes tokens)
  pub spans_are : spans 0 pieces ≡ map (λ t. t.span) tokens
