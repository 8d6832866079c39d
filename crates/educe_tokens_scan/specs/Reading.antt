-- The division of a text into pieces (Rust Reference, Lexical structure).
use Rattle.std.specs.Prelude.{◌≡◌, ℕ, ◌≤◌, ◌&&◌, IsTrue, List, [], ◌∷◌, ◌++◌, length, take}
use Rattle.educe_tokens_pieces.specs.declared.kind.PieceKind.{PieceKind}
use Rattle.educe_tokens_pieces.specs.Pieces.{is_piece, may_precede}

-- A kind and a spelling.
pub record Piece : Type 0 where
  pub kind : PieceKind
  pub spelling : List ℕ

-- The piece that consists of the found number of characters at the start of the text.
abbrev pub front_piece : List ℕ → PieceKind × ℕ → Piece
front_piece text found = record { kind = found.0; spelling = take found.1 text }

-- The spelling is a piece of its kind, and may stand before this rest.
abbrev pub IsPiece : Piece → List ℕ → Type 0
IsPiece p rest = IsTrue (is_piece p.kind p.spelling && may_precede p.kind p.spelling rest)

-- No longer prefix of the text is a piece that may stand before its rest.
abbrev pub IsLongest : Piece → List ℕ → Type 0
IsLongest p text = (other : Piece) (rest : List ℕ) → text ≡ other.spelling ++ rest → IsPiece other rest → length other.spelling ≤ length p.spelling

-- The text is these pieces, each the longest that fits at its place, followed by the rest.
abbrev pub Reads : List ℕ → List Piece → List ℕ → Type 0
Reads text [] rest = text ≡ rest
Reads text (p ∷ ps) rest = (more : List ℕ) × (text ≡ p.spelling ++ more) × IsPiece p more × IsLongest p text × Reads more ps rest

-- No prefix of the text is a piece.
abbrev pub FitsNone : List ℕ → Type 0
FitsNone text = (p : Piece) (rest : List ℕ) → text ≡ p.spelling ++ rest → IsPiece p rest → ⊥
