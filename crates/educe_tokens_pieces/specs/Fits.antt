-- What a scanner finds at the start of a text.
use Rattle.std.specs.Prelude.{◌≡◌, ℕ, ◌<◌, ◌≤◌, Bool, true, Option, Some, None, List, length, take}
use Rattle.educe_tokens_pieces.specs.declared.kind.PieceKind.{PieceKind}
use Rattle.educe_tokens_pieces.specs.Pieces.{is_piece}

-- The found length is that of a non-empty prefix that spells a piece of the found kind, whatever follows it.
abbrev pub Fits : List ℕ → Option (PieceKind × ℕ) → Type 0
Fits text None = Unit {0}
Fits text (Some found) = (is_piece found.0 (take found.1 text) ≡ true) × (0 < found.1) × (found.1 ≤ length text)

-- The found length is that of a non-empty prefix of the text that passes the test.
abbrev pub FrontPasses : (List ℕ → Bool) → List ℕ → Option ℕ → Type 0
FrontPasses test text None = Unit {0}
FrontPasses test text (Some n) = (test (take n text) ≡ true) × (0 < n) × (n ≤ length text)
