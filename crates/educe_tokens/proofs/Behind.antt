-- Texts behind one another, with a line feed between them.
use Rattle.std.proofs.Common.{◌≡◌, ℕ, true, List, [], ◌∷◌, ◌++◌, refl, sym, ap, ◌∙◌, subst, append_assoc, append-nil}
use Rattle.std.proofs.lemmas.Bool.{and_parts, and_from}
use Rattle.std.proofs.lemmas.List.{map-append}
use Rattle.std.proofs.lemmas.List.Elements.{filter-append}
use Rattle.educe_tokens_pieces.specs.declared.kind.PieceKind.TheVariants.{Blank}
use Rattle.educe_tokens_pieces.specs.Pieces.{is_piece}
use Rattle.educe_tokens_scan.specs.Reading.{Piece, IsPiece, Reads}
use Rattle.educe_tokens_scan.proofs.Following.{may_precede-line_feed}
use Rattle.educe_tokens_scan.proofs.Readings.{piece_longest}
use Rattle.educe_tokens.specs.Lexes.{Lexeme, LexesAside, is_token, is_carried, are_carried, piece_of}

-- a piece stays a piece with a line feed behind the rest
piece-line_feed : (p : Piece) (r b : List ℕ) → IsPiece p r → IsPiece p (r ++ 10 ∷ b)
piece-line_feed p r b h =
    let parts = and_parts (is_piece p.kind p.spelling) _ h in
    and_from _ _ parts.0 (may_precede-line_feed p.kind p.spelling r b ∙ parts.1)

-- the line feed as a piece
abbrev line_feed : Piece
line_feed = record { kind = Blank; spelling = 10 ∷ [] }

-- the readings of two texts, with a line feed between them
reads_behind : (a b : List ℕ) (ps qs : List Piece) → Reads a ps [] → Reads b qs [] → Reads (a ++ 10 ∷ b) (ps ++ line_feed ∷ qs) []
reads_behind a b [] qs x y = (b, ap (λ t. t ++ 10 ∷ b) x, refl, piece_longest line_feed _ b (ap (λ t. t ++ 10 ∷ b) x) refl, y)
reads_behind a b (p ∷ ps) qs x y =
    let text : a ++ 10 ∷ b ≡ p.spelling ++ (x.0 ++ 10 ∷ b) = ap (λ t. t ++ 10 ∷ b) x.1 ∙ append_assoc p.spelling x.0 (10 ∷ b) in
    let piece = piece-line_feed p x.0 b x.2 in
    (x.0 ++ 10 ∷ b, text, piece, piece_longest p _ _ text piece, reads_behind x.0 b ps qs x.4 y)

-- pieces of two lists that are all carried
are_carried-append : (ps qs : List Piece) → are_carried ps ≡ true → are_carried qs ≡ true → are_carried (ps ++ qs) ≡ true
are_carried-append [] qs a b = b
are_carried-append (p ∷ ps) qs a b = let parts = and_parts (is_carried p) _ a in and_from _ _ parts.0 (are_carried-append ps qs parts.1 b)

-- the tokens of two texts with a line feed between them are those of both
pub lexes_behind : (a b : List ℕ) (xs ys : List Lexeme) → LexesAside a xs → LexesAside b ys → LexesAside (a ++ 10 ∷ b) (xs ++ ys)
lexes_behind a b xs ys x y = record {
  pieces = x.pieces ++ line_feed ∷ y.pieces;
  reads = reads_behind a b x.pieces y.pieces x.reads y.reads;
  carried = are_carried-append x.pieces (line_feed ∷ y.pieces) x.carried y.carried;
  tokens_are = filter-append is_token x.pieces (line_feed ∷ y.pieces) ∙ (λ i. x.tokens_are i ++ y.tokens_are i) ∙ sym (map-append piece_of xs ys);
}

-- the empty text has no tokens
pub lexes_nothing : LexesAside [] []
lexes_nothing = record { pieces = []; reads = refl; carried = refl; tokens_are = refl }

-- a line feed at the end changes no tokens
pub lexes-line_feed : (a : List ℕ) (xs : List Lexeme) → LexesAside a xs → LexesAside (a ++ 10 ∷ []) xs
lexes-line_feed a xs x = subst (λ ys. LexesAside (a ++ 10 ∷ []) ys) (append-nil xs) (lexes_behind a [] xs [] x lexes_nothing)
