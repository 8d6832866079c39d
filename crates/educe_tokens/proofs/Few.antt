-- A text has no more tokens than characters.
use Rattle.std.proofs.Common.{◌≡◌, ℕ, ◌<◌, ◌≤◌, Bool, Option, Some, List, [], ◌∷◌, ◌++◌, length, map, filter, ap, ◌∙◌, subst, arith, length-append, IsUtf8, chars}
use Rattle.std.proofs.lemmas.Bool.{cond_both}
use Rattle.std.proofs.lemmas.Str.{length-le-encodes, encodes-chars}
use Rattle.educe_tokens_pieces.specs.declared.kind.PieceKind.{PieceKind}
use Rattle.educe_tokens_scan.specs.Reading.{Piece, IsPiece, Reads}
use Rattle.educe_tokens_scan.specs.Scan.{piece_at}
use Rattle.educe_tokens_scan.proofs.Readings.{IsFound, piece_is, piece_finds}
use Rattle.educe_tokens.specs.declared.token.Token.{Token}
use Rattle.educe_tokens.specs.Lexes.{lexemes, piece_of, Lexes, is_token}

-- what the scan answers is not empty
found_some : (text : List ℕ) (o : Option (PieceKind × ℕ)) (kind : PieceKind) (n : ℕ) → IsFound text o → o ≡ Some (kind, n) → 0 < n
found_some text o kind n found is = let some = subst (IsFound text) is found in some.1

-- no piece is empty
pub not_empty : (p : Piece) (rest : List ℕ) → IsPiece p rest → 0 < length p.spelling
not_empty p rest h = let text : List ℕ = p.spelling ++ rest in found_some text (piece_at text) p.kind (length p.spelling) (piece_is text) (piece_finds p rest h)

-- the pieces are no more than the characters of the text
pieces_few : (text : List ℕ) (ps : List Piece) → Reads text ps [] → length ps ≤ length text
pieces_few text [] a = omega arith
pieces_few text (p ∷ ps) a =
    let more = pieces_few a.0 ps a.4 in
    let some = not_empty p a.0 a.2 in
    let whole = ap length a.1 ∙ length-append p.spelling a.0 in
    omega arith

-- what is left of a list is no longer than it
length-filter-le : {A : Type 0} (test : A → Bool) (xs : List A) → length (filter test xs) ≤ length xs
length-filter-le test [] = omega arith
length-filter-le test (x ∷ xs) =
    let more = length-filter-le test xs in
    cond_both (test x) (x ∷ filter test xs) (filter test xs) (λ ys. length ys ≤ length (x ∷ xs)) (λ _. omega arith) (λ _. omega arith)

-- a piece for each token
length-pieces : (ts : List Token) → length (map piece_of (lexemes ts)) ≡ length ts
length-pieces [] = omega arith
length-pieces (t ∷ ts) = let more = length-pieces ts in omega arith

-- the tokens are no more than the characters of the text
lexes_few : (text : List ℕ) (ts : List Token) → Lexes text ts → length ts ≤ length text
lexes_few text ts a =
    let pieces = pieces_few text a.pieces a.reads in
    let tokens = length-filter-le is_token a.pieces in
    let same = ap length a.tokens_are ∙ length-pieces ts in
    omega arith

-- the tokens are no more than the bytes of the text
pub lexes_few_bytes : (source : List ℕ) (ts : List Token) → IsUtf8 source → Lexes (chars source) ts → length ts ≤ length source
lexes_few_bytes source ts text a =
    let few = lexes_few (chars source) ts a in
    let bytes = length-le-encodes (chars source) in
    let same = ap length (encodes-chars source text) in
    omega arith
