-- Readings of a text, one piece at a time.
use Rattle.std.proofs.Common.{◌≡◌, ℕ, ◌<◌, ◌≤◌, Bool, cond, Option, Some, None, List, [], ◌∷◌, ◌++◌, length, take, drop, refl, sym, ap, ◌∙◌, subst, arith, take-append-drop}
use Rattle.std.proofs.Math.Seq.{take-append_seam, drop-append_seam}
use Rattle.std.proofs.lemmas.Bool.{and_parts, and_from, cond_both}
use Rattle.educe_tokens_pieces.specs.declared.kind.PieceKind.{PieceKind}
use Rattle.educe_tokens_pieces.specs.Pieces.{is_piece, may_precede}
use Rattle.educe_tokens_pieces.specs.Fits.{Fits}
use Rattle.educe_tokens_scan.specs.Scan.{candidate, checked, piece_at}
use Rattle.educe_tokens_scan.specs.Reading.{Piece, front_piece, IsPiece, IsLongest, Reads, FitsNone}
use Rattle.educe_tokens_scan.proofs.Front.{candidate_fits, candidate_finds}

-- what the scan found is a piece before the rest, and not empty
abbrev pub IsFound : List ℕ → Option (PieceKind × ℕ) → Type 0
IsFound text None = Unit {0}
IsFound text (Some found) = IsPiece (front_piece text found) (drop found.1 text) × (0 < found.1) × (found.1 ≤ length text)

-- a candidate that passes the check is found
checked_found : (text : List ℕ) (o : Option (PieceKind × ℕ)) → Fits text o → IsFound text (checked text o)
checked_found text None h = tt
checked_found text (Some found) h = cond_both (may_precede found.0 (take found.1 text) (drop found.1 text)) (Some found) None (IsFound text) (λ e. (and_from _ _ h.0 e, h.1, h.2)) (λ _. tt)

-- what the scan finds is a piece
pub piece_is : (text : List ℕ) → IsFound text (piece_at text)
unfolding piece_at
piece_is text = checked_found text (candidate text) (candidate_fits text)

-- what the scan finds is a piece, where its answer has a name
pub found_is : (rest : List ℕ) (o : Option (PieceKind × ℕ)) (kind : PieceKind) (n : ℕ) → o ≡ piece_at rest → o ≡ Some (kind, n) → IsFound rest (Some (kind, n))
found_is rest o kind n given is = subst (IsFound rest) (sym given ∙ is) (piece_is rest)

-- there is no piece in the empty text
pub no_piece_at_end : piece_at [] ≡ None
unfolding piece_at
no_piece_at_end = refl

-- the scan finds each piece
pub piece_finds : (p : Piece) (rest : List ℕ) → IsPiece p rest → piece_at (p.spelling ++ rest) ≡ Some (p.kind, length p.spelling)
unfolding piece_at
piece_finds p rest h =
    let both = and_parts (is_piece p.kind p.spelling) (may_precede p.kind p.spelling rest) h in
    let found = candidate_finds p.kind p.spelling rest both.0 both.1 in
    rw (found, take-append_seam p.spelling rest, drop-append_seam p.spelling rest, both.1) refl

-- pieces are equal where their parts are
same_piece : (p q : Piece) → p.kind ≡ q.kind → p.spelling ≡ q.spelling → p ≡ q
same_piece p q a b = λ i. record { kind = a i; spelling = b i }

-- the answer of the scan, or an empty one
abbrev or_none : PieceKind → Option (PieceKind × ℕ) → PieceKind × ℕ
or_none kind None = (kind, 0)
or_none kind (Some x) = x

-- equal answers of the scan have equal parts
pub same_found : (f g : PieceKind) (m n : ℕ) → ◌≡◌ {A = Option (PieceKind × ℕ)} (Some (f, m)) (Some (g, n)) → (f ≡ g) × (m ≡ n)
same_found f g m n h = (ap (λ o. (or_none f o).0) h, ap (λ o. (or_none f o).1) h)

-- the scan doesn't answer both
pub none_not_found : (x : PieceKind × ℕ) → ◌≡◌ {A = Option (PieceKind × ℕ)} None (Some x) → ⊥
none_not_found x h = cc

-- at one place there is one piece
pub one_piece : (p q : Piece) (x y : List ℕ) → IsPiece p x → IsPiece q y → p.spelling ++ x ≡ q.spelling ++ y → (p ≡ q) × (x ≡ y)
one_piece p q x y a b h =
    let same = same_found _ _ _ _ (sym (piece_finds p x a) ∙ ap piece_at h ∙ piece_finds q y b) in
    let text = sym (take-append_seam p.spelling x) ∙ (λ i. take (same.1 i) (h i)) ∙ take-append_seam q.spelling y in
    (same_piece p q same.0 text, sym (drop-append_seam p.spelling x) ∙ (λ i. drop (same.1 i) (h i)) ∙ drop-append_seam q.spelling y)

-- the piece at a place is the longest there
pub piece_longest : (p : Piece) (text rest : List ℕ) → text ≡ p.spelling ++ rest → IsPiece p rest → IsLongest p text
piece_longest p text rest e h = λ q more f k.
    let same = ap (λ (x : Piece). length x.spelling) (one_piece p q rest more h k (sym e ∙ f)).0 in
    omega arith

-- a reading goes on by the next piece
pub reads_push : (text rest : List ℕ) (ps : List Piece) (p : Piece) → Reads text ps (p.spelling ++ rest) → IsPiece p rest → Reads text (ps ++ p ∷ []) rest
reads_push text rest [] p a h = (rest, a, h, piece_longest p text rest a h, refl)
reads_push text rest (x ∷ ps) p a h = (a.0, a.1, a.2, a.3, reads_push a.0 rest ps p a.4 h)

-- two readings agree as far as the first goes
pub reads_on : (text rest : List ℕ) (ps qs : List Piece) → Reads text ps rest → Reads text qs [] → (us : List Piece) × (qs ≡ ps ++ us) × Reads rest us []
reads_on text rest [] qs a b = (qs, refl, subst (λ t. Reads t qs []) a b)
reads_on text rest (p ∷ ps) [] a b =
    absurd (none_not_found _ (sym no_piece_at_end ∙ ap piece_at (sym b ∙ a.1) ∙ piece_finds p a.0 a.2))
reads_on text rest (p ∷ ps) (q ∷ qs) a b =
    let same = one_piece p q a.0 b.0 a.2 b.2 (sym a.1 ∙ b.1) in
    let on = reads_on a.0 rest ps qs a.4 (subst (λ t. Reads t qs []) (sym same.1) b.4) in
    (on.0, λ i. sym same.0 i ∷ on.1 i, on.2)

-- where no piece is found, nothing is read
stuck : (rest : List ℕ) (us : List Piece) → 0 < length rest → piece_at rest ≡ None → Reads rest us [] → ⊥
stuck rest [] more none b = absurd (omega (arith, ap length b))
stuck rest (u ∷ us) more none b =
    none_not_found _ (sym none ∙ ap piece_at b.1 ∙ piece_finds u b.0 b.2)

-- where no piece is found, and the text doesn't end, there is no reading
pub no_reading : (text rest : List ℕ) (ps qs : List Piece) → Reads text ps rest → 0 < length rest → piece_at rest ≡ None → Reads text qs [] → ⊥
no_reading text rest ps qs a more none b = let on = reads_on text rest ps qs a b in stuck rest on.0 more none on.2

-- where no piece is found, no front of the text is one
pub fits_none : (rest : List ℕ) → piece_at rest ≡ None → FitsNone rest
fits_none rest none p more e h = none_not_found _ (sym none ∙ ap piece_at e ∙ piece_finds p more h)

-- where there is no candidate, no piece is found
pub none_found : (text : List ℕ) → candidate text ≡ None → piece_at text ≡ None
unfolding piece_at
none_found text h = ap (checked text) h

-- a candidate is found where it may stand before the rest
pub candidate_found : (text spelling rest : List ℕ) (found : PieceKind × ℕ) (b : Bool) → candidate text ≡ Some found → spelling ≡ take found.1 text → rest ≡ drop found.1 text → may_precede found.0 spelling rest ≡ b
    → piece_at text ≡ cond b (Some found) None
unfolding piece_at
candidate_found text spelling rest found b h front back m =
    ap (checked text) h ∙ ap (λ (x : Bool). cond x (Some found) None) ((λ i. may_precede found.0 (sym front i) (sym back i)) ∙ m)

-- what is found is the longest piece
pub found_longest : (text : List ℕ) (found : PieceKind × ℕ) → IsFound text (Some found) → IsLongest (front_piece text found) text
found_longest text found h = piece_longest (front_piece text found) text (drop found.1 text) (sym (take-append-drop found.1 text)) h.0
