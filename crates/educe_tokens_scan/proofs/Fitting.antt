-- Pieces that fronts of a text make with what stands before them.
use Rattle.std.proofs.Common.{◌≡◌, ℕ, suc, ◌+◌, ◌≤◌, Bool, true, Option, Some, None, List, ◌∷◌, ◌++◌, length, take, sym, ap, ◌∙◌, subst, arith}
use Rattle.educe_tokens_pieces.specs.declared.kind.PieceKind.{PieceKind}
use Rattle.educe_tokens_pieces.specs.Pieces.{is_piece}
use Rattle.educe_tokens_pieces.specs.Fits.{Fits, FrontPasses}
use Rattle.educe_tokens_pieces.proofs.Lists.{same_length}
use Rattle.educe_tokens_scan.specs.Scan.{longer_by, candidate}

-- a character and the next ones fit, where they are a piece
pub longer_fits : (kind : PieceKind) (c : ℕ) (cs : List ℕ) (n : ℕ) → n ≤ length cs → is_piece kind (c ∷ take n cs) ≡ true → Fits (c ∷ cs) (Some (kind, 1 + n))
longer_fits kind c cs n h e =
    let one : suc n ≡ 1 + n = omega arith in
    (subst (λ k. is_piece kind (take k (c ∷ cs)) ≡ true) one e, omega arith, omega arith)

-- behind one character: what passes is a piece with it
pub behind_one : (test : List ℕ → Bool) (kind : PieceKind) (c : ℕ) (cs : List ℕ) (o : Option ℕ) → FrontPasses test cs o → ((s : List ℕ) → test s ≡ true → is_piece kind (c ∷ s) ≡ true) → Fits (c ∷ cs) (longer_by 1 kind o)
behind_one test kind c cs None h f = tt
behind_one test kind c cs (Some n) h f = longer_fits kind c cs n h.2 (f (take n cs) h.0)

-- behind two characters: what passes is a piece with them
pub behind_two : (test : List ℕ → Bool) (kind : PieceKind) (c d : ℕ) (cs : List ℕ) (o : Option ℕ) → FrontPasses test cs o → ((s : List ℕ) → test s ≡ true → is_piece kind (c ∷ d ∷ s) ≡ true) → Fits (c ∷ d ∷ cs) (longer_by 2 kind o)
behind_two test kind c d cs None h f = tt
behind_two test kind c d cs (Some n) h f =
    let two : suc (suc n) ≡ 2 + n = omega arith in
    (subst (λ k. is_piece kind (take k (c ∷ d ∷ cs)) ≡ true) two (f (take n cs) h.0), omega arith, omega arith)

-- what was found behind so many characters is found with them
pub longer_found : (k n m : ℕ) (kind : PieceKind) (o : Option ℕ) → o ≡ Some n → k + n ≡ m → longer_by k kind o ≡ Some (kind, m)
longer_found k n m kind o h e = ap (longer_by k kind) h ∙ same_length kind _ _ e

-- a piece that is one character and what was found behind it is found
pub behind_one_found : (kind : PieceKind) (c : ℕ) (s cs r : List ℕ) (o : Option ℕ) → s ≡ c ∷ cs → candidate (c ∷ (cs ++ r)) ≡ longer_by 1 kind o → o ≡ Some (length cs) → candidate (s ++ r) ≡ Some (kind, length s)
behind_one_found kind c s cs r o is tries found = subst (λ x. candidate (x ++ r) ≡ Some (kind, length x)) (sym is) (tries ∙ longer_found 1 (length cs) _ kind o found (omega arith))

-- a piece that is two characters and what was found behind them is found
pub behind_two_found : (kind : PieceKind) (c d : ℕ) (s cs r : List ℕ) (o : Option ℕ) → s ≡ c ∷ d ∷ cs → candidate (c ∷ d ∷ (cs ++ r)) ≡ longer_by 2 kind o → o ≡ Some (length cs) → candidate (s ++ r) ≡ Some (kind, length s)
behind_two_found kind c d s cs r o is tries found = subst (λ x. candidate (x ++ r) ≡ Some (kind, length x)) (sym is) (tries ∙ longer_found 2 (length cs) _ kind o found (omega arith))
