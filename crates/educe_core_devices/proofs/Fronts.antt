-- Fronts and rests of lists.
use Rattle.std.proofs.Common.{◌≡◌, ℕ, ◌+◌, List, ◌++◌, length, take, drop, sym, ap, ◌∙◌, refl}
use Rattle.std.proofs.Math.Seq.{take-append_seam}
use Rattle.std.proofs.lemmas.List.{take-append-drop, drop-drop}

-- what was copied to the front of the room, and the rest of the list, are the list behind the place
pub copied_front : (xs room copied : List ℕ) (place count : ℕ) → copied ≡ take count (drop place xs) → length copied ≡ count → drop place xs ≡ take count (copied ++ room) ++ drop (place + count) xs
copied_front xs room copied place count front size =
    let one : take count (copied ++ room) ≡ copied = ap (λ n. take n (copied ++ room)) (sym size) ∙ take-append_seam copied room in
    let two : drop (place + count) xs ≡ drop count (drop place xs) = sym (drop-drop count place xs) in
    sym (take-append-drop count (drop place xs)) ∙ rw (one, two, front) refl
