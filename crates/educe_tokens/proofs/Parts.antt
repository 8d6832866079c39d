-- Parts of parts of lists.
use Rattle.std.proofs.Common.{◌≡◌, ◌+◌, ◌-◌, ◌≤◌, ℕ, List, take, drop, ap, ◌∙◌, arith}
use Rattle.std.specs.Prelude.{slice_range}
use Rattle.std.proofs.lemmas.List.{take-take, drop-drop, drop-take}

-- the front of a part, without its own front
drop-range : {X : Type 0} (xs : List X) (start end from : ℕ) → start + from ≤ end → drop from (slice_range xs start end) ≡ slice_range xs (start + from) end
drop-range xs start end from h =
    let split : end - start ≡ from + (end - (start + from)) = omega arith in
    ap (λ n. drop from (take n (drop start xs))) split
    ∙ drop-take from (end - (start + from)) (drop start xs)
    ∙ ap (take (end - (start + from))) (drop-drop from start xs)

-- a part of a part is a part of the list
pub range-range : {X : Type 0} (xs : List X) (start end from to : ℕ) → from ≤ to → start + to ≤ end → slice_range (slice_range xs start end) from to ≡ slice_range xs (start + from) (start + to)
range-range xs start end from to h g =
    let same : to - from ≡ start + to - (start + from) = omega arith in
    ap (take (to - from)) (drop-range xs start end from (omega arith))
    ∙ take-take (to - from) (end - (start + from)) (drop (start + from) xs) (omega arith)
    ∙ ap (λ n. take n (drop (start + from) xs)) same
