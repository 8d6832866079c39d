-- The order of ranks.
use Rattle.std.specs.Prelude.{ℕ, ℤ, ◌≡◌, ◌≢◌, ◌+◌, ◌<◌, ◌≤◌, ◌<ℤ◌, slice_index_or, length, List, [], ◌∷◌, Option, Some, None, map, int_lt, if◌then◌else◌}
use Rattle.std.specs.List.{AllByRecursion, IsDistinct}
use Rattle.std.specs.Ordering.{int_eq}

-- The one of lower rank of an element and another, if there is another.
abbrev pub lesser : {X : Type 0} → (X → ℤ) → X → Option X → Option X
lesser rank x None = Some x
lesser rank x (Some y) = if int_lt (rank y) (rank x) then Some y else Some x

-- The element of least rank.
abbrev pub least_by : {X : Type 0} → (X → ℤ) → List X → Option X
least_by rank [] = None
least_by rank (x ∷ xs) = lesser rank x (least_by rank xs)

-- The ranks rise: each is below those of all later elements.
abbrev pub Rises : {X : Type 0} → (X → ℤ) → List X → Type 0
Rises rank [] = Unit {0}
Rises rank (x ∷ xs) = AllByRecursion (λ y. rank x <ℤ rank y) xs × Rises rank xs

-- No two elements have one rank.
abbrev pub AreRanksApart : {X : Type 0} → (X → ℤ) → List X → Type 0
AreRanksApart rank xs = IsDistinct int_eq (map rank xs)

-- Of fields sorted by rank: no two neighbours have one rank.
abbrev pub NeighboursDiffer : {X : Type 0} → (X → ℤ) → List X → Type 0
NeighboursDiffer {X} rank xs = (k : ℕ) (d : X) → k + 1 < length xs → rank (slice_index_or xs k d) ≢ rank (slice_index_or xs (k + 1) d)

-- The element at this place and the next one have one rank.
pub record IsRepeatAt {X : Type 0} (rank : X → ℤ) (xs : List X) (k : ℕ) : Type 0 where
  pub within : k + 1 < length xs
  pub same : (d : X) → rank (slice_index_or xs k d) ≡ rank (slice_index_or xs (k + 1) d)

-- Of all neighbours of one rank, those at this place have their second one written first.
abbrev pub IsEarliestRepeat : {X : Type 0} → (X → ℤ) → (X → ℕ) → List X → ℕ → Type 0
IsEarliestRepeat {X} rank place xs k =
    (j : ℕ) (d : X) → j + 1 < length xs → rank (slice_index_or xs j d) ≡ rank (slice_index_or xs (j + 1) d)
    → place (slice_index_or xs (k + 1) d) ≤ place (slice_index_or xs (j + 1) d)
