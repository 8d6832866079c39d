-- Lists in the order of ranks, and what the first element says that is not Equal.
use Rattle.std.specs.Prelude.{◌≡◌, ℤ, Bool, true, false, List, [], ◌∷◌, Option, Some, None, int_lt, if◌then◌else◌}
use Rattle.std.specs.declared.cmp.Ordering.{Ordering}
use Rattle.std.specs.declared.cmp.Ordering.TheVariants.{Less, Equal, Greater}
use Rattle.std.specs.Ordering.{partial_ordering_then}

-- The first element that passes.
abbrev pub first_where : {X : Type 0} → (X → Bool) → List X → Option X
first_where p [] = None
first_where p (x ∷ xs) = if p x then Some x else first_where p xs

-- An element among others whose ranks rise: behind those of lower rank, before those of its own.
abbrev pub placed : {X : Type 0} → (X → ℤ) → X → List X → List X
placed rank x [] = x ∷ []
placed rank x (y ∷ ys) = if int_lt (rank y) (rank x) then y ∷ placed rank x ys else x ∷ y ∷ ys

-- The elements in the order of ranks, those of one rank as they came.
abbrev pub ranked : {X : Type 0} → (X → ℤ) → List X → List X
ranked rank [] = []
ranked rank (x ∷ xs) = placed rank x (ranked rank xs)

-- The order of the first element that is not Equal.
abbrev pub leading : {X : Type 0} → (X → Option Ordering) → List X → Option Ordering
leading order [] = Some Equal
leading order (x ∷ xs) = partial_ordering_then (order x) (leading order xs)

-- Less or Equal.
abbrev pub is_up : Option Ordering → Bool
is_up None = false
is_up (Some Less) = true
is_up (Some Equal) = true
is_up (Some Greater) = false

-- Of three orders, where each of the first two is Less or Equal, the third is the first of them that is not Equal.
abbrev pub IsChain : Option Ordering → Option Ordering → Option Ordering → Type 0
IsChain o p q = is_up o ≡ true → is_up p ≡ true → q ≡ partial_ordering_then o p
