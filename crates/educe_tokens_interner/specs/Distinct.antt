-- Items of lists, and lists without repetitions.
use Rattle.std.specs.Prelude.{◌≡◌, ◌⊎◌, List, [], ◌∷◌}

-- The item is in the list.
abbrev pub Has : {K : Type 0} → List K → K → Type 0
Has [] k = ⊥
Has (h ∷ hs) k = (h ≡ k) ⊎ Has hs k

-- The items of the list are pairwise distinct.
abbrev pub AreDistinct : {K : Type 0} → List K → Type 0
AreDistinct [] = Unit {0}
AreDistinct (k ∷ ks) = (Has ks k → ⊥) × AreDistinct ks
