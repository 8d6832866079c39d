-- The order in which a trait goes over the fields that take part.
use Rattle.std.specs.Prelude.{◌≡◌, Bool, true, false, List, IsPermutation}
use Rattle.educe_bound_traits.specs.declared.traits.Trait.{Trait}
use Rattle.educe_settings.specs.Ranks.{Rises}
use Rattle.educe_settings.specs.Rows.{is_order}
use Rattle.educe_settings.specs.Settings.{Kept}

-- The sorted fields are the kept ones, in the order of their ranks.
pub record IsByRank (kept sorted : List Kept) : Type 0 where
  pub same : IsPermutation kept sorted
  pub rises : Rises (λ (k : Kept). k.rank) sorted

-- The ordered fields are the kept ones: with true by rank, and else as they are written.
abbrev pub IsOrdered : Bool → List Kept → List Kept → Type 0
IsOrdered true kept ordered = IsByRank kept ordered
IsOrdered false kept ordered = ordered ≡ kept

-- The order in which a trait goes over the fields: the two orders by rank, and the others as they are written.
abbrev pub IsInOrder : Trait → List Kept → List Kept → Type 0
IsInOrder which = IsOrdered (is_order which)
