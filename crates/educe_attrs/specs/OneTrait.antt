-- The trait of a builder, by its place in the fixed order.
use Rattle.std.specs.Prelude.{ℕ, ◌==◌, if◌then◌else◌}
use Rattle.educe_bound_traits.specs.declared.traits.Trait.{Trait}
use Rattle.educe_bound_traits.specs.declared.traits.Trait.TheVariants.{Debug, Clone, Copy, PartialEq, Eq, PartialOrd, Ord, Hash, Default}

-- The trait at the place, counted from 0; a place after the last stands for the last.
abbrev pub trait_at : ℕ → Trait
trait_at place =
    if place == 0 then Debug
    else if place == 1 then Clone
    else if place == 2 then Copy
    else if place == 3 then PartialEq
    else if place == 4 then Eq
    else if place == 5 then PartialOrd
    else if place == 6 then Ord
    else if place == 7 then Hash
    else Default
