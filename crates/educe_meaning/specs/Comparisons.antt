-- The traits that compare.
use Rattle.educe_bound_traits.specs.declared.traits.Trait.{Trait}
use Rattle.educe_bound_traits.specs.declared.traits.Trait.TheVariants as trait
use Rattle.educe_body_forms.specs.declared.comparison.Comparison.{Comparison}
use Rattle.educe_body_forms.specs.declared.comparison.Comparison.TheVariants.{PartialEq, PartialOrd, Ord}

-- The trait, among all that can be derived.
abbrev pub trait_of : Comparison → Trait
trait_of PartialEq = trait.PartialEq
trait_of PartialOrd = trait.PartialOrd
trait_of Ord = trait.Ord
