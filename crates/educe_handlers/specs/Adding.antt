-- The predicates that an impl adds.
use Rattle.std.specs.Prelude.{List}
use Rattle.educe_syntax.specs.DeriveInput.{DeriveInput}
use Rattle.educe_bound_traits.specs.declared.traits.Trait.{Trait}
use Rattle.educe_bound.specs.declared.bound.Bound.{Bound}
use Rattle.educe_bound.specs.declared.bound.Bound.TheVariants.{Disabled, Auto, All, Custom}
use Rattle.educe_bound.specs.Predicates.{Key}
use Rattle.educe_meaning.specs.Headers.{AreAdded}

-- The predicates of the bound are made by a rule, from the types of fields or from the type parameters.
abbrev pub IsByRule : Bound → Type 0
IsByRule Auto = Unit {0}
IsByRule All = Unit {0}
IsByRule Disabled = ⊥
IsByRule (Custom predicates) = ⊥

-- The predicates that the impl of a trait adds, by those that it inherits.
pub record Adds (which : Trait) (definition : DeriveInput) (inherited all : List Key) : Type 0 where
  pub own : List Key
  pub are : AreAdded which definition inherited own all
