-- The bounds that the parameter `bound` of a trait sets.
use Rattle.std.specs.Prelude.{◌≡◌, true, false}
use Rattle.educe_syntax.specs.Meta.{Meta}
use Rattle.educe_attrs_values.specs.declared.choices.WherePredicatesOrBool.{WherePredicatesOrBool}
use Rattle.educe_attrs_values.specs.declared.choices.WherePredicatesOrBool.TheVariants as value
use Rattle.educe_attrs_values.specs.declared.kind.ValueKind.TheVariants as kind
use Rattle.educe_attrs_values.specs.Values.{Holds}
use Rattle.educe_bound.specs.declared.bound.Bound.{Bound}
use Rattle.educe_bound.specs.declared.bound.Bound.TheVariants.{Disabled, Auto, All, Custom}

-- The bound that a value of `bound` stands for.
abbrev pub bound_of : WherePredicatesOrBool → Bound
bound_of (value.WherePredicates predicates) = Custom predicates
bound_of (value.Bool true) = Auto
bound_of (value.Bool false) = Disabled
bound_of value.All = All

-- The meta has a value of the kind of `bound`, and the bound is the one that it stands for.
pub record SaysBound (meta : Meta) (bound : Bound) : Type 0 where
  pub value : WherePredicatesOrBool
  pub holds : Holds kind.Bound meta value
  pub is : bound ≡ bound_of value
