-- The traits that metas name.
use Rattle.std.specs.Prelude.{◌≡◌, Bool, true, false, if◌then◌else◌, List, [], ◌∷◌, ◌++◌, Option, Some, None, Result, Ok, Err}
use Rattle.educe_tokens.specs.declared.error.Kind.TheVariants.{UnsupportedTrait, TraitNotUsed}
use Rattle.educe_bound_traits.specs.declared.traits.Trait.{Trait}
use Rattle.educe_bound_traits.specs.Named.{trait_named}
use Rattle.educe_bound_traits.specs.Traits.{is_listed, same_trait}
use Rattle.educe_syntax.specs.Meta.{Meta}
use Rattle.educe_syntax.specs.Meta.TheVariants as said
use Rattle.educe_syntax.specs.MetaPath.{MetaPath}
use Rattle.educe_attrs_values.specs.Chains.{and_then}
use Rattle.educe_attrs_values.specs.declared.stop.Stop.{Stop}
use Rattle.educe_attrs_values.specs.declared.stop.Stop.TheVariants.{Refused}
use Rattle.educe_attrs_values.specs.Refusals.{at_name}

-- The trait that a meta names, if it names one.
abbrev pub trait_of : Meta → Option Trait
trait_of (said.Word path) = trait_named path
trait_of (said.List path tokens place) = trait_named path
trait_of (said.NameValue path value place) = trait_named path
trait_of (said.Doc t) = None
trait_of (said.Unread path tokens place) = None

-- The optional trait is this one.
abbrev pub is_trait : Trait → Option Trait → Bool
is_trait which None = false
is_trait which (Some other) = same_trait which other

-- The meta is of this trait.
abbrev pub is_of : Trait → Meta → Bool
is_of which m = is_trait which (trait_of m)

-- Two metas are of the trait, and this one is the later.
pub record IsReused (which : Trait) (found : List Meta) (later : Meta) : Type 0 where
  pub front : List Meta
  pub earlier : Meta
  pub between : List Meta
  pub rest : List Meta
  pub is : found ≡ (front ++ earlier ∷ between) ++ later ∷ rest
  pub earlier_is : is_of which earlier ≡ true
  pub later_is : is_of which later ≡ true

-- ---- the check that traits are listed

-- The rejection at the name of a meta, unless it names one of the listed traits.
abbrev pub unless_listed : List Trait → MetaPath → Option Trait → Result (Unit {0}) Stop
unless_listed listed path None = Err (Refused (at_name UnsupportedTrait path))
unless_listed listed path (Some which) = if is_listed listed which then Ok tt else Err (Refused (at_name TraitNotUsed path))

-- The path names a listed trait, as a program.
abbrev pub checked_path : List Trait → MetaPath → Result (Unit {0}) Stop
checked_path listed path = unless_listed listed path (trait_named path)

-- The meta is of a listed trait, as a program.
abbrev pub checked : List Trait → Meta → Result (Unit {0}) Stop
checked listed (said.Word path) = checked_path listed path
checked listed (said.List path tokens place) = checked_path listed path
checked listed (said.NameValue path value place) = checked_path listed path
checked listed (said.Doc t) = Ok tt
checked listed (said.Unread path tokens place) = Ok tt

-- Rejects the first of the metas that names no listed trait.
abbrev pub all_checked : List Trait → List Meta → Result (Unit {0}) Stop
all_checked listed [] = Ok tt
all_checked listed (m ∷ ms) = and_then (λ _. all_checked listed ms) (checked listed m)
