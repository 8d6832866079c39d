-- The causes of the last phase, in which handlers run.
use Rattle.std.specs.Prelude.{List, Contains, ◌⊎◌}
use Rattle.educe_bound_traits.specs.declared.traits.Trait.{Trait}
use Rattle.educe_attrs_places.specs.Causes.{Cause}

-- The causes of handlers: those of the lists of the definition's places, and those of each trait.
pub record Handling : Type 1 where
  pub InLists : Cause
  pub Own : Trait → Cause

-- The causes for which a handler of the trait rejects: those of the lists, and its own.
abbrev pub OfHandler : Handling → Trait → Cause
OfHandler h which = λ e. h.InLists e ⊎ h.Own which e

-- The causes of the last phase: those of the handlers of the listed traits.
abbrev pub OfLast : Handling → List Trait → Cause
OfLast h listed = λ e. h.InLists e ⊎ ((which : Trait) × Contains listed which × h.Own which e)
