-- The types of the fields that are visited, one case behind the other.
use Rattle.std.specs.Prelude.{◌≡◌, List, ◌++◌}
use Rattle.educe_syntax.specs.DeriveInput.{DeriveInput}
use Rattle.educe_syntax.specs.Field.{Field}
use Rattle.educe_bound_traits.specs.declared.traits.Trait.{Trait}
use Rattle.educe_settings.specs.declared.seen_types.SeenTypes.{SeenTypes}
use Rattle.educe_settings.specs.SeenTypes.{read_of, touched_of}
use Rattle.educe_settings.specs.Settings.{Kept}
use Rattle.educe_settings.specs.Types.{AreVisited, read_types, touched_types}

-- Behind what was seen before stand the types of the fields of these cases that take part, in the order of the trait.
pub record Sees (which : Trait) (definition : DeriveInput) (cases : List (List Field)) (before after : SeenTypes) : Type 0 where
  pub own : List Kept
  pub own_are : AreVisited which definition cases own
  pub read_is : read_of after ≡ read_of before ++ read_types own
  pub touched_is : touched_of after ≡ touched_of before ++ touched_types own

-- Behind what was seen before stand the types of these fields.
pub record SeesEach (fields : List Kept) (before after : SeenTypes) : Type 0 where
  pub read_is : read_of after ≡ read_of before ++ read_types fields
  pub touched_is : touched_of after ≡ touched_of before ++ touched_types fields
