-- The types that the bounds of a trait speak of.
use Rattle.std.specs.Prelude.{◌≡◌, Bool, true, false, List, [], ◌∷◌, ◌++◌, map, Option, Some, None}
use Rattle.std.specs.List.{filter_map, flat_map}
use Rattle.educe_syntax.specs.DeriveInput.{DeriveInput}
use Rattle.educe_syntax.specs.Few.{all_fields}
use Rattle.educe_syntax.specs.Field.{Field}
use Rattle.educe_syntax.specs.Ty.{Ty}
use Rattle.educe_bound_traits.specs.declared.traits.Trait.{Trait}
use Rattle.educe_bound_traits.specs.declared.traits.Trait.TheVariants as trait
use Rattle.educe_bound_traits.specs.Traits.{is_listed}
use Rattle.educe_settings.specs.Cases.{cases_of}
use Rattle.educe_settings.specs.Copying.{copies_whole}
use Rattle.educe_settings.specs.Defaults.{default_types}
use Rattle.educe_settings.specs.Listed.{listed}
use Rattle.educe_settings.specs.Settings.{Kept, How, plainly, by_method, by_order, kept_fields}
use Rattle.educe_settings.specs.Shown.{all_shown}
use Rattle.educe_settings.specs.Order.{IsInOrder}

-- ---- the types of fields

-- The fields that take part, in the order in which the trait goes over those of each case, and one case behind the other.
abbrev pub AreVisited : Trait → DeriveInput → List (List Field) → List Kept → Type 0
AreVisited which definition [] visited = visited ≡ []
AreVisited which definition (fields ∷ cases) visited =
    (own : List Kept) × (more : List Kept) × (visited ≡ own ++ more) × IsInOrder which (kept_fields which definition fields) own × AreVisited which definition cases more

-- The type of a field.
abbrev pub type_of : Kept → Ty
type_of kept = kept.field.ty

-- The type of a field on which the trait's own function is called.
abbrev pub touched_by : How → Ty → Option Ty
touched_by plainly ty = Some ty
touched_by (by_method path) ty = None
touched_by (by_order path) ty = None

-- The types of the fields that are read.
abbrev pub read_types : List Kept → List Ty
read_types visited = map type_of visited

-- The types of those on which the trait's own function is called.
abbrev pub touched_types : List Kept → List Ty
touched_types visited = filter_map (λ k. touched_by k.how (type_of k)) visited

-- The types are those of the fields that take part: all of these are read, and on some the trait's own function is called.
pub record AreOfFields (which : Trait) (definition : DeriveInput) (read touched : List Ty) : Type 0 where
  pub visited : List Kept
  pub visited_are : AreVisited which definition (cases_of definition) visited
  pub read_are : read ≡ read_types visited
  pub touched_are : touched ≡ touched_types visited

-- ---- the types that are checked

-- The types that `Eq` is checked of: with true those of the fields that `PartialEq` compares by its own function, as they are
-- written, and else those of all fields.
abbrev pub checked_with : Bool → DeriveInput → List Ty
checked_with true definition = touched_types (flat_map (kept_fields trait.PartialEq definition) (cases_of definition))
checked_with false definition = map (λ (f : Field). f.ty) (all_fields definition)

-- The types of which `Eq` is checked, by whether `PartialEq` is listed.
abbrev pub checked_types : DeriveInput → List Ty
checked_types definition = checked_with (is_listed (listed definition) trait.PartialEq) definition

-- ---- the types of each trait

-- No field is read, and these types have to have the trait: the checked ones for `Eq`, those without a value for `Default`, those
-- of all fields for `Copy`.
pub record AreUnread (types read touched : List Ty) : Type 0 where
  pub none_read : read ≡ []
  pub touched_are : touched ≡ types

-- The types for `Clone`: with true, where values are copied as a whole, none are read, and else those of all fields that take
-- part.
abbrev pub AreCloneTypes : Bool → DeriveInput → List Ty → List Ty → Type 0
AreCloneTypes true definition read touched = AreUnread [] read touched
AreCloneTypes false definition read touched = AreOfFields trait.Clone definition read touched

-- All of these fields are read, and on some the trait's own function is called.
pub record AreOfThese (visited : List Kept) (read touched : List Ty) : Type 0 where
  pub read_are : read ≡ read_types visited
  pub touched_are : touched ≡ touched_types visited

-- The types of the fields that the functions of a trait read, and the types that have to have the trait.
abbrev pub AreTypes : Trait → DeriveInput → List Ty → List Ty → Type 0
AreTypes trait.Clone definition read touched = AreCloneTypes (copies_whole definition) definition read touched
AreTypes trait.Copy definition read touched = AreUnread (map (λ (f : Field). f.ty) (all_fields definition)) read touched
AreTypes trait.PartialEq definition read touched = AreOfFields trait.PartialEq definition read touched
AreTypes trait.Eq definition read touched = AreUnread (checked_types definition) read touched
AreTypes trait.PartialOrd definition read touched = AreOfFields trait.PartialOrd definition read touched
AreTypes trait.Ord definition read touched = AreOfFields trait.Ord definition read touched
AreTypes trait.Hash definition read touched = AreOfFields trait.Hash definition read touched
AreTypes trait.Debug definition read touched = AreOfThese (all_shown definition) read touched
AreTypes trait.Default definition read touched = AreUnread (default_types definition) read touched
