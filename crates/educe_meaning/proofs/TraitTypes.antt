-- What holds of the types of all fields holds of the types that the bounds of each trait speak of.
use Rattle.std.proofs.Common.{◌≡◌, ℕ, ◌+◌, Bool, true, false, List, [], ◌∷◌, Option, Some, None, sym, subst}
use Rattle.std.specs.Prelude.{if◌then◌else◌}
use Rattle.std.specs.List.{AllByRecursion, cons_option, filter_map, flat_map}
use Rattle.educe_syntax.specs.DeriveInput.{DeriveInput}
use Rattle.educe_syntax.specs.Expr.{Expr}
use Rattle.educe_syntax.specs.Few.{shape_fields, all_fields}
use Rattle.educe_syntax.specs.Field.{Field}
use Rattle.educe_syntax.specs.Shape.{Shape}
use Rattle.educe_syntax.specs.Shape.TheVariants.{Struct, Enum}
use Rattle.educe_syntax.specs.Ty.{Ty}
use Rattle.educe_bound_traits.specs.declared.traits.Trait.{Trait}
use Rattle.educe_bound_traits.specs.declared.traits.Trait.TheVariants as trait
use Rattle.educe_bound_traits.specs.Traits.{is_listed}
use Rattle.educe_settings.specs.Cases.{fields_in, shape_cases, cases_of}
use Rattle.educe_settings.specs.Copying.{copies_whole}
use Rattle.educe_settings.specs.Defaults.{choice_of, written_fields, field_value, type_without, default_types}
use Rattle.educe_settings.specs.Listed.{listed}
use Rattle.educe_settings.specs.Settings.{Kept, How, plainly, by_method, by_order, is_kept, kept_at, kept_from, kept_fields}
use Rattle.educe_settings.specs.Shown.{all_shown}
use Rattle.educe_settings.specs.Types.{AreVisited, type_of, touched_by, read_types, touched_types, AreOfFields, checked_with, checked_types, AreUnread, AreCloneTypes, AreTypes}
use Rattle.educe_settings.proofs.Choosing.{written_hold}
use Rattle.educe_settings.proofs.Elements.{each_mapped, each_apart, each_joined}
use Rattle.educe_meaning.proofs.Meanings.{each_in_order}
use Rattle.educe_meaning.proofs.ShownFields.{all_shown_hold}

-- ---- the types of the fields that are visited

module _ (which : Trait) (d : DeriveInput) (P : Field → Type 0) where
  -- what holds of the field
  abbrev Holds : Kept → Type 0
  Holds k = P k.field

  kept_step : (k : Kept) (rest : List Kept) (keeps : Bool) → Holds k → AllByRecursion Holds rest → AllByRecursion Holds (if keeps then k ∷ rest else rest)
  kept_step k rest true here later = (here, later)
  kept_step k rest false here later = later

  -- what holds of each field holds of each that takes part
  kept_hold : (place : ℕ) (fields : List Field) → AllByRecursion P fields → AllByRecursion Holds (kept_from which d place fields)
  kept_hold place [] each = tt
  kept_hold place (f ∷ fs) each = kept_step (kept_at which d place f) (kept_from which d (place + 1) fs) (is_kept which d f) each.0 (kept_hold (place + 1) fs each.1)

  -- what holds of each field holds of each that is visited
  visited_hold : (cases : List (List Field)) (visited : List Kept) → AllByRecursion (AllByRecursion P) cases → AreVisited which d cases visited → AllByRecursion Holds visited
  visited_hold [] visited each are = subst (AllByRecursion Holds) (sym are) tt
  visited_hold (fields ∷ cases) visited each are =
      let own = each_in_order which Holds (kept_fields which d fields) are.0 are.3 (kept_hold 0 fields each.0) in
      subst (AllByRecursion Holds) (sym are.2) (each_joined Holds are.0 are.1 own (visited_hold cases are.1 each.1 are.4))

-- what holds of all fields holds of those of each case
cases_hold : (P : Field → Type 0) (shape : Shape) → AllByRecursion P (shape_fields shape) → AllByRecursion (AllByRecursion P) (shape_cases shape)
cases_hold P (Struct shape) each = (each, tt)
cases_hold P (Enum variants) each = each_mapped (AllByRecursion P) fields_in variants (each_apart P fields_in variants each)

-- ---- the types of each trait

-- what holds of the types of all fields
module _ (P : Ty → Type 0) where
  -- it holds of the type of the field
  abbrev OfField : Field → Type 0
  OfField f = P f.ty

  touched_step : (how : How) (ty : Ty) (rest : List Ty) → P ty → AllByRecursion P rest → AllByRecursion P (cons_option (touched_by how ty) rest)
  touched_step plainly ty rest here later = (here, later)
  touched_step (by_method path) ty rest here later = later
  touched_step (by_order path) ty rest here later = later

  -- of fields of whose types it holds, it holds of the types on which the trait's own function is called
  touched_hold : (visited : List Kept) → AllByRecursion (λ k. OfField k.field) visited → AllByRecursion P (touched_types visited)
  touched_hold [] each = tt
  touched_hold (k ∷ ks) each = touched_step k.how (type_of k) (touched_types ks) each.0 (touched_hold ks each.1)

  -- the types that are read, and those that have to have the trait
  abbrev Hold : List Ty → List Ty → Type 0
  Hold read touched = AllByRecursion P read × AllByRecursion P touched

  -- where these fields are read, it holds of both
  these_hold : (visited : List Kept) (read touched : List Ty) → AllByRecursion (λ k. OfField k.field) visited → read ≡ read_types visited → touched ≡ touched_types visited → Hold read touched
  these_hold visited read touched each read_are touched_are =
      (subst (AllByRecursion P) (sym read_are) (each_mapped P type_of visited each), subst (AllByRecursion P) (sym touched_are) (touched_hold visited each))

  -- where none are read, it holds of both
  unread_hold : (types read touched : List Ty) → AllByRecursion P types → AreUnread types read touched → Hold read touched
  unread_hold types read touched each are = (subst (AllByRecursion P) (sym are.none_read) tt, subst (AllByRecursion P) (sym are.touched_are) each)

  module _ (d : DeriveInput) (types : AllByRecursion OfField (all_fields d)) where
    -- it holds of the types of the fields of each case
    abbrev each_case : AllByRecursion (AllByRecursion OfField) (cases_of d)
    each_case = cases_hold OfField d.shape types

    -- it holds of the types of the fields that are kept of each case
    each_kept : (which : Trait) (cases : List (List Field)) → AllByRecursion (AllByRecursion OfField) cases → AllByRecursion (λ k. OfField k.field) (flat_map (kept_fields which d) cases)
    each_kept which [] each = tt
    each_kept which (fields ∷ cases) each =
        each_joined (λ k. OfField k.field) (kept_fields which d fields) (flat_map (kept_fields which d) cases) (kept_hold which d OfField 0 fields each.0) (each_kept which cases each.1)

    -- it holds of the types that are checked
    pub checked_hold : (by_equality : Bool) → AllByRecursion P (checked_with by_equality d)
    checked_hold true = touched_hold (flat_map (kept_fields trait.PartialEq d) (cases_of d)) (each_kept trait.PartialEq (cases_of d) each_case)
    checked_hold false = each_mapped P (λ (f : Field). f.ty) (all_fields d) types

    -- it holds of the types of the fields that are visited
    fields_hold : (which : Trait) (read touched : List Ty) → AreOfFields which d read touched → Hold read touched
    fields_hold which read touched are =
        these_hold are.visited read touched (visited_hold which d OfField (cases_of d) are.visited each_case are.visited_are) are.read_are are.touched_are

    -- it holds of the types of which `default` takes the default values
    without_step : (f : Field) (said : Option Expr) (rest : List Ty) → OfField f → AllByRecursion P rest → AllByRecursion P (cons_option (type_without f said) rest)
    without_step f None rest here later = (here, later)
    without_step f (Some said) rest here later = later

    without_hold : (fields : List Field) → AllByRecursion OfField fields → AllByRecursion P (filter_map (λ f. type_without f (field_value d f)) fields)
    without_hold [] each = tt
    without_hold (f ∷ fs) each = without_step f (field_value d f) (filter_map (λ f. type_without f (field_value d f)) fs) each.0 (without_hold fs each.1)

    defaults_hold : AllByRecursion P (default_types d)
    defaults_hold = without_hold (written_fields (choice_of d)) (written_hold d OfField types)

    -- it holds of the types of `Clone`
    clone_hold : (whole : Bool) (read touched : List Ty) → AreCloneTypes whole d read touched → Hold read touched
    clone_hold true read touched are = unread_hold [] read touched tt are
    clone_hold false read touched are = fields_hold trait.Clone read touched are

    -- it holds of the types of each trait
    pub types_hold : (which : Trait) (read touched : List Ty) → AreTypes which d read touched → Hold read touched
    types_hold trait.Clone read touched are = clone_hold (copies_whole d) read touched are
    types_hold trait.Copy read touched are = unread_hold (checked_with false d) read touched (checked_hold false) are
    types_hold trait.PartialEq read touched are = fields_hold trait.PartialEq read touched are
    types_hold trait.Eq read touched are = unread_hold (checked_types d) read touched (checked_hold (is_listed (listed d) trait.PartialEq)) are
    types_hold trait.PartialOrd read touched are = fields_hold trait.PartialOrd read touched are
    types_hold trait.Ord read touched are = fields_hold trait.Ord read touched are
    types_hold trait.Hash read touched are = fields_hold trait.Hash read touched are
    types_hold trait.Debug read touched are = these_hold (all_shown d) read touched (all_shown_hold OfField d types) are.read_are are.touched_are
    types_hold trait.Default read touched are = unread_hold (default_types d) read touched defaults_hold are
