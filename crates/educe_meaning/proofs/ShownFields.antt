-- What holds of all fields of a definition holds of those that are shown.
use Rattle.std.proofs.Common.{ℕ, ◌+◌, Bool, true, false, List, [], ◌∷◌}
use Rattle.std.specs.Prelude.{if◌then◌else◌}
use Rattle.std.specs.List.{AllByRecursion, flat_map}
use Rattle.educe_syntax.specs.DeriveInput.{DeriveInput}
use Rattle.educe_syntax.specs.Few.{shape_fields, all_fields}
use Rattle.educe_syntax.specs.Field.{Field}
use Rattle.educe_syntax.specs.Shape.{Shape}
use Rattle.educe_syntax.specs.Shape.TheVariants.{Struct, Enum}
use Rattle.educe_attrs.specs.FieldSettings.{FieldSettings}
use Rattle.educe_settings.specs.Cases.{fields_in}
use Rattle.educe_settings.specs.Settings.{Kept, keeps, kept_with, kept_by}
use Rattle.educe_settings.specs.Shown.{ShownCase, variant_shown, cases_for, shown_cases, shown_fields, all_shown}
use Rattle.educe_settings.proofs.Elements.{each_mapped, each_apart, each_joined}

module _ (P : Field → Type 0) where
  -- it holds of the field
  abbrev Holds : Kept → Type 0
  Holds k = P k.field

  -- of each field of the case
  abbrev pub HoldsIn : ShownCase → Type 0
  HoldsIn case = AllByRecursion P case.fields

  step : (k : Kept) (rest : List Kept) (keeps : Bool) → Holds k → AllByRecursion Holds rest → AllByRecursion Holds (if keeps then k ∷ rest else rest)
  step k rest true here later = (here, later)
  step k rest false here later = later

  -- what holds of each field holds of each that takes part by some settings
  pub by_settings_hold : (place : ℕ) (fields : List Field) (all : List FieldSettings) → AllByRecursion P fields → AllByRecursion Holds (kept_by place fields all)
  by_settings_hold place [] all each = tt
  by_settings_hold place (f ∷ fs) [] each = tt
  by_settings_hold place (f ∷ fs) (s ∷ all) each = step (kept_with s place f) (kept_by (place + 1) fs all) (keeps s) each.0 (by_settings_hold (place + 1) fs all each.1)

  module _ (d : DeriveInput) where
    -- what holds of each field of cases holds of those of them that are shown
    cases_hold : (cases : List ShownCase) → AllByRecursion HoldsIn cases → AllByRecursion Holds (flat_map (shown_fields d) cases)
    cases_hold [] each = tt
    cases_hold (case ∷ cases) each =
        each_joined Holds (shown_fields d case) (flat_map (shown_fields d) cases) (by_settings_hold 0 case.fields _ each.0) (cases_hold cases each.1)

    -- what holds of all fields holds of those of each case
    shape_holds : (shape : Shape) → AllByRecursion P (shape_fields shape) → AllByRecursion HoldsIn (cases_for d shape)
    shape_holds (Struct shape) each = (each, tt)
    shape_holds (Enum variants) each = each_mapped HoldsIn (variant_shown d) variants (each_apart P fields_in variants each)

    pub each_case_holds : AllByRecursion P (all_fields d) → AllByRecursion HoldsIn (shown_cases d)
    each_case_holds each = shape_holds d.shape each

    -- what holds of all fields holds of those that are shown
    pub all_shown_hold : AllByRecursion P (all_fields d) → AllByRecursion Holds (all_shown d)
    all_shown_hold each = cases_hold (shown_cases d) (each_case_holds each)
