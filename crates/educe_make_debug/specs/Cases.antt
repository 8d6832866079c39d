-- How the values of each case are shown, by what is read of a definition.
use Rattle.std.specs.Prelude.{◌≡◌, List, map}
use Rattle.std.specs.List.{AllZip}
use Rattle.educe_syntax.specs.DeriveInput.{DeriveInput}
use Rattle.educe_syntax.specs.Variant.{Variant}
use Rattle.educe_bound_traits.specs.declared.traits.Trait.TheVariants.{Debug}
use Rattle.educe_settings.specs.Settings.{Kept, kept_by, type_settings}
use Rattle.educe_settings.specs.Shown.{ShownCase, entry_settings, type_text, variant_shown, shown_cases}
use Rattle.educe_make_debug.specs.Origins.{IsOwnCase}
use Rattle.educe_make_debug.specs.declared.debug_shown.Case.{Case}
use Rattle.educe_make_debug.specs.declared.debug_shown.Shown.{Shown}

-- ---- cases

-- The case behind the references.
abbrev pub shown_of : Case → ShownCase
shown_of case = record { unit = case.unit; name = case.name.text; named = case.named; fields = case.fields.now }

-- The settings of its fields are what their attributes say.
abbrev pub AreSettled : DeriveInput → Case → Type 0
AreSettled definition case = case.settings ≡ map (entry_settings case.named definition) case.fields.now

-- The case is the one that is shown so.
pub record IsCaseOf (definition : DeriveInput) (shown : ShownCase) (case : Case) : Type 0 where
  pub is : shown_of case ≡ shown
  pub settled : AreSettled definition case
  pub own : IsOwnCase definition shown case.need case.place

-- These are the cases of the variants, in written order.
abbrev pub AreVariantCases : DeriveInput → List Variant → List Case → Type 0
AreVariantCases definition variants cases = AllZip (λ variant case. IsCaseOf definition (variant_shown definition variant) case) variants cases

-- These are the cases of the definition, in written order.
abbrev pub AreCases : DeriveInput → List Case → Type 0
AreCases definition cases = AllZip (IsCaseOf definition) (shown_cases definition) cases

-- How the values of a definition are shown.
pub record IsShown (shown : Shown) : Type 0 where
  pub name_is : shown.name.text ≡ type_text shown.ast.now (type_settings Debug shown.ast.now)
  pub cases_are : AreCases shown.ast.now shown.cases

-- ---- fields

-- The fields of a case that are shown.
abbrev pub kept_in : Case → List Kept
kept_in case = kept_by 0 case.fields.now case.settings
