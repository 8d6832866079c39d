-- What holds of the derived `Debug` with no call.
use Rattle.std.specs.Prelude.{◌≤◌, ◌^◌, List, ◌++◌, length}
use Rattle.std.specs.List.{AllByRecursion}
use Rattle.educe_syntax.specs.DeriveInput.{DeriveInput}
use Rattle.educe_syntax.specs.Naming.{field_names, AreApart}
use Rattle.educe_syntax.specs.Refusal.{IsDefinition}
use Rattle.educe_body_items.specs.declared.items.Item.{Item}
use Rattle.educe_meaning.specs.Arms.{AreScoped, variables_for}
use Rattle.educe_meaning.specs.Blocks.{IsDebugBlock, EachEvaluates}
use Rattle.educe_settings.specs.Shown.{ShownCase, shown_fields, AreCasesRead}
use Rattle.educe_meaning.specs.ShownBodies.{DebugNames, AreDebugNames, chosen_fmt_names, marker_names}

-- What holds of the block of `Debug`.
pub record DebugLaws : Type 0 where
  -- Of the names in the scope of a struct's function no two are the same, and none but `self` is a word of the input: `self`, and
  -- those that `fmt` declares.
  pub scope : (definition : DeriveInput) (names : DebugNames) → AreDebugNames definition names → AreScoped definition (chosen_fmt_names names)
  -- No two names in the scope of an arm of an enum's function are the same, and none but `self` is a word of the input: `self`,
  -- the names that `fmt` declares, and the variables of the variant's fields that are shown.
  pub arm_scope : (definition : DeriveInput) (names : DebugNames) (case : ShownCase) → AreDebugNames definition names → AreApart (field_names case.fields)
      → length case.fields ≤ 2 ^ 64 → AreScoped definition (chosen_fmt_names names ++ variables_for names.prefix (shown_fields definition case))
  -- The function of a marker and its two parameters have three names, and none is a word of the input.
  pub marker_scope : (definition : DeriveInput) (names : DebugNames) → AreDebugNames definition names → AreScoped definition (marker_names names)
  -- Where no field says something wrong of `Debug`, the function of its block shows what `fmt` shows of a value.
  pub evaluates : (definition : DeriveInput) (items : List Item) → IsDefinition definition.tokens definition → length definition.tokens ≤ 2 ^ 64
      → AreCasesRead definition → IsDebugBlock definition items → AllByRecursion (EachEvaluates definition) items
