-- What holds of the derived `Clone` with no call.
use Rattle.std.specs.Prelude.{◌≤◌, ◌^◌, ◌≡◌, true, List, [], ◌∷◌, ◌++◌, length}
use Rattle.std.specs.List.{AllByRecursion}
use Rattle.educe_syntax.specs.DeriveInput.{DeriveInput}
use Rattle.educe_syntax.specs.Few.{all_fields}
use Rattle.educe_syntax.specs.Field.{Field}
use Rattle.educe_syntax.specs.Naming.{field_names, AreApart}
use Rattle.educe_syntax.specs.Refusal.{IsDefinition}
use Rattle.educe_bound_traits.specs.declared.traits.Trait.TheVariants.{Clone}
use Rattle.educe_attrs.specs.Fields.{HaveNoCauses}
use Rattle.educe_body_items.specs.declared.items.Item.{Item}
use Rattle.educe_meaning.specs.Arms.{AreScoped, variables}
use Rattle.educe_meaning.specs.Blocks.{IsCloneBlock, IsCopyBlock, EachEvaluates}
use Rattle.educe_meaning.specs.CloneBodies.{CloneNames, AreCloneNames}
use Rattle.educe_settings.specs.Listed.{listed}
use Rattle.educe_settings.specs.Rows.{field_row}
use Rattle.educe_settings.specs.Settings.{is_kept}

-- What holds of the blocks of `Clone` and of `Copy`.
pub record CloneLaws : Type 0 where
  -- Where no field of a definition says something wrong of `Clone`, each takes part.
  pub kept : (definition : DeriveInput) → HaveNoCauses Clone (field_row Clone) (listed definition) (all_fields definition)
      → AllByRecursion (λ field. is_kept Clone definition field ≡ true) (all_fields definition)
  -- No two names in the scope of an arm of an enum's `clone_from` are the same, and none but `self` is a word of the input:
  -- `self`, the source, and the variables of the variant's fields. The same holds for a struct's function.
  pub arm_scope : (definition : DeriveInput) (names : CloneNames) (fields : List Field) → AreCloneNames definition names → AreApart (field_names fields)
      → length fields ≤ 2 ^ 64
      → AreScoped definition (names.source ∷ variables names.own Clone definition fields ++ variables names.sources Clone definition fields)
  -- The function of a marker and its parameter have two names, and neither is a word of the input.
  pub marker_scope : (definition : DeriveInput) (names : CloneNames) → AreCloneNames definition names → AreScoped definition (names.function ∷ names.value ∷ [])
  -- Where no field says something wrong of `Clone`, the functions of its block evaluate to what they mean.
  pub evaluates : (definition : DeriveInput) (items : List Item) → IsDefinition definition.tokens definition → length definition.tokens ≤ 2 ^ 64
      → HaveNoCauses Clone (field_row Clone) (listed definition) (all_fields definition)
      → IsCloneBlock definition items → AllByRecursion (EachEvaluates definition) items
  -- The block of `Copy` has no function.
  pub copy_evaluates : (definition : DeriveInput) (items : List Item) → IsCopyBlock definition items → AllByRecursion (EachEvaluates definition) items
