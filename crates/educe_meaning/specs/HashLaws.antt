-- What holds of the derived `Hash` with no call.
use Rattle.std.specs.Prelude.{◌≤◌, ◌^◌, List, ◌++◌, length}
use Rattle.std.specs.List.{AllByRecursion}
use Rattle.educe_syntax.specs.DeriveInput.{DeriveInput}
use Rattle.educe_syntax.specs.Few.{all_fields}
use Rattle.educe_syntax.specs.Field.{Field}
use Rattle.educe_syntax.specs.Naming.{field_names, AreApart}
use Rattle.educe_syntax.specs.Refusal.{IsDefinition}
use Rattle.educe_bound_traits.specs.declared.traits.Trait.TheVariants.{Hash}
use Rattle.educe_attrs.specs.Fields.{HaveNoCauses}
use Rattle.educe_body_items.specs.declared.items.Item.{Item}
use Rattle.educe_meaning.specs.Arms.{AreScoped, variables}
use Rattle.educe_meaning.specs.Blocks.{IsHashBlock, EachEvaluates}
use Rattle.educe_meaning.specs.HashBodies.{HashNames, chosen_params, AreHashNames}
use Rattle.educe_settings.specs.Listed.{listed}
use Rattle.educe_settings.specs.Rows.{field_row}

-- What holds of the block of `Hash`.
pub record HashLaws : Type 0 where
  -- Of the names in the scope of a struct's function no two are the same, and none but `self` is a word of the input: `self`, the
  -- hasher, and the type of that.
  pub scope : (definition : DeriveInput) (names : HashNames) → AreHashNames definition names → AreScoped definition (chosen_params names)
  -- No two names in the scope of an arm of an enum's function are the same, and none but `self` is a word of the input: `self`,
  -- the hasher and its type, and the variables of the variant's fields that take part.
  pub arm_scope : (definition : DeriveInput) (names : HashNames) (fields : List Field) → AreHashNames definition names → AreApart (field_names fields)
      → length fields ≤ 2 ^ 64 → AreScoped definition (chosen_params names ++ variables names.prefix Hash definition fields)
  -- Where no field of a definition says something wrong of `Hash`, the function of its block feeds what a value feeds to a hasher.
  pub evaluates : (definition : DeriveInput) (items : List Item) → IsDefinition definition.tokens definition → length definition.tokens ≤ 2 ^ 64
      → HaveNoCauses Hash (field_row Hash) (listed definition) (all_fields definition)
      → IsHashBlock definition items → AllByRecursion (EachEvaluates definition) items
