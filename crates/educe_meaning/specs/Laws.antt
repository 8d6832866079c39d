-- What holds of the traits and the comparisons of a definition with no call.
use Rattle.std.specs.Prelude.{◌≡◌, ℕ, ℤ, ◌≢◌, ◌≤◌, ◌^◌, true, IsTrue, List, ◌∷◌, ◌++◌, length, codes}
use Rattle.std.specs.List.{AllByRecursion}
use Rattle.educe_syntax.specs.DeriveInput.{DeriveInput}
use Rattle.educe_syntax.specs.Field.{Field}
use Rattle.educe_syntax.specs.Naming.{field_names, AreApart}
use Rattle.educe_syntax.specs.Refusal.{IsDefinition}
use Rattle.educe_bound_traits.specs.declared.traits.Trait.{Trait}
use Rattle.educe_bound_traits.specs.Traits.{is_listed}
use Rattle.educe_attrs.specs.Causes.{NoCause}
use Rattle.educe_attrs.specs.FieldSettings.{FieldSettings}
use Rattle.educe_attrs.specs.Fields.{HaveNoCauses}
use Rattle.educe_attrs.specs.Phases.{OfHandler}
use Rattle.educe_attrs.specs.Places.{IsFieldSaid}
use Rattle.educe_attrs.specs.Represented.{IsDiscriminantType}
use Rattle.educe_discriminants.specs.declared.discriminant_type.DiscriminantType.{DiscriminantType}
use Rattle.educe_body_values.specs.declared.answers.Answers.{Answers}
use Rattle.educe_body_forms.specs.declared.key_function.Constant.{Constant}
use Rattle.educe_body_items.specs.declared.items.Item.{Item}
use Rattle.educe_body_forms.specs.declared.comparison.Comparison.{Comparison}
use Rattle.educe_syntax.specs.Few.{all_fields}
use Rattle.educe_body.specs.Words.{HasWord}
use Rattle.educe_meaning.specs.Arms.{Names, chosen_names, AreNames, AreScoped, variables, AreConstants, AreNumbers}
use Rattle.educe_meaning.specs.Blocks.{IsParameter, IsComparisonBlock, OneEach, EachEvaluates, HasTightBounds}
use Rattle.educe_meaning.specs.Comparisons.{trait_of}
use Rattle.educe_meaning.specs.Discriminants.{HaveNumbers}
use Rattle.educe_settings.specs.Handled.{handling}
use Rattle.educe_meaning.specs.Handlers.{Noted, AreNoted, inherited_from, traits_before}
use Rattle.educe_meaning.specs.Headers.{AreInherited, prerequisites}
use Rattle.educe_settings.specs.Listed.{listed}
use Rattle.educe_settings.specs.Rows.{is_fieldwise, field_row}
use Rattle.educe_settings.specs.Said.{AreSaidOf}
use Rattle.educe_settings.specs.Settings.{settings_of}

-- What holds of every trait: its settings, what its impl inherits, and its bounds.
pub record TraitLaws : Type 0 where
  -- Where the handler of a listed trait has no cause, the settings of the trait are what the attributes say.
  pub said : (which : Trait) (definition : DeriveInput) → is_listed (listed definition) which ≡ true → NoCause (OfHandler (handling definition) which)
      → AreSaidOf which definition
  -- The settings that the attributes of fields say are unique, where the attributes are read field by field.
  pub only : (which : Trait) (definition : DeriveInput) → IsTrue (is_fieldwise which) → NoCause (OfHandler (handling definition) which) → (settings : Field → FieldSettings)
      → AllByRecursion (λ field. IsFieldSaid which (field_row which) (listed definition) field.attrs (settings field)) (all_fields definition)
      → AllByRecursion (λ field. settings field ≡ settings_of which definition field) (all_fields definition)
  -- What the context notes of a trait's prerequisites is what its impl inherits.
  pub inherits : (which : Trait) (definition : DeriveInput) (noted : List Noted) → AreNoted definition (traits_before which) noted
      → AreInherited definition (prerequisites which) (inherited_from noted (prerequisites which))
  -- Where the bound of a trait is the automatic one, the own predicates of its impl suffice, and none can be dropped.
  pub bounded : (definition : DeriveInput) (items : List Item) → IsDefinition definition.tokens definition → OneEach definition items
      → AllByRecursion (HasTightBounds definition) items

-- What holds of the blocks of comparisons.
pub record ComparisonLaws : Type 0 where
  -- The names in the scope of a struct's function, `self` and its parameter, are two, and the parameter is no word of the input.
  pub scope : (definition : DeriveInput) (name : List ℕ) → IsParameter definition (codes "other") name → (name ≢ codes "self") × (HasWord definition.tokens name → ⊥)
  -- Of the names in the scope of an arm of an enum's function no two are the same, and none but `self` is a word of the input: `self`,
  -- the second value, the key function, and the variables of the variant's fields that take part.
  pub arm_scope : (which : Comparison) (definition : DeriveInput) (names : Names) (fields : List Field) → AreNames definition names → AreApart (field_names fields)
      → length fields ≤ 2 ^ 64
      → AreScoped definition (names.other ∷ names.discriminant ∷ variables names.own (trait_of which) definition fields ++ variables names.others (trait_of which) definition fields)
  -- No two names in the scope of a key function are the same, and none but `self` is a word of the input: the second value, the key
  -- function itself, its parameter, and what a distance is added to.
  pub key_scope : (definition : DeriveInput) (names : Names) → AreNames definition names → AreScoped definition (chosen_names names)
  -- Where the discriminants are numbers of the type, they are the numbers of the constants.
  pub constants : (table : Answers) (definition : DeriveInput) (ty : DiscriminantType) (numbers : List ℤ) (constants : List Constant)
      → HaveNumbers table definition numbers → IsDiscriminantType definition.attrs ty → AreConstants definition ty constants → AreNumbers table numbers constants
  -- Where no field of a definition says something wrong of the comparison, the functions of its block evaluate to what it means.
  pub evaluates : (which : Comparison) (definition : DeriveInput) (items : List Item) → IsDefinition definition.tokens definition → length definition.tokens ≤ 2 ^ 64
      → HaveNoCauses (trait_of which) (field_row (trait_of which)) (listed definition) (all_fields definition)
      → IsComparisonBlock which definition items → AllByRecursion (EachEvaluates definition) items
