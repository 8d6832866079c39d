-- The settings of the fields of one case, among those of all.
use Rattle.std.proofs.Common.{◌≡◌, ◌∙◌, ℕ, ◌<◌, List, [], ◌∷◌, map, length, get_or, refl, ap, arith}
use Rattle.std.proofs.lemmas.List.{length-map}
use Rattle.educe_syntax.specs.DeriveInput.{DeriveInput}
use Rattle.educe_syntax.specs.FieldShape.{FieldShape}
use Rattle.educe_syntax.specs.Shape.TheVariants.{Struct, Enum}
use Rattle.educe_syntax.specs.Variant.{Variant}
use Rattle.educe_attrs.specs.FieldSettings.{FieldSettings}
use Rattle.educe_bound_traits.specs.declared.traits.Trait.{Trait}
use Rattle.educe_settings.specs.CaseSettings.{settings_in}
use Rattle.educe_settings.specs.Cases.{fields_in, shape_cases, cases_of}
use Rattle.educe_settings.specs.Settings.{settings_of}
use Rattle.educe_settings.proofs.Growing.{image_at}

module _ (which : Trait) (d : DeriveInput) where
  -- the settings of the fields of variants, variant by variant
  settings_of_variants : (variants : List Variant) → settings_in which d (map fields_in variants) ≡ map (λ v. map (settings_of which d) (fields_in v)) variants
  settings_of_variants [] = refl
  settings_of_variants (v ∷ vs) = ap (λ rest. map (settings_of which d) (fields_in v) ∷ rest) (settings_of_variants vs)

  module _ (variants : List Variant) (all : List (List FieldSettings)) (are : all ≡ settings_in which d (map fields_in variants)) where
    -- there are as many as variants
    pub settings_each : length all ≡ length variants
    settings_each = ap length (are ∙ settings_of_variants variants) ∙ length-map variants (λ v. map (settings_of which d) (fields_in v))

    -- the settings of the fields of the variant at a place
    pub settings_at : (i : ℕ) (v : Variant) (own : List FieldSettings) → i < length variants → v ≡ get_or variants i v → own ≡ get_or all i own
        → own ≡ map (settings_of which d) (fields_in v)
    settings_at i v own less item image =
        image_at (λ v. map (settings_of which d) (fields_in v)) variants all i v own (are ∙ settings_of_variants variants) less item image

  module _ (shape : FieldShape) (is : d.shape ≡ Struct shape) (all : List (List FieldSettings)) (are : all ≡ settings_in which d (cases_of d)) where
    -- the settings of the fields of the one case of a struct
    only_case : all ≡ map (settings_of which d) shape.fields ∷ []
    only_case = are ∙ ap (λ s. settings_in which d (shape_cases s)) is

    pub settings_only : (own : List FieldSettings) → own ≡ get_or all 0 own → own ≡ map (settings_of which d) shape.fields
    settings_only own image = image ∙ ap (λ (every : List (List FieldSettings)). get_or every 0 own) only_case

    pub some_case : 0 < length all
    some_case = let one : length all ≡ 1 = ap length only_case in omega arith

  -- the settings of the fields of the variants of an enum
  pub settings_enum : (variants : List Variant) (all : List (List FieldSettings)) → d.shape ≡ Enum variants → all ≡ settings_in which d (cases_of d)
      → all ≡ settings_in which d (map fields_in variants)
  settings_enum variants all is are = are ∙ ap (λ s. settings_in which d (shape_cases s)) is
