-- What is read of a definition.
use Rattle.std.specs.Prelude.{◌≡◌, List}
use Rattle.std.specs.List.{AllByRecursion}
use Rattle.educe_syntax.specs.DeriveInput.{DeriveInput}
use Rattle.educe_syntax.specs.Few.{variants_of}
use Rattle.educe_syntax.specs.Shape.TheVariants.{Enum}
use Rattle.educe_syntax.specs.Variant.{Variant}
use Rattle.educe_attrs.specs.Among.{IsAmong}
use Rattle.educe_attrs.specs.Causes.{NoCause}
use Rattle.educe_attrs.specs.Places.{OfPlace}
use Rattle.educe_bound_traits.specs.declared.traits.Trait.{Trait}
use Rattle.educe_bound_traits.specs.declared.traits.Trait.TheVariants.{Debug}
use Rattle.educe_settings.specs.Listed.{listed}
use Rattle.educe_settings.specs.Settings.{type_settings}
use Rattle.educe_settings.specs.Shown.{naming_row, variant_shown, AreTypeSettings, IsCaseRead, AreCasesRead}

-- The listed traits are those of the definition, and the attributes of its type have no cause.
pub record IsTyped (definition : DeriveInput) (traits : List Trait) : Type 0 where
  pub traits_are : traits ≡ listed definition
  pub own : AreTypeSettings definition (type_settings Debug definition)

-- The variant is one of the definition.
pub record IsOneOf (definition : DeriveInput) (variant : Variant) : Type 0 where
  pub variants : List Variant
  pub is : definition.shape ≡ Enum variants
  pub among : IsAmong variant variants

-- The attributes of a variant have no cause.
abbrev pub IsNamingRead : DeriveInput → Variant → Type 0
IsNamingRead definition variant = NoCause (OfPlace Debug (naming_row variant) (listed definition) variant.attrs)

-- Neither the attributes of a variant nor those of its fields have a cause.
pub record IsVariantRead (definition : DeriveInput) (variant : Variant) : Type 0 where
  pub naming : IsNamingRead definition variant
  pub fields : IsCaseRead definition (variant_shown definition variant)

-- Neither the attributes of any variant nor those of its fields have a cause.
abbrev pub AreVariantsRead : DeriveInput → List Variant → Type 0
AreVariantsRead definition variants = AllByRecursion (IsVariantRead definition) variants

-- The attributes of the variants have no cause, nor have those of the fields.
pub record AreRead (definition : DeriveInput) : Type 0 where
  pub namings : AllByRecursion (IsNamingRead definition) (variants_of definition)
  pub cases : AreCasesRead definition
