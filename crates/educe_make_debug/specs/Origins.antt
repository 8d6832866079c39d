-- Where the case of a definition stands, and why it is rejected where nothing of it is shown.
use Rattle.std.specs.Prelude.{◌≡◌, Bool, true, false, List}
use Rattle.educe_tokens.specs.declared.error.Kind.{Kind}
use Rattle.educe_tokens.specs.declared.error.Kind.TheVariants.{UnitStructNeedName, UnitVariantNeedName}
use Rattle.educe_tokens.specs.declared.span.Span.{Span}
use Rattle.educe_syntax.specs.DeriveInput.{DeriveInput}
use Rattle.educe_syntax.specs.FieldShape.{FieldShape}
use Rattle.educe_syntax.specs.Shape.TheVariants.{Struct, Enum}
use Rattle.educe_syntax.specs.Variant.{Variant}
use Rattle.educe_attrs.specs.Among.{IsAmong}
use Rattle.educe_settings.specs.Cases.{is_unit}
use Rattle.educe_settings.specs.Shown.{ShownCase, struct_shown, variant_shown}

-- Why a variant is rejected, with true a unit.
abbrev pub variant_kind : Bool → Kind
variant_kind true = UnitVariantNeedName
variant_kind false = UnitStructNeedName

-- The place at which a variant is rejected, with true a unit.
abbrev pub variant_place : Bool → Variant → Span
variant_place true variant = variant.span
variant_place false variant = variant.ident.span

-- This is the case of the struct, or of a variant; where nothing of it is shown, it is rejected for this at this place.
pub data IsOwnCase (definition : DeriveInput) : ShownCase → Kind → Span → Type 0 where
  of_struct : (shape : FieldShape) → definition.shape ≡ Struct shape → IsOwnCase definition (struct_shown definition shape) UnitStructNeedName definition.ident.span
  of_variant : (variants : List Variant) (variant : Variant) → definition.shape ≡ Enum variants → IsAmong variant variants
      → IsOwnCase definition (variant_shown definition variant) (variant_kind (is_unit variant)) (variant_place (is_unit variant) variant)
