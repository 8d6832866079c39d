-- What the attributes of `Debug` say, where they have no cause, and why the fields of a case are rejected.
use Rattle.std.proofs.Common.{◌≡◌, Bool, List, ap, sym, subst}
use Rattle.educe_tokens.specs.declared.error.EduceError.{EduceError}
use Rattle.educe_syntax.specs.DeriveInput.{DeriveInput}
use Rattle.educe_syntax.specs.Few.{shape_variants, variants_of}
use Rattle.educe_syntax.specs.Field.{Field}
use Rattle.educe_syntax.specs.FieldShape.{FieldShape}
use Rattle.educe_syntax.specs.Shape.TheVariants.{Struct}
use Rattle.educe_syntax.specs.Variant.{Variant}
use Rattle.educe_attrs.specs.Among.{IsAmong}
use Rattle.educe_attrs.specs.Causes.{NoCause}
use Rattle.educe_attrs.specs.Fields.{OfFields}
use Rattle.educe_attrs.specs.Laws.{lawful_settings}
use Rattle.educe_attrs.specs.Phases.{OfHandler}
use Rattle.educe_attrs.specs.Places.{OfPlace, OfField}
use Rattle.educe_bound_traits.specs.declared.traits.Trait.{Trait}
use Rattle.educe_bound_traits.specs.declared.traits.Trait.TheVariants.{Debug}
use Rattle.educe_settings.specs.Handled.{handling}
use Rattle.educe_settings.specs.Listed.{listed}
use Rattle.educe_settings.specs.Rows.{type_row}
use Rattle.educe_settings.specs.Shown.{ShownCase, naming_row, naming_values, entry_row, struct_shown, variant_shown, AreNamingSettings, IsCase}
use Rattle.educe_settings.proofs.ShownCauses.{struct_is, variant_is, field_refused}
use Rattle.educe_settings_types.specs.Read.{IsTyped, IsOneOf, IsNamingRead}

module _ (d : DeriveInput) where
  -- a variant of the definition is one of its variants
  pub one_stands : (variant : Variant) → IsOneOf d variant → IsAmong variant (variants_of d)
  one_stands variant one = subst (IsAmong variant) (sym (ap shape_variants one.is)) one.among

  -- the settings of a variant whose attributes have no cause
  pub naming_said : (variant : Variant) → IsNamingRead d variant → AreNamingSettings d variant (naming_values d variant)
  naming_said variant read = record { read = read; said = lawful_settings.place_said Debug (naming_row variant) (listed d) variant.attrs read }

  module _ (traits : List Trait) (typed : IsTyped d traits) where
    -- the case of a struct
    pub struct_stands : (shape : FieldShape) → d.shape ≡ Struct shape → IsCase d (struct_shown d shape)
    struct_stands shape is = IsCase.of_struct (struct_is d shape is typed.own)

    -- the case of a variant
    pub variant_stands : (variant : Variant) → IsOneOf d variant → IsNamingRead d variant → IsCase d (variant_shown d variant)
    variant_stands variant one read = IsCase.of_variant variant (variant_is d one.variants one.is variant one.among typed.own (naming_said variant read))

  -- a cause of the fields of a case is one of the handler
  pub fields_refused : (case : ShownCase) → IsCase d case → (named : Bool) (fields : List Field) → named ≡ case.named → fields ≡ case.fields → (e : EduceError)
      → OfFields Debug (entry_row named) (listed d) fields e → OfHandler (handling d) Debug e
  fields_refused case is named fields named_is fields_are e (field, among, cause) =
      field_refused d case is field (subst (IsAmong field) fields_are among) e (subst (λ (b : Bool). OfField Debug (entry_row b) (listed d) field.attrs e) named_is cause)

-- the attributes of the type say what is read of them, where they have no cause
pub typed_by : (d : DeriveInput) (traits : List Trait) → traits ≡ listed d → NoCause (OfPlace Debug (type_row Debug d) (listed d) d.attrs) → IsTyped d traits
typed_by d traits are read = record { traits_are = are; own = record { read = read; said = lawful_settings.place_said Debug (type_row Debug d) (listed d) d.attrs read } }
