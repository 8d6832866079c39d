-- Why the handler of a trait that is read field by field rejects a definition, and what the attributes say where it does not.
use Rattle.std.proofs.Common.{◌≡◌, ◌∙◌, true, List, [], ◌∷◌, ◌++◌, map, inl, inr, refl, ap, sym, subst, append_assoc}
use Rattle.std.specs.Prelude.{IsTrue}
use Rattle.std.specs.List.{AllByRecursion, flat_map}
use Rattle.std.proofs.lemmas.Bool.{false≢true}
use Rattle.educe_tokens.specs.declared.error.EduceError.{EduceError}
use Rattle.educe_syntax.specs.DeriveInput.{DeriveInput}
use Rattle.educe_syntax.specs.Field.{Field}
use Rattle.educe_attrs.specs.Among.{IsAmong}
use Rattle.educe_attrs.specs.Causes.{NoCause}
use Rattle.educe_attrs.specs.FieldSettings.{FieldSettings}
use Rattle.educe_attrs.specs.Laws.{lawful_settings}
use Rattle.educe_attrs.specs.Phases.{OfHandler}
use Rattle.educe_attrs.specs.Places.{IsSaid, IsFieldSaid, OfPlace, OfField}
use Rattle.educe_bound_traits.specs.declared.traits.Trait.{Trait}
use Rattle.educe_bound_traits.specs.declared.traits.Trait.TheVariants as trait
use Rattle.educe_bound_traits.specs.Traits.{is_listed}
use Rattle.educe_syntax.specs.Few.{shape_variants, variants_of, shape_fields, all_fields}
use Rattle.educe_syntax.specs.Shape.{Shape}
use Rattle.educe_syntax.specs.Shape.TheVariants.{Struct, Enum}
use Rattle.educe_syntax.specs.Variant.{Variant}
use Rattle.educe_settings.specs.Cases.{fields_in, shape_cases, cases_of}
use Rattle.educe_settings.specs.Handled.{IsFieldwiseCause, IsTraitCause, OfCase, OfShape, handling}
use Rattle.educe_settings.specs.Listed.{listed}
use Rattle.educe_settings.specs.Rows.{is_fieldwise, type_row, variant_row, field_row}
use Rattle.educe_settings.specs.Said.{AreSaidOf}
use Rattle.educe_settings.specs.Settings.{variant_settings, settings_of, AreSaid}
use Rattle.educe_settings.proofs.DefaultCauses.{defaults_said}
use Rattle.educe_settings.proofs.ShownCauses.{shown_said}
use Rattle.educe_settings.proofs.Standing.{among_mapped, among_flat, type_stands, variant_stands, field_stands}

-- where a trait is read field by field, a cause of what is read so is a cause of the trait
of_trait : (which : Trait) (d : DeriveInput) (e : EduceError) → IsTrue (is_fieldwise which) → IsFieldwiseCause which d e → IsTraitCause d which e
of_trait trait.PartialEq d e fieldwise cause = cause
of_trait trait.Eq d e fieldwise cause = cause
of_trait trait.PartialOrd d e fieldwise cause = cause
of_trait trait.Ord d e fieldwise cause = cause
of_trait trait.Hash d e fieldwise cause = cause
of_trait trait.Debug d e fieldwise cause = absurd (false≢true fieldwise)
of_trait trait.Clone d e fieldwise cause = cause
of_trait trait.Copy d e fieldwise cause = cause
of_trait trait.Default d e fieldwise cause = absurd (false≢true fieldwise)

-- where a trait is read field by field, a cause of the trait is a cause of what is read so
pub of_fieldwise : (which : Trait) (d : DeriveInput) (e : EduceError) → IsTrue (is_fieldwise which) → IsTraitCause d which e → IsFieldwiseCause which d e
of_fieldwise trait.PartialEq d e fieldwise cause = cause
of_fieldwise trait.Eq d e fieldwise cause = cause
of_fieldwise trait.PartialOrd d e fieldwise cause = cause
of_fieldwise trait.Ord d e fieldwise cause = cause
of_fieldwise trait.Hash d e fieldwise cause = cause
of_fieldwise trait.Debug d e fieldwise cause = absurd (false≢true fieldwise)
of_fieldwise trait.Clone d e fieldwise cause = cause
of_fieldwise trait.Copy d e fieldwise cause = cause
of_fieldwise trait.Default d e fieldwise cause = absurd (false≢true fieldwise)

-- ---- causes of the places of a definition

module _ (which : Trait) (fieldwise : IsTrue (is_fieldwise which)) (d : DeriveInput) where
  -- a cause of what the handler of the trait is asked for
  abbrev Refuses : EduceError → Type 0
  Refuses e = OfHandler (handling d) which e

  own_cause : (e : EduceError) → IsFieldwiseCause which d e → Refuses e
  own_cause e cause = inr (of_trait which d e fieldwise cause)

  -- a cause of the attributes of the type is one of the handler
  pub type_refused : (e : EduceError) → OfPlace which (type_row which d) (listed d) d.attrs e → Refuses e
  type_refused e (inl in_lists) =
      inl (record { attributes = d.attrs; stand = type_stands d; cause = in_lists })
  type_refused e (inr said) = own_cause e (IsFieldwiseCause.by_type said.1)

  -- a cause of the attributes of a variant is one of the handler
  pub variant_refused : (variant : Variant) → IsAmong variant (variants_of d) → (e : EduceError) → OfPlace which (variant_row which) (listed d) variant.attrs e → Refuses e
  variant_refused variant among e (inl in_lists) =
      inl (record { attributes = variant.attrs; stand = variant_stands d variant among; cause = in_lists })
  variant_refused variant among e (inr said) = own_cause e (IsFieldwiseCause.by_variant variant among said.1)

  -- and one of the attributes of a field
  pub field_refused : (field : Field) → IsAmong field (all_fields d) → (e : EduceError) → OfField which (field_row which) (listed d) field.attrs e → Refuses e
  field_refused field among e (inl in_lists) =
      inl (record { attributes = field.attrs; stand = field_stands d field among; cause = in_lists })
  field_refused field among e (inr said) = own_cause e (IsFieldwiseCause.by_field field among said)

  -- and one of the fields of a case
  case_refused : (fields : List Field) → IsAmong fields (cases_of d) → ((field : Field) → IsAmong field fields → IsAmong field (all_fields d)) → (e : EduceError) → OfCase which d fields e → Refuses e
  case_refused fields stand within e (inl (field, among, cause)) = field_refused field (within field among) e cause
  case_refused fields stand within e (inr cause) = own_cause e (IsFieldwiseCause.by_rank fields stand cause)

  -- and one of what stands behind the name
  pub shape_refused : (e : EduceError) → OfShape which d d.shape e → Refuses e
  shape_refused e cause = by_shape d.shape refl cause
    where
      by_shape : (shape : Shape) → d.shape ≡ shape → OfShape which d shape e → Refuses e
      by_shape (Struct shape) is cause =
          let cases : cases_of d ≡ shape.fields ∷ [] = ap shape_cases is in
          let fields : all_fields d ≡ shape.fields = ap shape_fields is in
          case_refused shape.fields (record { front = []; back = []; is = cases }) (λ field among. subst (IsAmong field) (sym fields) among) e cause
      by_shape (Enum variants) is (variant, among, inl cause) = variant_refused variant (subst (IsAmong variant) (sym (ap shape_variants is)) among) e cause
      by_shape (Enum variants) is (variant, among, inr cause) =
          let cases : cases_of d ≡ map fields_in variants = ap shape_cases is in
          let fields : all_fields d ≡ flat_map fields_in variants = ap shape_fields is in
          case_refused (fields_in variant) (subst (IsAmong (fields_in variant)) (sym cases) (among_mapped fields_in variant variants among))
          (λ field inner. subst (IsAmong field) (sym fields) (among_flat fields_in variant variants field among inner)) e cause

-- where the handler has no cause, the settings of the type, of each variant and of each field are what their attributes say, and no
-- others of fields are
module _ (which : Trait) (fieldwise : IsTrue (is_fieldwise which)) (d : DeriveInput) (uncaused : NoCause (OfHandler (handling d) which)) where
  -- the settings of a variant are what its attributes say
  abbrev IsVariantSaid : Variant → Type 0
  IsVariantSaid variant = IsSaid which (variant_row which) variant.attrs (variant_settings which d variant)

  variant_said : (variant : Variant) → IsAmong variant (variants_of d) → IsVariantSaid variant
  variant_said variant among =
      lawful_settings.place_said which (variant_row which) (listed d) variant.attrs (record { none_stands = λ e cause. uncaused.none_stands e (variant_refused which fieldwise d variant among e cause) })

  variants_said : (front variants : List Variant) → variants_of d ≡ front ++ variants → AllByRecursion IsVariantSaid variants
  variants_said front [] is = tt
  variants_said front (variant ∷ more) is = (
    variant_said variant (record { front = front; back = more; is = is }),
    variants_said (front ++ variant ∷ []) more (is ∙ sym (append_assoc front (variant ∷ []) more)),
  )

  -- the attributes of a field say this
  abbrev Says : Field → FieldSettings → Type 0
  Says field settings = IsFieldSaid which (field_row which) (listed d) field.attrs settings

  -- the attributes of a field have no cause
  field_uncaused : (field : Field) → IsAmong field (all_fields d) → NoCause (OfField which (field_row which) (listed d) field.attrs)
  field_uncaused field among = record { none_stands = λ e cause. uncaused.none_stands e (field_refused which fieldwise d field among e cause) }

  fields_said : (front fields : List Field) → all_fields d ≡ front ++ fields → AllByRecursion (λ field. Says field (settings_of which d field)) fields
  fields_said front [] is = tt
  fields_said front (field ∷ more) is = (
    lawful_settings.field_said which (field_row which) (listed d) field.attrs (field_uncaused field (record { front = front; back = more; is = is })),
    fields_said (front ++ field ∷ []) more (is ∙ sym (append_assoc front (field ∷ []) more)),
  )

  pub are_said : AreSaid which d
  are_said = record {
    type_said = lawful_settings.place_said which (type_row which d) (listed d) d.attrs (record { none_stands = λ e cause. uncaused.none_stands e (type_refused which fieldwise d e cause) });
    variants_said = variants_said [] (variants_of d) refl;
    fields_said = fields_said [] (all_fields d) refl;
  }

  each_only : (settings : Field → FieldSettings) (front fields : List Field) → all_fields d ≡ front ++ fields → AllByRecursion (λ field. Says field (settings field)) fields
      → AllByRecursion (λ field. settings field ≡ settings_of which d field) fields
  each_only settings front [] is says = tt
  each_only settings front (field ∷ more) is says = (
    lawful_settings.field_only which (field_row which) (listed d) field.attrs (field_uncaused field (record { front = front; back = more; is = is })) (settings field) says.0,
    each_only settings (front ++ field ∷ []) more (is ∙ sym (append_assoc front (field ∷ []) more)) says.1,
  )

  pub only_said : (settings : Field → FieldSettings) → AllByRecursion (λ field. Says field (settings field)) (all_fields d)
      → AllByRecursion (λ field. settings field ≡ settings_of which d field) (all_fields d)
  only_said settings says = each_only settings [] (all_fields d) refl says

-- ---- the settings of each trait

module _ (d : DeriveInput) where
  -- the settings of a listed trait are what the attributes say, where its handler has no cause
  pub trait_said : (which : Trait) → is_listed (listed d) which ≡ true → NoCause (OfHandler (handling d) which) → AreSaidOf which d
  trait_said trait.Clone lists uncaused = are_said trait.Clone refl d uncaused
  trait_said trait.Copy lists uncaused = are_said trait.Copy refl d uncaused
  trait_said trait.PartialEq lists uncaused = are_said trait.PartialEq refl d uncaused
  trait_said trait.Eq lists uncaused = are_said trait.Eq refl d uncaused
  trait_said trait.PartialOrd lists uncaused = are_said trait.PartialOrd refl d uncaused
  trait_said trait.Ord lists uncaused = are_said trait.Ord refl d uncaused
  trait_said trait.Hash lists uncaused = are_said trait.Hash refl d uncaused
  trait_said trait.Default lists uncaused = defaults_said d uncaused
  trait_said trait.Debug lists uncaused = shown_said d uncaused
