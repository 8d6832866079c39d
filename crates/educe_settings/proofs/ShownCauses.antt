-- Why the handler of `Debug` rejects a definition, and what the attributes say where it does not.
use Rattle.std.proofs.Common.{◌≡◌, ◌∙◌, List, [], ◌∷◌, ◌++◌, inl, inr, refl, ap, sym, subst, append_assoc}
use Rattle.std.specs.List.{AllByRecursion}
use Rattle.educe_tokens.specs.declared.error.EduceError.{EduceError}
use Rattle.educe_syntax.specs.DeriveInput.{DeriveInput}
use Rattle.educe_syntax.specs.Few.{shape_variants, variants_of, shape_fields, all_fields}
use Rattle.educe_syntax.specs.Field.{Field}
use Rattle.educe_syntax.specs.FieldShape.{FieldShape}
use Rattle.educe_syntax.specs.Shape.{Shape}
use Rattle.educe_syntax.specs.Shape.TheVariants.{Struct, Enum}
use Rattle.educe_syntax.specs.Variant.{Variant}
use Rattle.educe_bound_traits.specs.declared.traits.Trait.TheVariants.{Debug}
use Rattle.educe_attrs.specs.Among.{IsAmong}
use Rattle.educe_attrs.specs.Causes.{NoCause}
use Rattle.educe_attrs.specs.Laws.{lawful_settings}
use Rattle.educe_attrs.specs.Phases.{OfHandler}
use Rattle.educe_attrs.specs.Places.{IsSaid, OfPlace, IsFieldSaid, OfField}
use Rattle.educe_settings.specs.Cases.{fields_in}
use Rattle.educe_settings.specs.Handled.{handling}
use Rattle.educe_settings.specs.Listed.{listed}
use Rattle.educe_settings.specs.Rows.{type_row}
use Rattle.educe_settings.specs.Settings.{type_settings}
use Rattle.educe_settings.specs.Shown.{naming_row, entry_row, naming_values, entry_settings, ShownCase, struct_shown, variant_shown, cases_for, IsCaseSaid, AreShownSaid, AreTypeSettings, AreNamingSettings, IsStructCase, IsVariantCase, IsCase, IsShownCause}
use Rattle.educe_settings.proofs.Standing.{among_flat, type_stands, variant_stands, field_stands}

-- ---- the cases of a definition

module _ (d : DeriveInput) where
  -- the case of a struct, where the attributes of the type have no cause
  pub struct_is : (shape : FieldShape) → d.shape ≡ Struct shape → AreTypeSettings d (type_settings Debug d) → IsStructCase d (struct_shown d shape)
  struct_is shape is settings = record { own = type_settings Debug d; shape = shape; settings = settings; is = is; case_is = refl }

  -- the case of a variant, where neither the attributes of the type nor its own have a cause
  pub variant_is : (variants : List Variant) → d.shape ≡ Enum variants → (variant : Variant) → IsAmong variant variants → AreTypeSettings d (type_settings Debug d)
      → AreNamingSettings d variant (naming_values d variant) → IsVariantCase d variant (variant_shown d variant)
  variant_is variants is variant among settings naming = record {
    own = type_settings Debug d;
    values = naming_values d variant;
    variants = variants;
    settings = settings;
    is = is;
    among = among;
    variant_settings = naming;
    case_is = refl;
  }

  -- the fields of a case are among all
  pub case_within : (case : ShownCase) → IsCase d case → (field : Field) → IsAmong field case.fields → IsAmong field (all_fields d)
  case_within case (IsCase.of_struct s) field among =
      subst (IsAmong field) (sym (ap shape_fields s.is)) (subst (λ (c : ShownCase). IsAmong field c.fields) s.case_is among)
  case_within case (IsCase.of_variant variant v) field among =
      subst (IsAmong field) (sym (ap shape_fields v.is)) (among_flat fields_in variant v.variants field v.among (subst (λ (c : ShownCase). IsAmong field c.fields) v.case_is among))

-- ---- causes of the places of a definition

module _ (d : DeriveInput) where
  -- a cause of what the handler is asked for
  abbrev Refuses : EduceError → Type 0
  Refuses e = OfHandler (handling d) Debug e

  -- a cause of the attributes of the type is one of the handler
  pub type_refused : (e : EduceError) → OfPlace Debug (type_row Debug d) (listed d) d.attrs e → Refuses e
  type_refused e (inl in_lists) = inl (record { attributes = d.attrs; stand = type_stands d; cause = in_lists })
  type_refused e (inr said) = inr (IsShownCause.by_type said.1)

  -- a cause of the attributes of a variant is one of the handler
  pub variant_refused : (variant : Variant) → IsAmong variant (variants_of d) → (e : EduceError) → OfPlace Debug (naming_row variant) (listed d) variant.attrs e → Refuses e
  variant_refused variant among e (inl in_lists) = inl (record { attributes = variant.attrs; stand = variant_stands d variant among; cause = in_lists })
  variant_refused variant among e (inr said) = inr (IsShownCause.by_variant variant among said.1)

  -- a cause of the attributes of a field of a case is one of the handler
  pub field_refused : (case : ShownCase) → IsCase d case → (field : Field) → IsAmong field case.fields → (e : EduceError)
      → OfField Debug (entry_row case.named) (listed d) field.attrs e → Refuses e
  field_refused case is field among e (inl in_lists) =
      inl (record { attributes = field.attrs; stand = field_stands d field (case_within d case is field among); cause = in_lists })
  field_refused case is field among e (inr said) = inr (IsShownCause.by_field case field is among said)

-- ---- what is said

module _ (d : DeriveInput) (uncaused : NoCause (OfHandler (handling d) Debug)) where
  own_settings : AreTypeSettings d (type_settings Debug d)
  own_settings =
      let row = type_row Debug d in
      let read : NoCause (OfPlace Debug row (listed d) d.attrs) = record { none_stands = λ e cause. uncaused.none_stands e (type_refused d e cause) } in
      record { read = read; said = lawful_settings.place_said Debug row (listed d) d.attrs read }

  naming_settings : (variant : Variant) → IsAmong variant (variants_of d) → AreNamingSettings d variant (naming_values d variant)
  naming_settings variant among =
      let row = naming_row variant in
      let read : NoCause (OfPlace Debug row (listed d) variant.attrs) = record { none_stands = λ e cause. uncaused.none_stands e (variant_refused d variant among e cause) } in
      record { read = read; said = lawful_settings.place_said Debug row (listed d) variant.attrs read }

  each_variant : (front variants : List Variant) → variants_of d ≡ front ++ variants
      → AllByRecursion (λ (variant : Variant). IsSaid Debug (naming_row variant) variant.attrs (naming_values d variant)) variants
  each_variant front [] is = tt
  each_variant front (variant ∷ more) is = (
    (naming_settings variant (record { front = front; back = more; is = is })).said,
    each_variant (front ++ variant ∷ []) more (is ∙ sym (append_assoc front (variant ∷ []) more)),
  )

  each_field : (case : ShownCase) → IsCase d case → (front own : List Field) → case.fields ≡ front ++ own
      → AllByRecursion (λ (field : Field). IsFieldSaid Debug (entry_row case.named) (listed d) field.attrs (entry_settings case.named d field)) own
  each_field case is_case front [] is = tt
  each_field case is_case front (field ∷ more) is =
      let among : IsAmong field case.fields = record { front = front; back = more; is = is } in (
        lawful_settings.field_said Debug (entry_row case.named) (listed d) field.attrs
            (record { none_stands = λ e cause. uncaused.none_stands e (field_refused d case is_case field among e cause) }),
        each_field case is_case (front ++ field ∷ []) more (is ∙ sym (append_assoc front (field ∷ []) more)),
      )

  case_said : (case : ShownCase) → IsCase d case → IsCaseSaid d case
  case_said case is_case = each_field case is_case [] case.fields refl

  each_case : (variants : List Variant) → d.shape ≡ Enum variants → (front own : List Variant) → variants ≡ front ++ own
      → AllByRecursion (IsCaseSaid d) (cases_for d (Enum own))
  each_case variants shape front [] is = tt
  each_case variants shape front (variant ∷ more) is =
      let among : IsAmong variant variants = record { front = front; back = more; is = is } in
      let naming = naming_settings variant (subst (IsAmong variant) (sym (ap shape_variants shape)) among) in (
        case_said (variant_shown d variant) (IsCase.of_variant variant (variant_is d variants shape variant among own_settings naming)),
        each_case variants shape (front ++ variant ∷ []) more (is ∙ sym (append_assoc front (variant ∷ []) more)),
      )

  fields_said : (shape : Shape) → d.shape ≡ shape → AllByRecursion (IsCaseSaid d) (cases_for d shape)
  fields_said (Struct shape) is = (case_said (struct_shown d shape) (IsCase.of_struct (struct_is d shape is own_settings)), tt)
  fields_said (Enum variants) is = each_case variants is [] variants refl

  -- the settings are what the attributes say
  pub shown_said : AreShownSaid d
  shown_said = record { type_said = own_settings.said; variants_said = each_variant [] (variants_of d) refl; fields_said = fields_said d.shape refl }
