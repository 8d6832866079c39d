-- Why the handler of `Default` rejects a definition, and what the attributes say where it does not.
use Rattle.std.proofs.Common.{◌≡◌, ◌∙◌, Bool, List, [], ◌∷◌, ◌++◌, inl, inr, refl, ap, sym, subst, append_assoc}
use Rattle.std.specs.Prelude.{is_none}
use Rattle.std.specs.List.{AllByRecursion}
use Rattle.educe_tokens.specs.declared.error.EduceError.{EduceError}
use Rattle.educe_syntax.specs.DeriveInput.{DeriveInput}
use Rattle.educe_syntax.specs.Few.{shape_variants, variants_of, shape_fields, all_fields}
use Rattle.educe_syntax.specs.Field.{Field}
use Rattle.educe_syntax.specs.Shape.{Shape}
use Rattle.educe_syntax.specs.Shape.TheVariants.{Struct, Enum}
use Rattle.educe_syntax.specs.Variant.{Variant}
use Rattle.educe_bound_traits.specs.declared.traits.Trait.TheVariants.{Default}
use Rattle.educe_attrs.specs.Among.{IsAmong}
use Rattle.educe_attrs.specs.Causes.{NoCause}
use Rattle.educe_attrs.specs.Laws.{lawful_settings}
use Rattle.educe_attrs.specs.Phases.{OfHandler}
use Rattle.educe_attrs.specs.Places.{IsSaid, OfPlace, OfField}
use Rattle.educe_attrs.specs.Values.{Values}
use Rattle.educe_settings.specs.Cases.{fields_in}
use Rattle.educe_settings.specs.Defaults.{mark_row, value_row, type_values, is_open, mark_values, is_written, AreFieldsSaid, AreShapeSaid, AreDefaultsSaid, AreTypeSettings, AreMarkSettings, IsCase, IsDefaultCause}
use Rattle.educe_settings.specs.Handled.{handling}
use Rattle.educe_settings.specs.Listed.{listed}
use Rattle.educe_settings.specs.Rows.{type_row}
use Rattle.educe_settings.proofs.Standing.{among_flat, type_stands, variant_stands, field_stands}

-- ---- causes of the places of a definition

module _ (d : DeriveInput) where
  -- a cause of what the handler is asked for
  abbrev Refuses : EduceError → Type 0
  Refuses e = OfHandler (handling d) Default e

  -- a cause of the attributes of the type is one of the handler
  pub type_refused : (e : EduceError) → OfPlace Default (type_row Default d) (listed d) d.attrs e → Refuses e
  type_refused e (inl in_lists) = inl (record { attributes = d.attrs; stand = type_stands d; cause = in_lists })
  type_refused e (inr said) = inr (IsDefaultCause.by_type said.1)

  -- a cause of the attributes of a variant is one of the handler
  pub variant_refused : (own : Values) → AreTypeSettings d own → (variant : Variant) → IsAmong variant (variants_of d) → (e : EduceError)
      → OfPlace Default (mark_row (is_none own.expression)) (listed d) variant.attrs e → Refuses e
  variant_refused own settings variant among e (inl in_lists) = inl (record { attributes = variant.attrs; stand = variant_stands d variant among; cause = in_lists })
  variant_refused own settings variant among e (inr said) = inr (IsDefaultCause.by_variant own variant settings among said.1)

  -- the fields of a case are among all
  case_within : (fields : List Field) (written : Bool) → IsCase d fields written → (field : Field) → IsAmong field fields → IsAmong field (all_fields d)
  case_within fields written (IsCase.of_struct own shape settings is) field among = subst (IsAmong field) (sym (ap shape_fields is)) among
  case_within fields written (IsCase.of_variant own mark variants variant settings is stands marks) field among =
      subst (IsAmong field) (sym (ap shape_fields is)) (among_flat fields_in variant variants field stands among)

  -- a cause of the attributes of a field of a case is one of the handler
  pub field_refused : (fields : List Field) (written : Bool) → IsCase d fields written → (field : Field) → IsAmong field fields → (e : EduceError)
      → OfField Default (value_row written) (listed d) field.attrs e → Refuses e
  field_refused fields written case field among e (inl in_lists) =
      inl (record { attributes = field.attrs; stand = field_stands d field (case_within fields written case field among); cause = in_lists })
  field_refused fields written case field among e (inr said) = inr (IsDefaultCause.by_field fields written field case among said)

-- ---- what is said

module _ (d : DeriveInput) (uncaused : NoCause (OfHandler (handling d) Default)) where
  own_settings : AreTypeSettings d (type_values d)
  own_settings =
      let read : NoCause (OfPlace Default (type_row Default d) (listed d) d.attrs) = record { none_stands = λ e cause. uncaused.none_stands e (type_refused d e cause) } in
      record { read = read; said = lawful_settings.place_said Default (type_row Default d) (listed d) d.attrs read }

  mark_settings : (variant : Variant) → IsAmong variant (variants_of d) → AreMarkSettings d (type_values d) variant (mark_values d variant)
  mark_settings variant among =
      let row = mark_row (is_open d) in
      let read : NoCause (OfPlace Default row (listed d) variant.attrs) =
      record { none_stands = λ e cause. uncaused.none_stands e (variant_refused d (type_values d) own_settings variant among e cause) } in
      record { read = read; said = lawful_settings.place_said Default row (listed d) variant.attrs read }

  each_variant : (front variants : List Variant) → variants_of d ≡ front ++ variants
      → AllByRecursion (λ (variant : Variant). IsSaid Default (mark_row (is_open d)) variant.attrs (mark_values d variant)) variants
  each_variant front [] is = tt
  each_variant front (variant ∷ more) is = (
    (mark_settings variant (record { front = front; back = more; is = is })).said,
    each_variant (front ++ variant ∷ []) more (is ∙ sym (append_assoc front (variant ∷ []) more)),
  )

  each_field : (fields : List Field) (written : Bool) → IsCase d fields written → (front own : List Field) → fields ≡ front ++ own → AreFieldsSaid written d own
  each_field fields written case front [] is = tt
  each_field fields written case front (field ∷ more) is = (
    lawful_settings.field_said Default (value_row written) (listed d) field.attrs
        (record { none_stands = λ e cause. uncaused.none_stands e (field_refused d fields written case field (record { front = front; back = more; is = is }) e cause) }),
    each_field fields written case (front ++ field ∷ []) more (is ∙ sym (append_assoc front (field ∷ []) more)),
  )

  each_case : (variants : List Variant) → d.shape ≡ Enum variants → (front own : List Variant) → variants ≡ front ++ own
      → AllByRecursion (λ variant. AreFieldsSaid (is_written d variants variant) d (fields_in variant)) own
  each_case variants shape front [] is = tt
  each_case variants shape front (variant ∷ more) is =
      let among : IsAmong variant variants = record { front = front; back = more; is = is } in
      let marks = mark_settings variant (subst (IsAmong variant) (sym (ap shape_variants shape)) among) in
      let case = IsCase.of_variant (type_values d) (mark_values d variant) variants variant own_settings shape among marks in (
        each_field (fields_in variant) (is_written d variants variant) case [] (fields_in variant) refl,
        each_case variants shape (front ++ variant ∷ []) more (is ∙ sym (append_assoc front (variant ∷ []) more)),
      )

  fields_said : (shape : Shape) → d.shape ≡ shape → AreShapeSaid d shape
  fields_said (Struct shape) is = each_field shape.fields (is_open d) (IsCase.of_struct (type_values d) shape own_settings is) [] shape.fields refl
  fields_said (Enum variants) is = each_case variants is [] variants refl

  pub defaults_said : AreDefaultsSaid d
  defaults_said = record { type_said = own_settings.said; variants_said = each_variant [] (variants_of d) refl; fields_said = fields_said d.shape refl }
