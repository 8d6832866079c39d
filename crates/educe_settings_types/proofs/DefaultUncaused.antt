-- Why the handler of `Default` does not reject a definition.
use Rattle.std.proofs.Common.{◌≡◌, ◌∙◌, Bool, true, false, ◌&&◌, ◌||◌, List, ◌∷◌, ◌++◌, Some, None, inl, inr, refl, ap, sym, subst}
use Rattle.std.specs.Prelude.{is_none}
use Rattle.educe_tokens.specs.declared.error.EduceError.{EduceError}
use Rattle.educe_tokens.specs.declared.span.Span.{Span}
use Rattle.educe_syntax.specs.DeriveInput.{DeriveInput}
use Rattle.educe_syntax.specs.Few.{variants_of, shape_fields}
use Rattle.educe_syntax.specs.Field.{Field}
use Rattle.educe_syntax.specs.Shape.{Shape}
use Rattle.educe_syntax.specs.Shape.TheVariants.{Struct, Enum}
use Rattle.educe_syntax.specs.Variant.{Variant}
use Rattle.educe_bound_traits.specs.declared.traits.Trait.TheVariants.{Default}
use Rattle.educe_bound_traits.specs.Traits.{is_listed}
use Rattle.educe_attrs.specs.Among.{IsAmong}
use Rattle.educe_attrs.specs.Causes.{NoCause}
use Rattle.educe_attrs.specs.Laws.{lawful_settings}
use Rattle.educe_attrs.specs.Phases.{OfHandler}
use Rattle.educe_attrs.specs.Places.{OfPlace, OfField}
use Rattle.educe_attrs.specs.Said.{IsPlaceCause, IsSaidCause}
use Rattle.educe_attrs.specs.Values.{Values}
use Rattle.educe_settings.specs.Cases.{fields_in}
use Rattle.educe_settings.specs.Defaults.{mark_row, value_row, type_values, is_open, mark_values, is_marked, is_one, is_written, Choice, choice_by, choice_of, chosen_variant, AreTypeSettings, AreMarkSettings, IsCase, IsOpenEnum, IsMarkedAt, IsUnmarked, IsDefaultCause}
use Rattle.educe_settings.specs.Handled.{handling}
use Rattle.educe_settings.specs.Listed.{listed}
use Rattle.educe_settings.specs.Rows.{type_row}
use Rattle.educe_settings.proofs.Elements.{In, In-all, in_middle, each_weaker}
use Rattle.educe_settings.proofs.Uncaused.{among_in, in_one_of, lists_clear}
use Rattle.educe_settings_types.specs.Defaults.{AreFieldsRead, AreRead, IsMarkRead, AreMarksRead}
use Rattle.educe_settings_types.proofs.Choosing.{none_of_two, none_of_none}

-- ---- settings are what they say, and nothing else

module _ (d : DeriveInput) where
  own_only : (own : Values) → AreTypeSettings d own → own ≡ type_values d
  own_only own settings = lawful_settings.place_only Default (type_row Default d) (listed d) d.attrs settings.read own settings.said

  mark_only : (own : Values) → AreTypeSettings d own → (v : Variant) (mark : Values) → AreMarkSettings d own v mark → mark ≡ mark_values d v
  mark_only own settings v mark marks =
      let here : AreMarkSettings d (type_values d) v mark = subst (λ (own : Values). AreMarkSettings d own v mark) (own_only own settings) marks in
      lawful_settings.place_only Default (mark_row (is_open d)) (listed d) v.attrs here.read mark here.said

  -- a variant is marked where its attributes mark it
  marked : (own : Values) → AreTypeSettings d own → (v : Variant) (place : Span) → IsMarkedAt d own v place → is_marked d v ≡ true
  marked own settings v place is = sym (ap (λ (m : Values). m.flag) (mark_only own settings v is.mark is.settings)) ∙ is.flag

  unmarked : (own : Values) → AreTypeSettings d own → (v : Variant) → IsUnmarked d own v → is_marked d v ≡ false
  unmarked own settings v is = sym (ap (λ (m : Values). m.flag) (mark_only own settings v is.mark is.settings)) ∙ is.flag

  -- of an enum whose type says no value, a variant is chosen
  choice_open : (own : Values) (variants : List Variant) → IsOpenEnum d own variants → choice_of d ≡ chosen_variant d variants
  choice_open own variants is =
      let none : (type_values d).expression ≡ None = sym (ap (λ (v : Values). v.expression) (own_only own is.settings)) ∙ is.no_value in
      λ i. choice_by d (none i) (is.is i)

-- ---- why no cause stands

module _ (d : DeriveInput) (lists : is_listed (listed d) Default ≡ true) (own_read : NoCause (OfPlace Default (type_row Default d) (listed d) d.attrs)) (marks_read : AreMarksRead d (variants_of d))
    (read : AreRead d d.shape) where
  -- a field of a case has no cause
  field_clear : (fields : List Field) (written : Bool) → IsCase d fields written → (field : Field) → IsAmong field fields → NoCause (OfField Default (value_row written) (listed d) field.attrs)
  field_clear fields written (IsCase.of_struct own shape settings is) field among =
      let each : AreFieldsRead (is_open d) d shape.fields = subst (AreRead d) is read in
      let here = In-all (λ (f : Field). NoCause (OfField Default (value_row (is_open d)) (listed d) f.attrs)) shape.fields field each (among_in field shape.fields among) in
      subst (λ (own : Values). NoCause (OfField Default (value_row (is_none own.expression)) (listed d) field.attrs)) (sym (own_only d own settings)) here
  field_clear fields written (IsCase.of_variant own mark variants v settings is stands marks) field among =
      let each : AreRead d (Enum variants) = subst (AreRead d) is read in
      let own_fields = In-all (λ v. AreFieldsRead (is_written d variants v) d (fields_in v)) variants v each (among_in v variants stands) in
      let here = In-all (λ (f : Field). NoCause (OfField Default (value_row (is_written d variants v)) (listed d) f.attrs)) (fields_in v) field own_fields (among_in field (fields_in v) among) in
      let own_same = own_only d own settings in
      let mark_same = mark_only d own settings v mark marks in
      let row : is_written d variants v ≡ (is_none own.expression && (is_one variants || mark.flag)) = sym (λ i. is_none (own_same i).expression && (is_one variants || (mark_same i).flag)) in
      subst (λ written. NoCause (OfField Default (value_row written) (listed d) field.attrs)) row here

  -- no list of a field has a cause
  field_lists : (shape : Shape) → AreRead d shape → (e : EduceError) (field : Field) → In field (shape_fields shape) → IsPlaceCause (listed d) field.attrs e → ⊥
  field_lists (Struct shape) each e field found cause =
      (In-all (λ (f : Field). NoCause (OfField Default (value_row (is_open d)) (listed d) f.attrs)) shape.fields field each found).none_stands e (inl cause)
  field_lists (Enum variants) each e field found cause =
      let (v, outer, inner) = in_one_of fields_in variants field found in
      let own_fields = In-all (λ v. AreFieldsRead (is_written d variants v) d (fields_in v)) variants v each outer in
      (In-all (λ (f : Field). NoCause (OfField Default (value_row (is_written d variants v)) (listed d) f.attrs)) (fields_in v) field own_fields inner).none_stands e (inl cause)

  module _ (choice : Choice) (chosen : choice_of d ≡ Some choice) where
    -- where none is chosen, there is a contradiction
    some_chosen : (own : Values) (variants : List Variant) → IsOpenEnum d own variants → chosen_variant d variants ≡ None → ⊥
    some_chosen own variants is none = let both : Some choice ≡ None = sym chosen ∙ choice_open d own variants is ∙ none in cc

    own_clear : (e : EduceError) → IsDefaultCause d e → ⊥
    own_clear e (IsDefaultCause.by_type said) = own_read.none_stands e (inr (lists, said))
    own_clear e (IsDefaultCause.by_variant own v settings among said) =
        let here : IsSaidCause Default (mark_row (is_open d)) v.attrs e =
        subst (λ (own : Values). IsSaidCause Default (mark_row (is_none own.expression)) v.attrs e) (own_only d own settings) said in
        (In-all (IsMarkRead d) (variants_of d) v marks_read (among_in v (variants_of d) among)).none_stands e (inr (lists, here))
    own_clear e (IsDefaultCause.by_field fields written field case among said) = (field_clear fields written case field among).none_stands e (inr said)
    own_clear e (IsDefaultCause.by_marks place twice) =
        let settings = twice.chooses.settings in
        some_chosen twice.own twice.variants twice.chooses
        (ap (chosen_variant d) twice.are
        ∙ none_of_two d (twice.front ++ twice.first ∷ twice.between) (twice.later ∷ twice.back) twice.first twice.later (in_middle twice.front twice.between twice.first) (inl refl)
        (marked d twice.own settings twice.first twice.first_place twice.first_marked) (marked d twice.own settings twice.later place twice.later_marked))
    own_clear e (IsDefaultCause.by_no_mark place none) =
        some_chosen none.own none.variants none.chooses
        (none_of_none d none.variants none.not_one
        (each_weaker (IsUnmarked d none.own) (λ v. is_marked d v ≡ false) (unmarked d none.own none.chooses.settings) none.variants none.unmarked))

    -- where the attributes have no cause, and it is determined what is made, the handler has none
    pub default_uncaused : NoCause (OfHandler (handling d) Default)
    default_uncaused = record {
      none_stands = λ e cause. elim cause [
        | inl in_lists ↦ lists_clear d e (λ found. own_read.none_stands e (inl found))
            (λ v found own. (In-all (IsMarkRead d) (variants_of d) v marks_read found).none_stands e (inl own)) (field_lists d.shape read e) in_lists
        | inr own ↦ own_clear e own
      ];
    }
