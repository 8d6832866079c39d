-- Why the handler of `Debug` does not reject a definition.
use Rattle.std.proofs.Common.{◌≡◌, ◌∙◌, Bool, true, false, ◌||◌, List, [], ◌∷◌, map, inl, inr, refl, ap, sym, subst}
use Rattle.std.specs.List.{AllByRecursion, list_any}
use Rattle.std.proofs.lemmas.Bool.{true≢false}
use Rattle.educe_tokens.specs.declared.error.EduceError.{EduceError}
use Rattle.educe_syntax.specs.DeriveInput.{DeriveInput}
use Rattle.educe_syntax.specs.Few.{variants_of, shape_fields, all_fields}
use Rattle.educe_syntax.specs.Field.{Field}
use Rattle.educe_syntax.specs.Shape.{Shape}
use Rattle.educe_syntax.specs.Shape.TheVariants.{Struct, Enum}
use Rattle.educe_syntax.specs.Variant.{Variant}
use Rattle.educe_bound_traits.specs.declared.traits.Trait.TheVariants.{Debug}
use Rattle.educe_bound_traits.specs.Traits.{is_listed}
use Rattle.educe_attrs.specs.Causes.{NoCause}
use Rattle.educe_attrs.specs.Laws.{lawful_settings}
use Rattle.educe_attrs.specs.Phases.{OfHandler}
use Rattle.educe_attrs.specs.Places.{OfPlace, OfField}
use Rattle.educe_attrs.specs.Said.{IsPlaceCause}
use Rattle.educe_attrs.specs.Values.{Values}
use Rattle.educe_settings.proofs.Uncaused.{among_in, in_one_of, lists_clear}
use Rattle.educe_settings.specs.Cases.{is_unit, fields_in}
use Rattle.educe_settings.specs.Handled.{handling}
use Rattle.educe_settings.specs.Listed.{listed}
use Rattle.educe_settings.specs.Rows.{type_row}
use Rattle.educe_settings.specs.Settings.{keeps, type_settings}
use Rattle.educe_settings.specs.Shown.{naming_row, entry_row, naming_values, entry_settings, type_text, ShownCase, struct_case, variant_case, struct_shown, variant_shown, cases_for, shown_cases, IsCaseRead, AreTypeSettings, AreNamingSettings, IsStructCase, IsVariantCase, IsCase, IsIgnored, IsNameless, IsShownCause}
use Rattle.educe_settings.proofs.Elements.{In, In-all, In-mapped}
use Rattle.educe_meaning.proofs.Facts.{unit_has_none}
use Rattle.educe_make_debug.specs.Texts.{is_shown}
use Rattle.educe_settings_types.specs.Read.{IsNamingRead, AreRead}
use Rattle.educe_make_debug.proofs.Enough.{shows_of, HasEnough}

-- ---- settings are what they say, and nothing else

module _ (d : DeriveInput) where
  own_only : (own : Values) → AreTypeSettings d own → own ≡ type_settings Debug d
  own_only own settings = lawful_settings.place_only Debug (type_row Debug d) (listed d) d.attrs settings.read own settings.said

  naming_only : (v : Variant) (values : Values) → AreNamingSettings d v values → values ≡ naming_values d v
  naming_only v values settings = lawful_settings.place_only Debug (naming_row v) (listed d) v.attrs settings.read values settings.said

  -- a case that is spoken of is one of those of the definition
  struct_among : (case : ShownCase) → IsStructCase d case → In case (shown_cases d)
  struct_among case s =
      let same : case ≡ struct_shown d s.shape = s.case_is ∙ ap (λ own. struct_case d own s.shape) (own_only s.own s.settings) in
      subst (λ (shape : Shape). In case (cases_for d shape)) (sym s.is) (inl (sym same))

  variant_among : (variant : Variant) (case : ShownCase) → IsVariantCase d variant case → In case (shown_cases d)
  variant_among variant case v =
      let same : case ≡ variant_shown d variant =
      v.case_is ∙ (λ i. variant_case d (own_only v.own v.settings i) variant (naming_only variant v.values v.variant_settings i)) in
      subst (λ (shape : Shape). In case (cases_for d shape)) (sym v.is)
      (subst (λ own. In own (map (variant_shown d) v.variants)) (sym same) (In-mapped (variant_shown d) v.variants variant (among_in variant v.variants v.among)))

  case_among : (case : ShownCase) → IsCase d case → In case (shown_cases d)
  case_among case (IsCase.of_struct s) = struct_among case s
  case_among case (IsCase.of_variant variant v) = variant_among variant case v

  -- a field is among those of a case
  in_cases : (shape : Shape) (f : Field) → In f (shape_fields shape) → (case : ShownCase) × In case (cases_for d shape) × In f case.fields
  in_cases (Struct shape) f found = (struct_shown d shape, inl refl, found)
  in_cases (Enum variants) f found =
      let (v, outer, inner) = in_one_of fields_in variants f found in (variant_shown d v, In-mapped (variant_shown d) variants v outer, inner)

-- ---- cases of which nothing is shown

-- of fields that are not shown none is
none_kept : (d : DeriveInput) (named : Bool) (fields : List Field) → AllByRecursion (IsIgnored d named) fields → list_any keeps (map (entry_settings named d) fields) ≡ false
none_kept d named [] each = refl
none_kept d named (f ∷ fs) each =
    let ignored = each.0 in
    let same = lawful_settings.field_only Debug (entry_row named) (listed d) f.attrs ignored.settings.read ignored.all ignored.settings.said in
    let here : keeps (entry_settings named d f) ≡ false = ap keeps (sym same) ∙ ignored.ignored in
    λ i. here i || none_kept d named fs each.1 i

-- ---- why no cause stands

module _ (d : DeriveInput) (lists : is_listed (listed d) Debug ≡ true) (own_read : NoCause (OfPlace Debug (type_row Debug d) (listed d) d.attrs)) (read : AreRead d) (enough : HasEnough d) where
  -- no field of a case has a cause
  field_clear : (case : ShownCase) → In case (shown_cases d) → (f : Field) → In f case.fields → NoCause (OfField Debug (entry_row case.named) (listed d) f.attrs)
  field_clear case found f inner =
      let own : IsCaseRead d case = In-all (IsCaseRead d) (shown_cases d) case read.cases found in
      In-all (λ (f : Field). NoCause (OfField Debug (entry_row case.named) (listed d) f.attrs)) case.fields f own inner

  -- no list of a field has a cause
  field_lists : (e : EduceError) (f : Field) → In f (all_fields d) → IsPlaceCause (listed d) f.attrs e → ⊥
  field_lists e f found cause = let (case, outer, inner) = in_cases d d.shape f found in (field_clear case outer f inner).none_stands e (inl cause)

  naming_clear : (v : Variant) → In v (variants_of d) → IsNamingRead d v
  naming_clear v found = In-all (IsNamingRead d) (variants_of d) v read.namings found

  -- something is shown of each case
  some_shown : (case : ShownCase) → In case (shown_cases d) → case.name ≡ [] → list_any keeps (map (entry_settings case.named d) case.fields) ≡ false → ⊥
  some_shown case found nameless none =
      let own = In-all (λ shown. shows_of d shown ≡ true) (shown_cases d) case enough.cases found in
      true≢false (sym own ∙ (λ i. is_shown (nameless i) || none i))

  nameless_clear : (case : ShownCase) → In case (shown_cases d) → IsNameless d case → ⊥
  nameless_clear case found is = some_shown case found is.nameless (none_kept d case.named case.fields is.fieldless)

  unit_clear : (v : Variant) (case : ShownCase) → IsVariantCase d v case → case.unit ≡ true → case.name ≡ [] → ⊥
  unit_clear v case is unit nameless =
      let is_one : is_unit v ≡ true = sym (ap (λ (c : ShownCase). c.unit) is.case_is) ∙ unit in
      let none : case.fields ≡ [] = ap (λ (c : ShownCase). c.fields) is.case_is ∙ unit_has_none v is_one in
      some_shown case (variant_among d v case is) nameless (ap (λ fields. list_any keeps (map (entry_settings case.named d) fields)) none)

  own_clear : (e : EduceError) → IsShownCause d e → ⊥
  own_clear e (IsShownCause.by_type said) = own_read.none_stands e (inr (lists, said))
  own_clear e (IsShownCause.by_variant v among said) = (naming_clear v (among_in v (variants_of d) among)).none_stands e (inr (lists, said))
  own_clear e (IsShownCause.by_field case f is among cause) = (field_clear case (case_among d case is) f (among_in f case.fields among)).none_stands e (inr cause)
  own_clear _ (IsShownCause.by_struct case is nameless) = nameless_clear case (struct_among d case is) nameless
  own_clear _ (IsShownCause.by_bracketed_variant v case is bracketed nameless) = nameless_clear case (variant_among d v case is) nameless
  own_clear _ (IsShownCause.by_unit_variant v case is unit nameless) = unit_clear v case is unit nameless
  own_clear _ (IsShownCause.by_empty_enum none) =
      let name : type_text d (type_settings Debug d) ≡ [] = ap (type_text d) (sym (own_only d none.own none.settings)) ∙ none.nameless in
      true≢false (sym (enough.name (ap (cases_for d) none.is)) ∙ ap is_shown name)

  -- where the attributes have no cause, and something is shown of each case, the handler has none
  pub debug_uncaused : NoCause (OfHandler (handling d) Debug)
  debug_uncaused = record {
    none_stands = λ e cause. elim cause [
      | inl in_lists ↦ lists_clear d e (λ found. own_read.none_stands e (inl found)) (λ v found own. (naming_clear v found).none_stands e (inl own)) (field_lists e) in_lists
      | inr own ↦ own_clear e own
    ];
  }
