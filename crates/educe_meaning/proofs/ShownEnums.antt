-- What is shown of an enum.
use Rattle.std.proofs.Common.{◌≡◌, inl, inr, ℕ, Bool, true, false, List, [], ◌∷◌, Option, Some, map, refl, sym, ap, ◌∙◌, subst}
use Rattle.std.specs.Prelude.{slice_get, unwrap_or}
use Rattle.std.specs.List.{AllByRecursion, filter_map}
use Rattle.std.specs.Option.{option_map}
use Rattle.std.proofs.lemmas.Option.{slice_get-map}
use Rattle.educe_syntax.specs.DeriveInput.{DeriveInput}
use Rattle.educe_syntax.specs.Field.{Field}
use Rattle.educe_syntax.specs.Shape.{Shape}
use Rattle.educe_syntax.specs.Variant.{Variant}
use Rattle.educe_attrs.specs.FieldSettings.{FieldSettings}
use Rattle.educe_body_forms.specs.Keys.{AreDifferent}
use Rattle.educe_body_forms.specs.declared.form.Form.{Form, MatchValue}
use Rattle.educe_body_values.specs.Meaning.{Scene, look_up, local_flow, own_fields, within, form_value, list_value, outcome_of}
use Rattle.educe_body_values.specs.Scoping.{IsApart}
use Rattle.educe_body_values.specs.declared.answers.Answers.{Answers}
use Rattle.educe_body_values.specs.declared.environment.Binding.{Binding}
use Rattle.educe_body_values.specs.declared.environment.Own.{Own}
use Rattle.educe_body_values.specs.declared.environment.Own.TheVariants.{Value as OwnValue}
use Rattle.educe_body_values.specs.declared.outcome.Outcome.TheVariants.{Shape as OutcomeShape}
use Rattle.educe_body_values.specs.declared.flow.Thing.TheVariants.{Nothing}
use Rattle.educe_body_values.specs.declared.value.Value.{Value}
use Rattle.educe_settings.specs.Cases.{is_unit, fields_in}
use Rattle.educe_meaning.specs.Arms.{IsMatchOnSelf}
use Rattle.educe_meaning.specs.Blocks.{scene_with}
use Rattle.educe_meaning.specs.Comparing.{HasShape}
use Rattle.educe_settings.specs.Settings.{Kept, kept_by}
use Rattle.educe_meaning.specs.Showing.{no_case, case_shown, entry_among, case_shape, shape_of, form_by}
use Rattle.educe_settings.specs.Shown.{ShownCase, entry_settings, variant_shown, cases_for, shown_cases, shown_fields}
use Rattle.educe_meaning.specs.ShownBodies.{DebugNames, chosen_fmt_names, plain_fmt_names, AreDebugNames, IsArmBlock, IsDebugArm, IsDebugEnum, uses_map}
use Rattle.educe_meaning.specs.Steps.{bound}
use Rattle.educe_meaning.proofs.Arms.{look_in, IsOf, is_of, places_bound, place_gives, arms_placed, arm_at, self_matched, go_on-end}
use Rattle.educe_meaning.proofs.CloneEnums.{outcome_left}
use Rattle.educe_settings.proofs.Elements.{In, In-all, In-mapped, each_in, each_weaker}
use Rattle.educe_meaning.proofs.Facts.{IsEnumOf, unit_has_none}
use Rattle.educe_meaning.proofs.Pairing.{Look, IsPlaced, each_placed}
use Rattle.educe_meaning.proofs.ShownNames.{fmt_plain, fmt_are}
use Rattle.educe_meaning.proofs.ShownScope.{outer, self_found, formatter_found, helper_found, outer_hides_none, begun, behind_builder}
use Rattle.educe_meaning.proofs.ShownSteps.{showing, HasOwnTexts, ReadsField}
use Rattle.educe_meaning.proofs.ShownStructs.{maps_used, written_value, built_value}
use Rattle.educe_meaning.proofs.Structs.{env_of}
use Rattle.educe_meaning.proofs.Variables.{kept_key, variable, different_by, by_place, with_variables, with_variables_apart, variable_not_chosen, chosen_found, variable_found}

module _ (d : DeriveInput) (variants : List Variant) (fit : IsEnumOf d variants) (names : DebugNames) (are : AreDebugNames d names) (maps : Bool) (used : uses_map d ≡ maps)
    (own : AllByRecursion (λ (v : Variant). AllByRecursion (HasOwnTexts d.tokens) (shown_fields d (variant_shown d v))) variants) (table : Answers) (a : Value) (other : Option Value) (has : HasShape d a) where
  -- what is read
  abbrev scene : Scene
  scene = scene_with d a other table

  abbrev self : Option Own
  self = Some (OwnValue a)

  -- the variant of the value
  abbrev of_a : IsOf d variants a
  of_a = is_of d variants fit a has

  abbrev v : Variant
  v = of_a.variant

  abbrev case : ShownCase
  case = variant_shown d v

  -- its fields that are shown, and their values
  abbrev settings : Field → FieldSettings
  settings = entry_settings case.named d

  abbrev kept : List Kept
  kept = shown_fields d case

  abbrev look : Look
  look = look_in v a

  abbrev differ : AreDifferent (map kept_key kept)
  differ = different_by (fields_in v) (map settings (fields_in v)) of_a.names of_a.few

  -- the names in scope in the arm, and behind the builder
  abbrev inner : List Binding
  inner = with_variables (outer maps names) names.prefix by_place kept

  abbrev before : List Binding
  before = begun d names are inner

  -- none of these hides a word of the definition; a chosen name stands for what it does outside
  hides_none : AllByRecursion (IsApart d.tokens) inner
  hides_none =
      with_variables_apart d plain_fmt_names (chosen_fmt_names names) (fmt_are d names are) fmt_plain [] names.prefix are.prefix_is (outer maps names) by_place kept (outer_hides_none d names are maps)

  found_inside : (name : List ℕ) → In name (chosen_fmt_names names) → look_up inner name ≡ look_up (outer maps names) name
  found_inside = chosen_found d plain_fmt_names (chosen_fmt_names names) (fmt_are d names are) fmt_plain [] names.prefix are.prefix_is (outer maps names) by_place kept

  -- no variable is one
  not_variable : (name : List ℕ) → In name (chosen_fmt_names names) → (k : Kept) → (name ≡ variable names.prefix k) → ⊥
  not_variable name inside k same =
      variable_not_chosen d plain_fmt_names (chosen_fmt_names names) (fmt_are d names are) fmt_plain [] names.prefix are.prefix_is name inside (kept_key k) (sym same)

  -- each variable gives the value of its field
  reads : (k : Kept) → In k kept → ReadsField scene d.tokens names self before (bound names.prefix) look k
  reads k found bs shown arguments x grown r =
      let env = showing bs self shown arguments in
      let name = variable names.prefix k in
      ap (form_value scene env) r.is ∙ ap (λ (text : List ℕ). local_flow scene env (look_up bs text)) r.name_is
      ∙ ap (local_flow scene env)
      (grown.found name (not_variable names.argument (inr (inr (inl refl))) k) ∙ behind_builder d names are inner name (not_variable names.builder (inr (inl refl)) k)
      ∙ variable_found (outer maps names) names.prefix by_place kept differ k found)
      ∙ place_gives scene env a look k refl (In-all (IsPlaced look a.fields) kept k (each_placed look settings (fields_in v) a.fields of_a.give) found)

  -- the case is among those of the definition
  inside : In case (shown_cases d)
  inside = subst (λ (s : Shape). In case (cases_for d s)) (sym fit.is) (In-mapped (variant_shown d) variants v of_a.inside)

  -- the block in its arm shows it
  arm_value : (unit : Bool) → is_unit v ≡ unit → (block : List Form) → IsArmBlock unit d names case block
      → outcome_of (list_value scene (env_of a inner) Nothing block) ≡ OutcomeShape (case_shape d case a.fields)
  arm_value true is block k =
      let none = unit_has_none v is in
      written_value scene d names are a inner hides_none (found_inside names.formatter (inl refl) ∙ formatter_found d names are maps) case.name block k
      ∙ (λ i. OutcomeShape (record {
        form = form_by (sym is i) case.named case.name;
        name = case.name;
        entries = filter_map (entry_among case.named d a.fields) (kept_by 0 (sym none i) (map settings (sym none i)));
      }))
  arm_value false is block k =
      let each = each_weaker (λ k. In k kept) (ReadsField scene d.tokens names self before (bound names.prefix) look) reads kept (each_in kept) in
      let texts = In-all (λ (v : Variant). AllByRecursion (HasOwnTexts d.tokens) (shown_fields d (variant_shown d v))) variants v own of_a.inside in
      built_value scene d names are a inner hides_none (found_inside names.formatter (inl refl) ∙ formatter_found d names are maps) case
      (λ mapped. found_inside names.helper (inr (inr (inr (inr (inl refl))))) ∙ helper_found d names are maps (maps_used d maps used case inside mapped))
      (bound names.prefix) look block k texts each a.fields (each_placed look settings (fields_in v) a.fields of_a.give)

  -- the match shows what `fmt` shows of the value
  match_shows : (block : List Form) → IsMatchOnSelf (IsDebugArm d names) variants block
      → outcome_of (list_value scene (env_of a (outer maps names)) Nothing block) ≡ OutcomeShape (shape_of d a)
  match_shows block m =
      let env = env_of a (outer maps names) in
      let picked = arm_at (λ _. IsDebugArm d names) (λ place w arm is. is.pattern_is.variant_is) scene env a (own_fields 0 a.fields) v of_a.found 0 variants m.arms a.variant
      (arms_placed (IsDebugArm d names) 0 variants m.arms m.arms_are) fit.names of_a.at in
      let is = picked.is in
      let binds = places_bound names.prefix look settings d v a picked.arm.pattern of_a.found of_a.give is.pattern_is in
      let case_is : case_shown d a ≡ case =
      ap (λ (s : Shape). unwrap_or (slice_get (cases_for d s) a.variant) no_case) fit.is
      ∙ ap (λ (o : Option ShownCase). unwrap_or o no_case) (slice_get-map (variant_shown d) variants a.variant ∙ ap (option_map (variant_shown d)) of_a.at) in
      ap (λ (forms : List Form). outcome_of (list_value scene env Nothing forms)) m.block_is
      ∙ ap outcome_of (go_on-end (form_value scene env (MatchValue m.value m.arms)) ∙ self_matched scene env a refl (self_found d names are maps) m.value m.arms m.value_is.is ∙ picked.value_is)
      ∙ ap (λ (o : Option (List Binding)). outcome_of (within env o (λ env. list_value scene env Nothing picked.arm.block))) binds
      ∙ outcome_left (outer maps names) (list_value scene (env_of a inner) Nothing picked.arm.block)
      ∙ arm_value (is_unit v) refl picked.arm.block is.block_is
      ∙ ap (λ (c : ShownCase). OutcomeShape (case_shape d c a.fields)) (sym case_is)

-- the block of `fmt` of an enum shows what `fmt` shows of its value
pub enum_shows : (d : DeriveInput) (variants : List Variant) (names : DebugNames) → AreDebugNames d names → (maps : Bool) (block : List Form) → IsEnumOf d variants
    → AllByRecursion (λ (v : Variant). AllByRecursion (HasOwnTexts d.tokens) (shown_fields d (variant_shown d v))) variants → uses_map d ≡ maps → IsDebugEnum d names variants block
    → (table : Answers) (a : Value) (other : Option Value) → HasShape d a
    → outcome_of (list_value (scene_with d a other table) (env_of a (outer maps names)) Nothing block) ≡ OutcomeShape (shape_of d a)
enum_shows d [] names are maps block fit own used k table a other has = absurd (is_of d [] fit a has).inside
enum_shows d (v ∷ vs) names are maps block fit own used k table a other has = match_shows d (v ∷ vs) fit names are maps used own table a other has block k
