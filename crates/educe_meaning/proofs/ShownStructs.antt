-- What the blocks of `fmt` show: a text, or what a builder has; and what is shown of a struct.
use Rattle.std.proofs.Common.{◌≡◌, ◌||◌, inl, inr, ℕ, Bool, true, false, List, [], ◌∷◌, ◌++◌, Option, Some, map, refl, sym, ap, ◌∙◌, subst}
use Rattle.std.specs.Prelude.{codes, slice_get, unwrap_or}
use Rattle.std.specs.List.{AllByRecursion, list_any, filter_map, cons_option}
use Rattle.std.specs.Option.{option_map}
use Rattle.std.proofs.Math.Bool.{or-true}
use Rattle.educe_syntax.specs.DeriveInput.{DeriveInput}
use Rattle.educe_syntax.specs.FieldShape.{FieldShape}
use Rattle.educe_syntax.specs.Shape.{Shape}
use Rattle.educe_syntax.specs.Shape.TheVariants.{Struct}
use Rattle.educe_body_forms.specs.Keys.{AreDifferent, keys_of}
use Rattle.educe_body_forms.specs.declared.form.Form.{Form, Finish}
use Rattle.educe_body_forms.specs.declared.shown.Opening.{Opening}
use Rattle.educe_body_values.specs.Meaning.{Scene, look_up, go_on, part_flow, list_value, bare_shape, opened, text_flow, builder_flow, finished, outcome_of}
use Rattle.educe_body_values.specs.Scoping.{IsApart}
use Rattle.educe_body_values.specs.declared.answers.Answers.{Answers}
use Rattle.educe_body_values.specs.declared.environment.Binding.{Binding}
use Rattle.educe_body_values.specs.declared.environment.Env.{Env}
use Rattle.educe_body_values.specs.declared.environment.Own.{Own}
use Rattle.educe_body_values.specs.declared.environment.Own.TheVariants.{Value as OwnValue}
use Rattle.educe_body_values.specs.declared.environment.Referent.{Referent}
use Rattle.educe_body_values.specs.declared.environment.Referent.TheVariants.{This, Other, BuilderName, Helper}
use Rattle.educe_body_values.specs.declared.outcome.Outcome.TheVariants.{Shape as OutcomeShape}
use Rattle.educe_body_values.specs.declared.flow.Flow.TheVariants.{Gives}
use Rattle.educe_body_values.specs.declared.flow.Thing.TheVariants.{Nothing}
use Rattle.educe_body_values.specs.declared.shape.Entry.{Entry}
use Rattle.educe_body_values.specs.declared.shape.ShapeForm.TheVariants as form
use Rattle.educe_body_values.specs.declared.value.FieldValue.{FieldValue}
use Rattle.educe_body_values.specs.declared.value.Value.{Value}
use Rattle.educe_meaning.specs.Blocks.{scene_with}
use Rattle.educe_meaning.specs.Comparing.{HasShape}
use Rattle.educe_settings.specs.Settings.{Kept}
use Rattle.educe_meaning.specs.Showing.{no_case, case_shown, entry_with, entry_among, case_shape, shape_of, form_by, form_of}
use Rattle.educe_settings.specs.Shown.{ShownCase, entry_settings, struct_shown, cases_for, shown_cases, shown_fields}
use Rattle.educe_meaning.specs.ShownBodies.{DebugNames, AreDebugNames, IsOpening, IsBuilt, IsWritten, IsDebugStruct, is_map, uses_map}
use Rattle.educe_meaning.specs.Steps.{Reading, of_base}
use Rattle.educe_settings.proofs.Elements.{In, each_weaker}
use Rattle.educe_meaning.proofs.Pairing.{Look, value_in, IsGiven, IsPlaced, each_given, each_placed}
use Rattle.educe_meaning.proofs.ShownScope.{outer, argument_not_self, builder_not_self, self_found, formatter_found, helper_found, outer_hides_none, begun, behind_builder, is_begun}
use Rattle.educe_meaning.proofs.ShownSteps.{showing, stands_first, HasOwnTexts, ReadsField, entries_end}
use Rattle.educe_meaning.proofs.Structs.{env_of, look_of, is_struct_of, reads_of}

-- ---- what is shown

-- what is shown as a builder begins
opened_is : (unit named : Bool) (name : List ℕ) (begins : Opening) → IsOpening (form_by unit named name) name begins → opened begins ≡ bare_shape (form_by unit named name) name
opened_is true named name begins is = absurd is
opened_is false false name begins is = ap opened is.2 ∙ ap (bare_shape form.Tuple) is.1.is
opened_is false true [] begins is = ap opened is
opened_is false true (c ∷ name) begins is = ap opened is.2 ∙ ap (bare_shape form.Struct) is.1.is

-- the entries of values that stand at their places
entries_placed : (d : DeriveInput) (named : Bool) (look : Look) (values : List FieldValue) (kept : List Kept) → AllByRecursion (IsPlaced look values) kept
    → map (λ k. entry_with named d k (value_in look k)) kept ≡ filter_map (entry_among named d values) kept
entries_placed d named look values [] placed = refl
entries_placed d named look values (k ∷ kept) placed = λ i. cons_option (option_map (entry_with named d k) (sym placed.0 i)) (entries_placed d named look values kept placed.1 i)

-- one of a list passes a test that one of them passes
any_in : {X : Type 0} (test : X → Bool) (xs : List X) (x : X) → In x xs → test x ≡ true → list_any test xs ≡ true
any_in test [] x inside is = absurd inside
any_in test (y ∷ xs) x (inl same) is = ap (λ (b : Bool). b || list_any test xs) (ap test same ∙ is)
any_in test (y ∷ xs) x (inr later) is = ap (λ (b : Bool). test y || b) (any_in test xs x later is) ∙ or-true (test y)

-- where a case is shown as a map, the type of its keys stands in front
pub maps_used : (d : DeriveInput) (maps : Bool) → uses_map d ≡ maps → (case : ShownCase) → In case (shown_cases d) → is_map (form_of case) ≡ true → maps ≡ true
maps_used d maps used case inside is = sym used ∙ any_in (λ (case : ShownCase). is_map (form_of case)) (shown_cases d) case inside is

-- ---- blocks

module _ (scene : Scene) (d : DeriveInput) (names : DebugNames) (are : AreDebugNames d names) (a : Value) (around : List Binding) (apart : AllByRecursion (IsApart d.tokens) around)
    (formatter_is : look_up around names.formatter ≡ Some Other) where
  abbrev env : Env
  env = env_of a around

  -- a name that is written is shown
  pub written_value : (name : List ℕ) (block : List Form) → IsWritten names name block → outcome_of (list_value scene env Nothing block) ≡ OutcomeShape (bare_shape form.Word name)
  written_value name block is =
      ap (λ (forms : List Form). outcome_of (list_value scene env Nothing forms)) is.block_is
      ∙ ap (λ (o : Option Referent). outcome_of (go_on (text_flow env o is.literal.text) (λ env thing. Gives env thing))) (ap (look_up around) is.formatter_is.is ∙ formatter_is)
      ∙ ap (λ (text : List ℕ). OutcomeShape (bare_shape form.Word text)) is.literal_is.is

  module _ (case : ShownCase) (helped : is_map (form_of case) ≡ true → look_up around names.helper ≡ Some Helper) (reading : Reading) (look : Look) where
    -- a builder shows the entries of the fields that are shown, by their look-up
    pub built_value : (block : List Form) → IsBuilt d names reading case block → AllByRecursion (HasOwnTexts d.tokens) (shown_fields d case)
        → AllByRecursion (ReadsField scene d.tokens names (Some (OwnValue a)) (begun d names are around) reading look) (shown_fields d case) → (values : List FieldValue)
        → AllByRecursion (IsPlaced look values) (shown_fields d case) → outcome_of (list_value scene env Nothing block) ≡ OutcomeShape (case_shape d case values)
    built_value block b own reads values placed =
        let self : Option Own = Some (OwnValue a) in
        let before = begun d names are around in
        let ready = is_begun d names are around (form_of case) apart helped in
        let rest = b.entries ++ Finish b.last ∷ [] in
        let ends = entries_end scene d.tokens names self before d case reading look ready (shown_fields d case) b.entries (Finish b.last ∷ []) before (bare_shape (form_of case) case.name) []
        b.entries_are own reads (stands_first d.tokens names.argument before ready.apart) refl in
        let all = map (λ k. entry_with case.named d k (value_in look k)) (shown_fields d case) in
        let end : Env = showing ends.names_after self (record { form = form_of case; name = case.name; entries = all }) ends.arguments_after in
        ap (λ (forms : List Form). outcome_of (list_value scene env Nothing forms)) b.block_is
        ∙ ap (λ (o : Option Referent). outcome_of (go_on (builder_flow env o b.builder.text b.begins) (λ env thing. list_value scene env thing rest)))
        (ap (look_up around) b.formatter_is.is ∙ formatter_is)
        ∙ (λ i. outcome_of (list_value scene (showing (around ++ record { name = b.builder_is.is i; referent = BuilderName } ∷ []) self (opened_is case.unit case.named case.name b.begins b.begins_are i) []) Nothing rest))
        ∙ ap outcome_of ends.is
        ∙ ap (λ (o : Option Referent). outcome_of (go_on (finished end o) (λ env thing. Gives env thing)))
        (ap (look_up ends.names_after) b.last_is.is ∙ ends.grown.found names.builder ready.builder_differs ∙ ready.builder_found)
        ∙ ap (λ (es : List Entry). OutcomeShape (record { form = form_of case; name = case.name; entries = es })) (entries_placed d case.named look values (shown_fields d case) placed)

-- ---- structs

-- the block of `fmt` of a struct shows what `fmt` shows of its value
pub struct_shows : (d : DeriveInput) (names : DebugNames) (are : AreDebugNames d names) (maps : Bool) (shape : FieldShape) (block : List Form) → d.shape ≡ Struct shape → AreDifferent (keys_of d)
    → AllByRecursion (HasOwnTexts d.tokens) (shown_fields d (struct_shown d shape)) → uses_map d ≡ maps → IsDebugStruct d names shape block → (table : Answers) (a : Value) (other : Option Value)
    → HasShape d a → outcome_of (list_value (scene_with d a other table) (env_of a (outer maps names)) Nothing block) ≡ OutcomeShape (shape_of d a)
struct_shows d names are maps shape block is differ own used k table a other has =
    let fs = shape.fields in
    let case = struct_shown d shape in
    let look = look_of d a in
    let sc = scene_with d a other table in
    let self : Option Own = Some (OwnValue a) in
    let around = outer maps names in
    let reading = of_base k.copied (codes "self") in
    let of_a = is_struct_of d shape is differ a has in
    let Reads : Kept → Type 0 = ReadsField sc d.tokens names self (begun d names are around) reading look in
    let reads : (f : Kept) → IsGiven look f → Reads f =
    λ f there bs shown arguments x grown r.
    reads_of sc (showing bs self shown arguments) k.copied (codes "self") This
    (grown.found (codes "self") (argument_not_self d names are) ∙ behind_builder d names are around (codes "self") (builder_not_self d names are) ∙ self_found d names are maps) f x r
    ∙ ap (part_flow (showing bs self shown arguments)) there in
    let kept = shown_fields d case in
    let settings = entry_settings case.named d in
    let each = each_weaker (IsGiven look) Reads reads kept (each_given look settings 0 fs a.fields of_a.give) in
    let inside : In case (shown_cases d) = subst (λ (s : Shape). In case (cases_for d s)) (sym is) (inl refl) in
    let case_is : case_shown d a ≡ case = λ i. unwrap_or (slice_get (cases_for d (is i)) (of_a.variant_is i)) no_case in
    built_value sc d names are a around (outer_hides_none d names are maps) (formatter_found d names are maps) case
    (λ mapped. helper_found d names are maps (maps_used d maps used case inside mapped)) reading look block k.built own each a.fields (each_placed look settings fs a.fields of_a.give)
    ∙ ap (λ (c : ShownCase). OutcomeShape (case_shape d c a.fields)) (sym case_is)
