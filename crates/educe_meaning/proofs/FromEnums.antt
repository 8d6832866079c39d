-- What the body of `clone_from` of an enum evaluates to.
use Rattle.std.proofs.Common.{◌≡◌, ℕ, Bool, true, false, List, [], ◌∷◌, Option, Some, None, map, refl, sym, ap, ◌∙◌, subst}
use Rattle.std.specs.Prelude.{◌-◌, ◌^◌, pos, ◌==◌, if◌then◌else◌, slice_get}
use Rattle.std.specs.List.{AllByRecursion}
use Rattle.std.proofs.lemmas.Bool.{false≢true, eqb-true, eq-eqb}
use Rattle.std.proofs.lemmas.Option.{same_Some}
use Rattle.educe_syntax.specs.DeriveInput.{DeriveInput}
use Rattle.educe_syntax.specs.Field.{Field}
use Rattle.educe_syntax.specs.Variant.{Variant}
use Rattle.educe_bound_traits.specs.declared.traits.Trait.TheVariants as trait
use Rattle.educe_body_values.specs.Answering.{answer_of}
use Rattle.educe_body_forms.specs.Keys.{AreDifferent}
use Rattle.educe_body_values.specs.Matching.{variant_of, fits}
use Rattle.educe_body_values.specs.Meaning.{Scene, own_fields, whole_value, look_up, local_flow, with_named, go_on, within, or_nothing, with_own, if_made, assigned, assign, form_value, list_value, held_list, taken, if_let_value, own_of}
use Rattle.educe_body_values.specs.Scoping.{IsApart}
use Rattle.educe_body_values.specs.declared.answers.Answers.{Answers}
use Rattle.educe_body_values.specs.declared.callee.BuiltIn.TheVariants.{Clone}
use Rattle.educe_body_values.specs.declared.callee.Callee.TheVariants as callee
use Rattle.educe_body_values.specs.declared.environment.Binding.{Binding}
use Rattle.educe_body_values.specs.declared.environment.Env.{Env}
use Rattle.educe_body_values.specs.declared.environment.Own.TheVariants.{Whole as OwnWhole}
use Rattle.educe_body_values.specs.declared.environment.Referent.{Referent}
use Rattle.educe_body_values.specs.declared.environment.Referent.TheVariants.{This, Bound}
use Rattle.educe_body_values.specs.declared.outcome.Outcome.{Outcome}
use Rattle.educe_body_values.specs.declared.outcome.Outcome.TheVariants.{Made, Whole}
use Rattle.educe_body_values.specs.declared.flow.Flow.{Flow}
use Rattle.educe_body_values.specs.declared.flow.Flow.TheVariants.{Gives}
use Rattle.educe_body_values.specs.declared.flow.Thing.TheVariants.{Nothing, Part}
use Rattle.educe_body_forms.specs.declared.form.Arm.{Arm}
use Rattle.educe_body_forms.specs.declared.form.Form.{Form, Local, MatchValue, IfLet}
use Rattle.educe_body_values.specs.declared.value.FieldValue.{FieldValue}
use Rattle.educe_body_values.specs.declared.value.Value.{Value}
use Rattle.educe_meaning.specs.Arms.{IsMatchOnSelf}
use Rattle.educe_meaning.specs.Blocks.{scene_of}
use Rattle.educe_meaning.specs.BodyLaws.{lawful_forms}
use Rattle.educe_settings.specs.Cases.{fields_in}
use Rattle.educe_meaning.specs.CloneBodies.{CloneNames, AreCloneNames, hands_over, IsThrough, IsWhole, IsFromArm}
use Rattle.educe_meaning.specs.Cloning.{fields_cloned_from, clone_from_of}
use Rattle.educe_meaning.specs.Comparing.{HasShape, paired_from, paired}
use Rattle.educe_meaning.specs.Making.{value_made}
use Rattle.educe_settings.specs.Settings.{Kept, plainly, settings_of, kept_fields}
use Rattle.educe_meaning.proofs.AllKept.{AreKept, kept_in_place, kept_values}
use Rattle.educe_meaning.proofs.Arms.{look_in, IsOf, is_of, places_bound, values_bound, apart_at, fits_own, fits_no_other, arms_placed, arm_at, self_matched, go_on-end}
use Rattle.educe_meaning.proofs.CloneEnums.{AreAllKept, own_left}
use Rattle.educe_meaning.proofs.CloneNames.{self_found, own_names, both_names, own_self_found, own_source_found, place_found, value_found, own_hides_none, both_hide_none}
use Rattle.educe_meaning.proofs.CloneSteps.{all_made, whole_made, means_by, one_call, Assigns, steps_value}
use Rattle.educe_settings.proofs.Elements.{In, In-all, each_in, zip_weaker}
use Rattle.educe_meaning.proofs.Facts.{AreFit}
use Rattle.educe_meaning.proofs.Pairing.{Look, FieldsGive, value_in, seen, paired-seen}
use Rattle.educe_meaning.proofs.Stepping.{called}
use Rattle.educe_meaning.proofs.Structs.{HaveOwnMethods, names_for, env_of}
use Rattle.educe_meaning.proofs.Variables.{kept_key, fields_different}

module _ (d : DeriveInput) (variants : List Variant) (fit : AreFit trait.Clone d variants) (every : AreAllKept d variants) (names : CloneNames) (are : AreCloneNames d names) (table : Answers) (a b : Value)
    (has_a : HasShape d a) (has_b : HasShape d b) where
  -- what is read
  abbrev scene : Scene
  scene = scene_of d a b table

  abbrev env : Env
  env = env_of a (names_for names.source)

  -- the variants of the two values
  abbrev of_a : IsOf d variants a
  of_a = is_of d variants fit.enum a has_a

  abbrev of_b : IsOf d variants b
  of_b = is_of d variants fit.enum b has_b

  abbrev v : Variant
  v = of_a.variant

  -- the fields of the first, and their values in both
  abbrev kept : List Kept
  kept = kept_fields trait.Clone d (fields_in v)

  abbrev differ : AreDifferent (map kept_key kept)
  differ = fields_different trait.Clone d (fields_in v) of_a.names of_a.few

  abbrev at_a : Look
  at_a = look_in v a

  abbrev at_b : Look
  at_b = look_in v b

  -- the scope behind the pattern for `self`, and the names behind both patterns
  abbrev behind : Env
  behind = env_of a (own_names d names are kept differ)

  abbrev inner : List Binding
  inner = both_names d names are kept differ at_b

  abbrev apart : AllByRecursion (IsApart d.tokens) inner
  apart = both_hide_none d names are kept differ at_b

  -- the step on a field assigns
  is_assigning : (k : Kept) (x : Form) → In k kept → IsThrough names k x → Assigns scene false inner d.tokens apart a at_a at_b k x
  is_assigning k x found step = record {
    path = step.path;
    path_is = step.path_is;
    is = λ fields.
        let own = env_of (record a { fields = fields }) inner in
        let handed = hands_over false k.how in
        ap (form_value scene own) step.is ∙ lawful_forms.assign_through scene own step.target step.path step.read handed
        ∙ ap (λ (flow : Flow). go_on flow (assign scene step.path handed (look_up inner step.target.text)))
        (ap (form_value scene own) step.read_is.is ∙ ap (λ (text : List ℕ). local_flow scene own (look_up inner text)) step.read_is.name_is
        ∙ ap (local_flow scene own) (value_found d names are kept differ at_b k found))
        ∙ ap (λ (o : Option Referent). assign scene step.path handed o own (Part (value_in at_b k))) (ap (look_up inner) step.target_is.is ∙ place_found d names are kept differ at_b k found);
  }

  -- the source as a whole, as a table is shown it
  abbrev source : Option FieldValue
  source = whole_value (Some b)

  -- `self` becomes what is made of it
  whole_assigned : (x : Form) (w : FieldValue) → IsWhole names.source x → value_made (answer_of table callee.Clone source None) ≡ Some w
      → form_value scene behind x ≡ Gives (record behind { own = Some (OwnWhole w) }) Nothing
  whole_assigned x w step made =
      let whole : FieldValue = record { ty = 2 ^ 32 - 1; number = pos b.variant } in
      let names_behind = behind.names in
      ap (form_value scene behind) step.is ∙ lawful_forms.assign_through scene behind step.target step.path (Local step.name) false
      ∙ ap (λ (flow : Flow). go_on flow (assign scene step.path false (look_up names_behind step.target.text)))
      (ap (λ (text : List ℕ). local_flow scene behind (look_up names_behind text)) step.name_is.is ∙ ap (local_flow scene behind) (own_source_found d names are kept differ))
      ∙ ap (λ (o : Option Referent). assign scene step.path false o behind (Part whole)) (ap (look_up names_behind) step.target_is.is ∙ own_self_found d names are kept differ)
      ∙ ap (λ (flow : Flow). go_on flow (if_made (λ env x. with_own env (assigned (Some This) x env.own))))
      (one_call scene behind step.path callee.Clone (called Clone plainly d.tokens names_behind step.path (own_hides_none d names are kept differ) tt step.path_is) whole w made)

  module _ (arm : Arm) (is : IsFromArm d names v arm) where
    -- the steps, if the source fits the inner pattern, or the `else`
    abbrev inner_or_else : Bool → Flow
    inner_or_else t = if t then taken scene behind is.inner is.steps b (map Bound b.fields) else or_nothing behind (held_list scene (Some (is.whole ∷ [])))

    -- an arm comes to one of these
    arm_is : own_of (taken scene env arm.pattern arm.block a (own_fields 0 a.fields)) ≡ own_of (inner_or_else (fits d is.inner b))
    arm_is =
        let others = Some (is.whole ∷ []) in
        let next = if_let_value scene behind is.inner is.steps others in
        ap (λ (o : Option (List Binding)). own_of (within env o (λ inner. list_value scene inner Nothing arm.block)))
        (places_bound names.own at_a (settings_of trait.Clone d) d v a arm.pattern of_a.found of_a.give is.own_is)
        ∙ own_left env.names (list_value scene behind Nothing arm.block)
        ∙ ap (λ (forms : List Form). own_of (list_value scene behind Nothing forms)) is.block_is
        ∙ ap own_of (go_on-end (form_value scene behind (IfLet is.inner is.value is.steps others))
        ∙ lawful_forms.if_let scene behind is.inner is.value is.steps others
        ∙ ap (λ (text : List ℕ). with_named scene behind (look_up behind.names text) next) is.value_is.is
        ∙ ap (λ (o : Option Referent). with_named scene behind o next) (own_source_found d names are kept differ))

    -- the steps leave `self` with what is made of each field
    arm_same : variant_of d b ≡ Some v → FieldsGive at_b 0 (fields_in v) b.fields → (values : List FieldValue) → fields_cloned_from table false (map (seen at_a at_b) kept) ≡ Some values
        → own_of (inner_or_else true) ≡ Made (record a { fields = values })
    arm_same found_b give_b values made =
        let all = In-all (λ (v : Variant). AreKept trait.Clone d (fields_in v)) variants v every of_a.inside in
        let own = In-all (λ (v : Variant). HaveOwnMethods trait.Clone d (fields_in v)) variants v fit.methods of_a.inside in
        let assigns = zip_weaker (λ k. In k kept) (IsThrough names) (Assigns scene false inner d.tokens apart a at_a at_b) is_assigning kept is.steps (each_in kept) is.steps_are in
        ap (λ (o : Option (List Binding)). own_of (within behind o (λ inner. list_value scene inner Nothing is.steps)))
        (values_bound names.sources at_b (settings_of trait.Clone d) d v b is.inner found_b give_b is.inner_is)
        ∙ own_left behind.names (list_value scene (env_of a inner) Nothing is.steps)
        ∙ ap (λ (fields : List FieldValue). own_of (list_value scene (env_of (record a { fields = fields }) inner) Nothing is.steps)) (sym (kept_values trait.Clone d at_a (fields_in v) a.fields all of_a.give))
        ∙ ap own_of (steps_value scene false inner d.tokens apart a at_a at_b [] kept is.steps values (kept_in_place trait.Clone d (fields_in v) all) assigns own made)

    -- the `else` makes it what is made of the source
    arm_other : (w : FieldValue) → value_made (answer_of table callee.Clone source None) ≡ Some w → own_of (inner_or_else false) ≡ Whole w
    arm_other w made =
        own_left behind.names (list_value scene behind Nothing (is.whole ∷ []))
        ∙ ap own_of (go_on-end (form_value scene behind is.whole) ∙ whole_assigned is.whole w is.whole_is made)

    -- what the arm makes of `self` is what is meant
    arm_means : (found : Outcome) (same : Bool) → (a.variant == b.variant) ≡ same → clone_from_of table false d a b ≡ Some found → own_of (inner_or_else (fits d is.inner b)) ≡ found
    arm_means found true test means =
        let same = eqb-true a.variant b.variant test in
        let one : of_b.variant ≡ v = same_Some of_b.variant v (sym of_b.at ∙ ap (slice_get variants) (sym same) ∙ of_a.at) in
        let found_b : variant_of d b ≡ Some v = of_b.found ∙ ap Some one in
        let give_b : FieldsGive at_b 0 (fields_in v) b.fields = subst (λ (v : Variant). FieldsGive (look_in v b) 0 (fields_in v) b.fields) one of_b.give in
        let with_looks : paired trait.Clone d a b ≡ map (seen at_a at_b) kept =
        ap (λ (all : List Field). paired_from trait.Clone d 0 all a.fields b.fields) of_a.case_is ∙ paired-seen at_a at_b trait.Clone d 0 (fields_in v) a.fields b.fields of_a.give give_b in
        let of = all_made a.variant (fields_cloned_from table false (paired trait.Clone d a b)) found (means_by table false d a b found true test means) in
        ap (λ (t : Bool). own_of (inner_or_else t)) (fits_own d b v found_b is.inner is.inner_is.variant_is)
        ∙ arm_same found_b give_b of.values (ap (fields_cloned_from table false) (sym with_looks) ∙ of.made) ∙ of.is
    arm_means found false test means =
        let differs : a.variant ≡ b.variant → ⊥ = λ same. false≢true (sym test ∙ eq-eqb a.variant b.variant same) in
        let made = whole_made (value_made (answer_of table callee.Clone source None)) found (means_by table false d a b found false test means) in
        ap (λ (t : Bool). own_of (inner_or_else t))
        (fits_no_other d b of_b.variant of_b.found v is.inner is.inner_is.variant_is (apart_at variants a.variant b.variant v of_b.variant fit.enum.names of_a.at of_b.at differs))
        ∙ arm_other made.0 made.1 ∙ made.2

  -- the match leaves `self` as `clone_from` means it
  pub enum_clones_from : (block : List Form) → IsMatchOnSelf (IsFromArm d names) variants block → (found : Outcome) → clone_from_of table false d a b ≡ Some found
      → own_of (list_value scene env Nothing block) ≡ found
  enum_clones_from block m found means =
      let picked = arm_at (λ _. IsFromArm d names) (λ place w arm is. is.own_is.variant_is) scene env a (own_fields 0 a.fields) v of_a.found 0 variants m.arms a.variant
      (arms_placed (IsFromArm d names) 0 variants m.arms m.arms_are) fit.enum.names of_a.at in
      ap (λ (forms : List Form). own_of (list_value scene env Nothing forms)) m.block_is
      ∙ ap own_of (go_on-end (form_value scene env (MatchValue m.value m.arms)) ∙ self_matched scene env a refl (self_found d names are) m.value m.arms m.value_is.is ∙ picked.value_is)
      ∙ arm_is picked.arm picked.is ∙ arm_means picked.arm picked.is found (a.variant == b.variant) refl means
