-- What the bodies of `clone` and `clone_from` of a struct evaluate to.
use Rattle.std.proofs.Common.{◌≡◌, ℕ, Bool, true, List, [], ◌∷◌, Option, Some, None, map, refl, sym, ap, ◌∙◌, subst}
use Rattle.std.specs.Prelude.{codes}
use Rattle.std.specs.List.{AllByRecursion}
use Rattle.std.specs.Option.{option_map}
use Rattle.std.proofs.lemmas.Bool.{eq-eqb}
use Rattle.std.proofs.lemmas.Option.{same_Some}
use Rattle.educe_syntax.specs.DeriveInput.{DeriveInput}
use Rattle.educe_syntax.specs.Field.{Field}
use Rattle.educe_syntax.specs.FieldShape.{FieldShape}
use Rattle.educe_syntax.specs.Shape.{Shape}
use Rattle.educe_syntax.specs.Shape.TheVariants.{Struct}
use Rattle.educe_bound_traits.specs.declared.traits.Trait.TheVariants as trait
use Rattle.educe_body_values.specs.Cases.{case_of_shape}
use Rattle.educe_body_forms.specs.Keys.{AreDifferent, shape_fields, keys_from, keys_of}
use Rattle.educe_body_values.specs.Meaning.{Scene, for_field, first_bindings, look_up, part_flow, go_on, place_named, field_named, discarded, assign, form_value, list_value, outcome_of, own_of}
use Rattle.educe_body_values.specs.Scoping.{IsApart, own_self}
use Rattle.educe_body_values.specs.declared.answers.Answers.{Answers}
use Rattle.educe_body_values.specs.declared.environment.Binding.{Binding}
use Rattle.educe_body_values.specs.declared.environment.Referent.TheVariants.{This, Other, OwnField}
use Rattle.educe_body_values.specs.declared.outcome.Outcome.{Outcome}
use Rattle.educe_body_values.specs.declared.flow.Flow.{Flow}
use Rattle.educe_body_values.specs.declared.flow.Flow.TheVariants.{Gives}
use Rattle.educe_body_values.specs.declared.flow.Thing.TheVariants.{Nothing, Part}
use Rattle.educe_body_forms.specs.declared.form.Form.{Form}
use Rattle.educe_body_values.specs.declared.value.FieldValue.{FieldValue}
use Rattle.educe_body_values.specs.declared.value.Value.{Value}
use Rattle.educe_meaning.specs.Blocks.{scene_of, scene_with}
use Rattle.educe_meaning.specs.BodyLaws.{lawful_forms}
use Rattle.educe_meaning.specs.CloneBodies.{CloneNames, AreCloneNames, IsCloneStruct, hands_over, IsAssignment, AreAssignments}
use Rattle.educe_meaning.specs.Cloning.{fields_cloned, fields_cloned_from, clone_from_of}
use Rattle.educe_meaning.specs.Comparing.{HasShape, paired_from, paired}
use Rattle.educe_meaning.specs.Hashing.{valued_from, valued}
use Rattle.educe_meaning.specs.Making.{value_of, placed_value}
use Rattle.educe_settings.specs.Settings.{Kept, settings_of, kept_fields}
use Rattle.educe_meaning.specs.Steps.{of_base}
use Rattle.educe_meaning.proofs.AllKept.{AreKept, InPlace, IsNamed, kept_in_place, kept_values, kept_named}
use Rattle.educe_meaning.proofs.CloneNames.{source_found, outer_hides_none}
use Rattle.educe_meaning.proofs.CloneSteps.{ReadsField, all_made, means_by, cloned_gives, Assigns, steps_value}
use Rattle.educe_settings.proofs.Elements.{In, In-all, each_in, each_weaker, zip_weaker}
use Rattle.educe_meaning.proofs.Making.{no_name}
use Rattle.educe_meaning.proofs.Pairing.{IsGiven, value_in, given, valued-given, each_given, seen, paired-seen}
use Rattle.educe_meaning.proofs.Stepping.{HasOwnPath}
use Rattle.educe_meaning.proofs.Structs.{HaveOwnMethods, look_of, is_struct_of, reads_of, names_for, env_of}

-- ---- `clone`

-- the form of a struct's `clone` gives the value that has what is made of each field
pub struct_clones : (d : DeriveInput) (shape : FieldShape) (block : List Form) → d.shape ≡ Struct shape → AreDifferent (keys_of d) → HaveOwnMethods trait.Clone d shape.fields
    → AreKept trait.Clone d shape.fields → (k : IsCloneStruct d shape block) → (table : Answers) (a : Value) (other : Option Value) (found : Outcome) → HasShape d a
    → placed_value a.variant (fields_cloned table (valued trait.Clone d a)) ≡ Some found → outcome_of (form_value (scene_with d a other table) (env_of a (first_bindings [])) k.form) ≡ found
struct_clones d shape block is differ own all k table a other found has means =
    let fs = shape.fields in
    let kept = kept_fields trait.Clone d fs in
    let look = look_of d a in
    let sc = scene_with d a other table in
    let env = env_of a (first_bindings []) in
    let reading = of_base k.copied (codes "self") in
    let of_a = is_struct_of d shape is differ a has in
    let with_looks : valued trait.Clone d a ≡ map (given look) kept =
    ap (λ (all : List Field). valued_from trait.Clone d 0 all a.fields) of_a.case_is ∙ valued-given look trait.Clone d 0 fs a.fields of_a.give in
    let made : value_of 0 (fields_cloned table (map (given look) kept)) ≡ Some found = (λ i. placed_value (sym of_a.variant_is i) (fields_cloned table (sym with_looks i))) ∙ means in
    let apart : AllByRecursion (IsApart d.tokens) (first_bindings []) = (own_self refl, tt) in
    let reads : (f : Kept) → IsGiven look f → ReadsField sc env d.tokens apart reading look f =
    λ f there x r field. reads_of (for_field sc field) env k.copied (codes "self") This refl f x r ∙ ap (part_flow env) there in
    let each = each_weaker (IsGiven look) (ReadsField sc env d.tokens apart reading look) reads kept (each_given look (settings_of trait.Clone d) 0 fs a.fields of_a.give) in
    let name = k.form_is.variant in
    let case = ap (λ (s : Shape). case_of_shape s name) is ∙ ap (case_of_shape (Struct shape)) (no_name name k.form_is.variant_is) in
    cloned_gives sc env d.tokens apart reading look None shape k.form 0 found k.form_is all case own each made

-- ---- `clone_from`

module _ (d : DeriveInput) (names : CloneNames) (are : AreCloneNames d names) (table : Answers) (a b : Value) (copied : Bool) where
  -- what is read, and the names in scope
  abbrev scene : Scene
  scene = scene_of d a b table

  abbrev outer : List Binding
  outer = names_for names.source

  -- the step of a field assigns
  is_assigning : (k : Kept) (x : Form) → IsGiven (look_of d b) k × IsNamed (keys_of d) k → IsAssignment copied names.source k x
      → Assigns scene copied outer d.tokens (outer_hides_none d names are) a (look_of d a) (look_of d b) k x
  is_assigning k x known step = record {
    path = step.path;
    path_is = step.path_is;
    is = λ fields.
        let env = env_of (record a { fields = fields }) outer in
        let handed = hands_over copied k.how in
        ap (form_value scene env) step.is ∙ lawful_forms.assign_field scene env step.key step.path step.read handed
        ∙ ap (λ (flow : Flow). go_on flow (assign scene step.path handed (field_named scene step.key.text)))
        (reads_of scene env copied names.source Other (source_found d names are) k step.read step.read_is ∙ ap (part_flow env) known.0)
        ∙ ap (λ (o : Option ℕ). assign scene step.path handed (option_map OwnField o) env (Part (value_in (look_of d b) k))) (ap (place_named (keys_of d)) step.key_is ∙ known.1);
  }

  -- the block leaves `self` with what is made of each field; without fields the source is discarded
  block_value : (kept : List Kept) (block : List Form) (values : List FieldValue) → AreAssignments copied names.source kept block → InPlace 0 kept
      → AllByRecursion (λ (k : Kept). HasOwnPath d.tokens k.how) kept → AllByRecursion (λ k. IsGiven (look_of d b) k × IsNamed (keys_of d) k) kept
      → fields_cloned_from table copied (map (seen (look_of d a) (look_of d b)) kept) ≡ Some values
      → list_value scene (env_of (record a { fields = map (value_in (look_of d a)) kept }) outer) Nothing block ≡ Gives (env_of (record a { fields = values }) outer) Nothing
  block_value [] block values is places own known made =
      let env = env_of (record a { fields = [] }) outer in
      ap (list_value scene env Nothing) is.block_is
      ∙ ap (λ (flow : Flow). go_on flow (λ env thing. Gives env thing))
      (ap (λ (text : List ℕ). discarded env (look_up outer text)) is.name_is.is ∙ ap (discarded env) (source_found d names are))
      ∙ ap (λ (fields : List FieldValue). Gives (env_of (record a { fields = fields }) outer) Nothing) (same_Some [] values made)
  block_value (k ∷ kept) block values is places own known made =
      let Known : Kept → Type 0 = λ k. IsGiven (look_of d b) k × IsNamed (keys_of d) k in
      let assigns = zip_weaker Known (IsAssignment copied names.source) (Assigns scene copied outer d.tokens (outer_hides_none d names are) a (look_of d a) (look_of d b)) is_assigning (k ∷ kept) block known is in
      steps_value scene copied outer d.tokens (outer_hides_none d names are) a (look_of d a) (look_of d b) [] (k ∷ kept) block values places assigns own made

  -- the block leaves `self` as `clone_from` means it
  pub struct_clones_from : (shape : FieldShape) (block : List Form) → d.shape ≡ Struct shape → AreDifferent (keys_of d) → HaveOwnMethods trait.Clone d shape.fields → AreKept trait.Clone d shape.fields
      → AreAssignments copied names.source (kept_fields trait.Clone d shape.fields) block → (found : Outcome) → HasShape d a → HasShape d b → clone_from_of table copied d a b ≡ Some found
      → own_of (list_value scene (env_of a outer) Nothing block) ≡ found
  struct_clones_from shape block is differ own all steps found has_a has_b means =
      let fs = shape.fields in
      let kept = kept_fields trait.Clone d fs in
      let at_a = look_of d a in
      let at_b = look_of d b in
      let of_a = is_struct_of d shape is differ a has_a in
      let of_b = is_struct_of d shape is differ b has_b in
      let with_looks : paired trait.Clone d a b ≡ map (seen at_a at_b) kept =
      ap (λ (all : List Field). paired_from trait.Clone d 0 all a.fields b.fields) of_a.case_is ∙ paired-seen at_a at_b trait.Clone d 0 fs a.fields b.fields of_a.give of_b.give in
      let same = means_by table copied d a b found true (eq-eqb a.variant b.variant (of_a.variant_is ∙ sym of_b.variant_is)) means in
      let of = all_made a.variant (fields_cloned_from table copied (paired trait.Clone d a b)) found same in
      let made = ap (fields_cloned_from table copied) (sym with_looks) ∙ of.made in
      let keys : keys_from 0 fs ≡ keys_of d = ap (λ (s : Shape). keys_from 0 (shape_fields s)) (sym is) in
      let named : AllByRecursion (IsNamed (keys_of d)) kept =
      subst (λ keys. AllByRecursion (IsNamed keys) kept) keys (kept_named trait.Clone d fs all (subst AreDifferent (sym keys) differ)) in
      let given_b = each_given at_b (settings_of trait.Clone d) 0 fs b.fields of_b.give in
      let known = each_weaker (λ k. In k kept) (λ k. IsGiven at_b k × IsNamed (keys_of d) k)
      (λ k found. (In-all (IsGiven at_b) kept k given_b found, In-all (IsNamed (keys_of d)) kept k named found)) kept (each_in kept) in
      ap (λ (fields : List FieldValue). own_of (list_value scene (env_of (record a { fields = fields }) outer) Nothing block)) (sym (kept_values trait.Clone d at_a fs a.fields all of_a.give))
      ∙ ap own_of (block_value kept block of.values steps (kept_in_place trait.Clone d fs all) own known made)
      ∙ of.is
