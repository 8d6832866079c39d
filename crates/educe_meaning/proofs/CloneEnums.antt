-- What the body of `clone` of an enum evaluates to.
use Rattle.std.proofs.Common.{◌≡◌, ◌^◌, ℕ, Bool, true, false, List, [], Option, Some, None, map, length, take, refl, sym, ap, ◌∙◌}
use Rattle.std.specs.Prelude.{if◌then◌else◌, nat_lt}
use Rattle.std.specs.List.{AllByRecursion}
use Rattle.std.proofs.lemmas.Option.{none-some}
use Rattle.educe_syntax.specs.DeriveInput.{DeriveInput}
use Rattle.educe_syntax.specs.Field.{Field}
use Rattle.educe_syntax.specs.Shape.{Shape}
use Rattle.educe_syntax.specs.Variant.{Variant}
use Rattle.educe_bound_traits.specs.declared.traits.Trait.TheVariants as trait
use Rattle.educe_body_values.specs.Cases.{case_of_shape}
use Rattle.educe_body_forms.specs.Keys.{AreDifferent}
use Rattle.educe_body_values.specs.Meaning.{Scene, for_field, first_bindings, own_fields, look_up, local_flow, leave, within, form_value, list_value, outcome_of, outcome_of_thing, own_of}
use Rattle.educe_body_values.specs.Scoping.{IsApart}
use Rattle.educe_body_values.specs.declared.answers.Answers.{Answers}
use Rattle.educe_body_values.specs.declared.environment.Binding.{Binding}
use Rattle.educe_body_values.specs.declared.environment.Env.{Env}
use Rattle.educe_body_values.specs.declared.outcome.Outcome.{Outcome}
use Rattle.educe_body_values.specs.declared.flow.Flow.{Flow}
use Rattle.educe_body_values.specs.declared.flow.Flow.TheVariants.{Gives, Returns, Stuck}
use Rattle.educe_body_values.specs.declared.flow.Thing.{Thing}
use Rattle.educe_body_values.specs.declared.flow.Thing.TheVariants.{Nothing, Shown}
use Rattle.educe_body_forms.specs.declared.form.Form.{Form, MatchValue}
use Rattle.educe_body_values.specs.declared.value.Value.{Value}
use Rattle.educe_meaning.specs.Arms.{IsMatchOnSelf}
use Rattle.educe_meaning.specs.Blocks.{scene_with}
use Rattle.educe_settings.specs.Cases.{fields_in}
use Rattle.educe_meaning.specs.CloneBodies.{CloneNames, AreCloneNames, IsCloneArm}
use Rattle.educe_meaning.specs.Cloning.{fields_cloned}
use Rattle.educe_meaning.specs.Comparing.{HasShape}
use Rattle.educe_meaning.specs.Hashing.{valued_from, valued}
use Rattle.educe_meaning.specs.Making.{value_of, placed_value}
use Rattle.educe_settings.specs.Settings.{Kept, settings_of, kept_fields}
use Rattle.educe_meaning.specs.Steps.{bound}
use Rattle.educe_meaning.proofs.AllKept.{AreKept}
use Rattle.educe_meaning.proofs.Arms.{look_in, IsOf, is_of, places_bound, place_gives, arms_placed, arm_at, self_matched, go_on-end}
use Rattle.educe_meaning.proofs.CloneNames.{clone_names, clone_hides_none}
use Rattle.educe_meaning.proofs.CloneSteps.{ReadsField, cloned_gives}
use Rattle.educe_settings.proofs.Elements.{In, In-all, each_in, each_weaker}
use Rattle.educe_meaning.proofs.Facts.{AreFit}
use Rattle.educe_meaning.proofs.Making.{variant_found}
use Rattle.educe_meaning.proofs.Pairing.{Look, IsPlaced, given, valued-given, each_placed}
use Rattle.educe_meaning.proofs.Structs.{HaveOwnMethods, env_of}
use Rattle.educe_meaning.proofs.Variables.{kept_key, fields_different, by_place, variable_found}

-- all fields of each variant take part
abbrev pub AreAllKept : DeriveInput → List Variant → Type 0
AreAllKept d variants = AllByRecursion (λ v. AreKept trait.Clone d (fields_in v)) variants

-- what a body evaluates to does not depend on the names in scope
thing_left : (env : Env) (names : List Binding) (thing : Thing) → outcome_of_thing (record env { names = names }) thing ≡ outcome_of_thing env thing
thing_left env names Shown = refl
thing_left env names thing = refl

-- what a block comes to outside
pub outcome_left : (names : List Binding) (flow : Flow) → outcome_of (leave names flow) ≡ outcome_of flow
outcome_left names (Gives env thing) = thing_left env (take (length names) env.names) thing
outcome_left names (Returns env thing) = thing_left env (take (length names) env.names) thing
outcome_left names Stuck = refl

-- what `self` becomes in a block is what it becomes outside
pub own_left : (names : List Binding) (flow : Flow) → own_of (leave names flow) ≡ own_of flow
own_left names (Gives env thing) = refl
own_left names (Returns env thing) = refl
own_left names Stuck = refl

-- what is there where a test holds
if_some : {X : Type 0} (b : Bool) (o : Option X) (x : X) → (if b then o else None) ≡ Some x → (b ≡ true) × (o ≡ Some x)
if_some true o x is = (refl, is)
if_some false o x is = absurd (none-some x is)

module _ (d : DeriveInput) (variants : List Variant) (fit : AreFit trait.Clone d variants) (every : AreAllKept d variants) (names : CloneNames) (are : AreCloneNames d names) (table : Answers) (a : Value)
    (other : Option Value) (has : HasShape d a) where
  -- what is read
  abbrev scene : Scene
  scene = scene_with d a other table

  abbrev env : Env
  env = env_of a (first_bindings [])

  -- the variant of the value
  abbrev of_a : IsOf d variants a
  of_a = is_of d variants fit.enum a has

  abbrev v : Variant
  v = of_a.variant

  -- its fields, and their values
  abbrev kept : List Kept
  kept = kept_fields trait.Clone d (fields_in v)

  abbrev look : Look
  look = look_in v a

  abbrev differ : AreDifferent (map kept_key kept)
  differ = fields_different trait.Clone d (fields_in v) of_a.names of_a.few

  -- the names in scope in the arm
  abbrev inner : Env
  inner = env_of a (clone_names d names are kept differ)

  abbrev apart : AllByRecursion (IsApart d.tokens) inner.names
  apart = clone_hides_none d names are kept differ

  reads : (k : Kept) → In k kept → ReadsField scene inner d.tokens apart (bound names.sources) look k
  reads k found x r field =
      let sc = for_field scene field in
      ap (form_value sc inner) r.is ∙ ap (λ (text : List ℕ). local_flow sc inner (look_up inner.names text)) r.name_is
      ∙ ap (local_flow sc inner) (variable_found (first_bindings []) names.sources by_place kept differ k found)
      ∙ place_gives sc inner a look k refl (In-all (IsPlaced look a.fields) kept k (each_placed look (settings_of trait.Clone d) (fields_in v) a.fields of_a.give) found)

  -- the match gives the value that has what is made of each field
  pub enum_clones : (block : List Form) (m : IsMatchOnSelf (IsCloneArm d names) variants block) (found : Outcome) → placed_value a.variant (fields_cloned table (valued trait.Clone d a)) ≡ Some found
      → outcome_of (form_value scene env (MatchValue m.value m.arms)) ≡ found
  enum_clones block m found means =
      let picked = arm_at (λ _. IsCloneArm d names) (λ place w arm is. is.pattern_is.variant_is) scene env a (own_fields 0 a.fields) v of_a.found 0 variants m.arms a.variant
      (arms_placed (IsCloneArm d names) 0 variants m.arms m.arms_are) fit.enum.names of_a.at in
      let is = picked.is in
      let with_looks : valued trait.Clone d a ≡ map (given look) kept =
      ap (λ (all : List Field). valued_from trait.Clone d 0 all a.fields) of_a.case_is ∙ valued-given look trait.Clone d 0 (fields_in v) a.fields of_a.give in
      let meant = if_some (nat_lt a.variant (2 ^ 32)) (value_of a.variant (fields_cloned table (map (given look) kept))) found (ap (λ vs. placed_value a.variant (fields_cloned table vs)) (sym with_looks) ∙ means) in
      let name = is.form_is.variant in
      let case = ap (λ (s : Shape). case_of_shape s name) fit.enum.is ∙ variant_found variants a.variant v name fit.enum.names of_a.at is.form_is.variant_is
      ∙ ap (λ (b : Bool). if b then Some (a.variant, fields_in v) else None) meant.0 in
      let own = In-all (λ (v : Variant). HaveOwnMethods trait.Clone d (fields_in v)) variants v fit.methods of_a.inside in
      let all = In-all (λ (v : Variant). AreKept trait.Clone d (fields_in v)) variants v every of_a.inside in
      let each = each_weaker (λ k. In k kept) (ReadsField scene inner d.tokens apart (bound names.sources) look) reads kept (each_in kept) in
      ap outcome_of (self_matched scene env a refl refl m.value m.arms m.value_is.is ∙ picked.value_is)
      ∙ ap (λ (o : Option (List Binding)). outcome_of (within env o (λ env. list_value scene env Nothing picked.arm.block)))
      (places_bound names.sources look (settings_of trait.Clone d) d v a picked.arm.pattern of_a.found of_a.give is.pattern_is)
      ∙ outcome_left env.names (list_value scene inner Nothing picked.arm.block)
      ∙ ap (λ (forms : List Form). outcome_of (list_value scene inner Nothing forms)) is.block_is
      ∙ ap outcome_of (go_on-end (form_value scene inner is.form))
      ∙ cloned_gives scene inner d.tokens apart (bound names.sources) look (Some v.ident.text) v.fields is.form a.variant found is.form_is all case own each meant.1
