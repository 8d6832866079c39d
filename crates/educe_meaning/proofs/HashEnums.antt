-- What the body of `hash` evaluates to for an enum, and the names in the scope of its arms.
use Rattle.std.proofs.Common.{◌≡◌, ◌≤◌, ◌^◌, ◌+◌, ℕ, ℤ, pos, inl, List, [], ◌∷◌, ◌++◌, Option, Some, map, length, zero-add, refl, sym, ap, ◌∙◌, subst}
use Rattle.std.specs.Prelude.{codes}
use Rattle.std.specs.List.{AllByRecursion}
use Rattle.educe_syntax.specs.DeriveInput.{DeriveInput}
use Rattle.educe_syntax.specs.Field.{Field}
use Rattle.educe_syntax.specs.Naming.{AreApart, field_names}
use Rattle.educe_syntax.specs.Shape.{Shape}
use Rattle.educe_syntax.specs.Variant.{Variant}
use Rattle.educe_bound_traits.specs.declared.traits.Trait.TheVariants as trait
use Rattle.educe_body_values.specs.Meaning.{Scene, look_up, own_fields, local_flow, go_on, leave, within, form_value, list_value, parts_of}
use Rattle.educe_body_values.specs.Scoping.{IsApart}
use Rattle.educe_body_values.specs.declared.answers.Answers.{Answers}
use Rattle.educe_body_values.specs.declared.environment.Binding.{Binding}
use Rattle.educe_body_values.specs.declared.environment.Own.{Own}
use Rattle.educe_body_values.specs.declared.environment.Own.TheVariants.{Value as OwnValue}
use Rattle.educe_body_values.specs.declared.environment.Referent.TheVariants.{Inert}
use Rattle.educe_body_values.specs.declared.outcome.Outcome.TheVariants.{Parts}
use Rattle.educe_body_values.specs.declared.flow.Flow.{Flow}
use Rattle.educe_body_values.specs.declared.flow.Flow.TheVariants.{Gives}
use Rattle.educe_body_values.specs.declared.flow.Thing.TheVariants.{Nothing}
use Rattle.educe_body_forms.specs.declared.form.Form.{Form, MatchValue}
use Rattle.educe_body_values.specs.declared.value.Value.{Value}
use Rattle.educe_meaning.specs.Arms.{AreScoped, variables}
use Rattle.educe_meaning.specs.Blocks.{scene_with}
use Rattle.educe_settings.specs.Cases.{fields_in}
use Rattle.educe_meaning.specs.HashBodies.{HashNames, plain_params, chosen_params, AreHashNames, AreHashSteps, IsPlaceStep, IsHashArm, IsHashMatch, IsHashEnumBlock}
use Rattle.educe_meaning.specs.Hashing.{Valued, valued_from, valued, AllFeed, fed_by, variant_parts, hash_of, HashCovers}
use Rattle.educe_settings.specs.Settings.{Kept, settings_of, kept_fields}
use Rattle.educe_meaning.specs.Steps.{bound}
use Rattle.educe_meaning.proofs.Arms.{look_in, IsOf, is_of, places_bound, place_gives, arm_at, self_matched, go_on-end}
use Rattle.educe_settings.proofs.Elements.{In, In-all, each_in, each_weaker}
use Rattle.educe_meaning.proofs.Facts.{AreFit}
use Rattle.educe_meaning.proofs.HashSteps.{at, ReadsField, place_value, steps_value}
use Rattle.educe_meaning.proofs.HashStructs.{are_plain, outer, self_found, state_found, names_apart}
use Rattle.educe_meaning.proofs.Pairing.{Look, IsPlaced, each_placed, given, valued-given}
use Rattle.educe_meaning.proofs.Structs.{HaveOwnMethods}
use Rattle.educe_meaning.proofs.Variables.{fields_different, by_place, with_variables, with_variables_apart, chosen_found, variable_found, variables_scoped}

-- the names in the scope of an arm are apart, and none but `self` is a word of the definition
pub hash_arm_scope : (d : DeriveInput) (names : HashNames) (fields : List Field) → AreHashNames d names → AreApart (field_names fields) → length fields ≤ 2 ^ 64
    → AreScoped d (chosen_params names ++ variables names.prefix trait.Hash d fields)
hash_arm_scope d names fields are distinct few =
    variables_scoped d plain_params (chosen_params names) are.are are_plain (codes "v_") names.prefix are.prefix_is (kept_fields trait.Hash d fields) (fields_different trait.Hash d fields distinct few)

module _ (d : DeriveInput) (variants : List Variant) (fit : AreFit trait.Hash d variants) (names : HashNames) (are : AreHashNames d names) (table : Answers) (a : Value) (other : Option Value)
    (covers : HashCovers table d a) where
  -- what is read
  abbrev scene : Scene
  scene = scene_with d a other table

  -- what `self` is
  abbrev self : Option Own
  self = Some (OwnValue a)

  -- the variant of the value
  abbrev of_a : IsOf d variants a
  of_a = is_of d variants fit.enum a covers.shape

  -- its fields that take part, and their values
  abbrev kept : List Kept
  kept = kept_fields trait.Hash d (fields_in of_a.variant)

  abbrev look : Look
  look = look_in of_a.variant a

  -- what they feed
  abbrev parts : List ℤ
  parts = fed_by table (map (given look) kept)

  -- the names in scope in the arm
  abbrev inner : List Binding
  inner = with_variables (outer names) names.prefix by_place kept

  paired : valued trait.Hash d a ≡ map (given look) kept
  paired = ap (λ (all : List Field). valued_from trait.Hash d 0 all a.fields) of_a.case_is ∙ valued-given look trait.Hash d 0 (fields_in of_a.variant) a.fields of_a.give

  -- none of these is a word of the definition, `self` aside; the hasher has no value; each variable stands for the value of its field
  apart : AllByRecursion (IsApart d.tokens) inner
  apart = with_variables_apart d plain_params (chosen_params names) are.are are_plain (codes "v_") names.prefix are.prefix_is (outer names) by_place kept (names_apart d names are)

  inert : look_up inner names.state ≡ Some Inert
  inert = chosen_found d plain_params (chosen_params names) are.are are_plain (codes "v_") names.prefix are.prefix_is (outer names) by_place kept names.state (inl refl) ∙ state_found d names are

  reads : (k : Kept) → In k kept → ReadsField scene inner self (bound names.prefix) look k
  reads k found x r fed =
      let differ = fields_different trait.Hash d (fields_in of_a.variant) of_a.names of_a.few in
      ap (form_value scene (at inner fed self)) r.is
      ∙ ap (λ (text : List ℕ). local_flow scene (at inner fed self) (look_up inner text)) r.name_is
      ∙ ap (local_flow scene (at inner fed self)) (variable_found (outer names) names.prefix by_place kept differ k found)
      ∙ place_gives scene (at inner fed self) a look k refl (In-all (IsPlaced look a.fields) kept k (each_placed look (settings_of trait.Hash d) (fields_in of_a.variant) a.fields of_a.give) found)

  -- the arm of a variant feeds its place, and then what its fields feed
  arm_value : (place : ℕ) (block : List Form) (first : Form) (steps : List Form) → block ≡ first ∷ steps → IsPlaceStep names.state place first
      → AreHashSteps names.state (bound names.prefix) kept steps → list_value scene (at inner [] self) Nothing block ≡ Gives (at inner (pos place ∷ parts) self) Nothing
  arm_value place block first steps is first_is steps_are =
      let own = In-all (λ (v : Variant). HaveOwnMethods trait.Hash d (fields_in v)) variants of_a.variant fit.methods of_a.inside in
      let each = each_weaker (λ k. In k kept) (ReadsField scene inner self (bound names.prefix) look) reads kept (each_in kept) in
      ap (list_value scene (at inner [] self) Nothing) is
      ∙ ap (λ (flow : Flow). go_on flow (λ env thing. list_value scene env thing steps)) (place_value scene (at inner [] self) d.tokens apart names.state inert place first first_is)
      ∙ steps_value scene inner self (bound names.prefix) look d.tokens apart names.state inert kept steps (pos place ∷ []) steps_are own each (subst (AllFeed table) paired covers.each)

  -- the match feeds the place of the variant, and then what its fields feed
  match_value : (block : List Form) → IsHashMatch d names variants block → parts_of (list_value scene (at (outer names) [] self) Nothing block) ≡ Parts (pos a.variant ∷ parts)
  match_value block m =
      let env = at (outer names) [] self in
      let v = of_a.variant in
      let picked = arm_at (IsHashArm d names) (λ place w arm is. is.pattern_is.variant_is) scene env a (own_fields 0 a.fields) v of_a.found 0 variants m.arms a.variant m.arms_are fit.enum.names of_a.at in
      let is = picked.is in
      let binds = places_bound names.prefix look (settings_of trait.Hash d) d v a picked.arm.pattern of_a.found of_a.give is.pattern_is in
      ap (λ (forms : List Form). parts_of (list_value scene env Nothing forms)) m.block_is
      ∙ ap parts_of (go_on-end (form_value scene env (MatchValue m.value m.arms)) ∙ self_matched scene env a refl (self_found d names are) m.value m.arms m.value_is.is ∙ picked.value_is)
      ∙ ap (λ (o : Option (List Binding)). parts_of (within env o (λ env. list_value scene env Nothing picked.arm.block))) binds
      ∙ ap (λ (flow : Flow). parts_of (leave (outer names) flow)) (arm_value (0 + a.variant) picked.arm.block is.first is.steps is.block_is is.first_is is.steps_are)
      ∙ ap (λ (place : ℕ). Parts (pos place ∷ parts)) (zero-add a.variant)

  -- the match feeds what the value feeds
  pub enum_feeds : Parts (pos a.variant ∷ parts) ≡ Parts (hash_of table d a)
  enum_feeds =
      ap (λ (vs : List Valued). Parts (pos a.variant ∷ fed_by table vs)) (sym paired)
      ∙ ap (λ (s : Shape). Parts (variant_parts s a ++ fed_by table (valued trait.Hash d a))) (sym fit.enum.is)

-- the block of `hash` of an enum feeds what its value does
pub enum_hashes : (d : DeriveInput) (variants : List Variant) (names : HashNames) (are : AreHashNames d names) (block : List Form) → AreFit trait.Hash d variants → IsHashEnumBlock d names variants block
    → (table : Answers) (a : Value) (other : Option Value) → HashCovers table d a → parts_of (list_value (scene_with d a other table) (at (outer names) [] (Some (OwnValue a))) Nothing block) ≡ Parts (hash_of table d a)
enum_hashes d [] names are block fit is table a other covers = absurd (is_of d [] fit.enum a covers.shape).inside
enum_hashes d (v ∷ vs) names are block fit is table a other covers = match_value d (v ∷ vs) fit names are table a other covers block is ∙ enum_feeds d (v ∷ vs) fit names are table a other covers
