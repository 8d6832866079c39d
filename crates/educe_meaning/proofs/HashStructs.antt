-- What the body of `hash` evaluates to for a struct, and the names in its scope.
use Rattle.std.proofs.Common.{◌≡◌, ℕ, inl, inr, Bool, true, false, List, [], ◌∷◌, ◌++◌, Option, Some, None, map, refl, sym, ap, ◌∙◌, subst}
use Rattle.std.specs.Prelude.{if◌then◌else◌, codes}
use Rattle.std.specs.List.{AllByRecursion}
use Rattle.std.specs.Str.{bytes_eq}
use Rattle.std.proofs.lemmas.Bool.{or_parts}
use Rattle.educe_syntax.specs.DeriveInput.{DeriveInput}
use Rattle.educe_syntax.specs.Field.{Field}
use Rattle.educe_syntax.specs.FieldShape.{FieldShape}
use Rattle.educe_syntax.specs.Shape.{Shape}
use Rattle.educe_syntax.specs.Shape.TheVariants.{Struct}
use Rattle.educe_bound_traits.specs.declared.traits.Trait.TheVariants as trait
use Rattle.educe_body_forms.specs.Keys.{AreDifferent, keys_of}
use Rattle.educe_body_values.specs.Meaning.{Scene, start, first_own, innermost, look_up, part_flow, list_value, parts_of, ended, value}
use Rattle.educe_body.specs.NameLaws.{lawful_names}
use Rattle.educe_body_values.specs.Scoping.{IsApart}
use Rattle.educe_body_values.specs.declared.answers.Answers.{Answers}
use Rattle.educe_body_forms.specs.declared.body.Body.{Body}
use Rattle.educe_body_values.specs.declared.environment.Binding.{Binding}
use Rattle.educe_body_values.specs.declared.environment.Own.{Own}
use Rattle.educe_body_values.specs.declared.environment.Own.TheVariants.{Value as OwnValue}
use Rattle.educe_body_values.specs.declared.environment.Referent.{Referent}
use Rattle.educe_body_values.specs.declared.environment.Referent.TheVariants.{This, Inert}
use Rattle.educe_body_values.specs.declared.outcome.Outcome.TheVariants.{Parts}
use Rattle.educe_body_values.specs.declared.flow.Thing.TheVariants.{Nothing}
use Rattle.educe_body_forms.specs.declared.form.Form.{Form}
use Rattle.educe_body_values.specs.declared.value.Value.{Value}
use Rattle.educe_body_values.proofs.Fields.{bytes_eq-same, bytes_eq-differ}
use Rattle.educe_meaning.specs.Arms.{AreScoped}
use Rattle.educe_meaning.specs.Blocks.{scene_with}
use Rattle.educe_meaning.specs.HashBodies.{HashNames, plain_params, chosen_params, AreHashNames, AreHashParams, IsHashStructBlock}
use Rattle.educe_meaning.specs.Hashing.{Valued, valued_from, valued, AllFeed, fed_by, variant_parts, hash_of, HashCovers}
use Rattle.educe_settings.specs.Settings.{Kept, settings_of, kept_fields}
use Rattle.educe_meaning.specs.Steps.{of_base}
use Rattle.educe_settings.proofs.Elements.{each_weaker}
use Rattle.educe_meaning.proofs.Facts.{ArePlain}
use Rattle.educe_meaning.proofs.HashSteps.{at, ReadsField, steps_value}
use Rattle.educe_meaning.proofs.Pairing.{IsGiven, given, valued-given, each_given}
use Rattle.educe_meaning.proofs.Structs.{HaveOwnMethods, look_of, is_struct_of, reads_of}
use Rattle.educe_meaning.proofs.Variables.{name_not_self, outer_apart, chosen_scoped}

-- ---- the names

-- the names of the parameters, where nothing is in their way, have no `r#`, and none of them is `self`
pub are_plain : ArePlain plain_params
are_plain = record { raw = (refl, (refl, tt)); others = (refl, (refl, tt)) }

-- the names in scope of a hasher and its type that have these names
abbrev hash_scope : List ℕ → List ℕ → List Binding
hash_scope state hasher = record { name = codes "self"; referent = This } ∷ record { name = state; referent = Inert } ∷ record { name = hasher; referent = Inert } ∷ []

-- what a name stands for, by whether it is `self`, the hasher, or the type of that
abbrev of_three : Bool → Bool → Bool → Option Referent
of_three own state hasher = innermost (if own then Some This else None) (innermost (if state then Some Inert else None) (innermost (if hasher then Some Inert else None) None))

-- the names in scope as `hash` begins
abbrev pub outer : HashNames → List Binding
outer names = hash_scope names.state names.hasher

module _ (d : DeriveInput) (names : HashNames) (are : AreHashNames d names) where
  state_self : bytes_eq names.state (codes "self") ≡ false
  state_self = bytes_eq-differ names.state (codes "self") (name_not_self d plain_params (chosen_params names) are.are are_plain names.state (inl refl))

  hasher_self : bytes_eq names.hasher (codes "self") ≡ false
  hasher_self = bytes_eq-differ names.hasher (codes "self") (name_not_self d plain_params (chosen_params names) are.are are_plain names.hasher (inr (inl refl)))

  hasher_state : bytes_eq names.hasher names.state ≡ false
  hasher_state = (or_parts _ _ (lawful_names.apart are.are.words plain_params (chosen_params names) are.are.chosen).0).0

  -- `self` stands for the value
  pub self_found : look_up (outer names) (codes "self") ≡ Some This
  self_found = λ i. of_three true (state_self i) (hasher_self i)

  -- the hasher has no value
  pub state_found : look_up (outer names) names.state ≡ Some Inert
  state_found = λ i. of_three (bytes_eq (codes "self") names.state) (bytes_eq-same names.state i) (hasher_state i)

  -- no name in scope is a word of the definition, `self` aside
  pub names_apart : AllByRecursion (IsApart d.tokens) (outer names)
  names_apart = outer_apart d plain_params (chosen_params names) are.are are_plain (outer names) (inl refl, (inr (inl refl), (inr (inr (inl refl)), tt)))

  -- the names in the scope of the function of a struct are apart, and none but `self` is a word of the definition
  pub params_scoped : AreScoped d (chosen_params names)
  params_scoped = chosen_scoped d plain_params (chosen_params names) are.are are_plain

-- a body with these parameters begins in this scope, and comes to what is fed
pub begins : (scene : Scene) (names : HashNames) (body : Body) (k : AreHashParams names body.params)
    → value body scene ≡ parts_of (list_value scene (at (outer names) [] (first_own scene.this)) Nothing body.block)
begins scene names body k =
    (λ i. ended (k.are i) body.block (list_value scene (start (k.are i) scene.this) Nothing body.block))
    ∙ (λ i. parts_of (list_value scene (at (hash_scope (k.state_is i) (k.hasher_is i)) [] (first_own scene.this)) Nothing body.block))

-- ---- structs

-- the block of `hash` of a struct feeds what its value does
pub struct_hashes : (d : DeriveInput) (shape : FieldShape) (names : HashNames) (are : AreHashNames d names) (block : List Form) → d.shape ≡ Struct shape → AreDifferent (keys_of d)
    → HaveOwnMethods trait.Hash d shape.fields → IsHashStructBlock d names shape.fields block → (table : Answers) (a : Value) (other : Option Value) → HashCovers table d a
    → parts_of (list_value (scene_with d a other table) (at (outer names) [] (Some (OwnValue a))) Nothing block) ≡ Parts (hash_of table d a)
struct_hashes d shape names are block is differ named k table a other covers =
    let fs = shape.fields in
    let kept = kept_fields trait.Hash d fs in
    let look = look_of d a in
    let sc = scene_with d a other table in
    let own = outer names in
    let self : Option Own = Some (OwnValue a) in
    let reading = of_base k.copied (codes "self") in
    let of_a = is_struct_of d shape is differ a covers.shape in
    let paired : valued trait.Hash d a ≡ map (given look) kept =
    ap (λ (all : List Field). valued_from trait.Hash d 0 all a.fields) of_a.case_is ∙ valued-given look trait.Hash d 0 fs a.fields of_a.give in
    let feed : AllFeed table (map (given look) kept) = subst (AllFeed table) paired covers.each in
    let reads : (f : Kept) → IsGiven look f → ReadsField sc own self reading look f =
    λ f there x r parts. reads_of sc (at own parts self) k.copied (codes "self") This (self_found d names are) f x r ∙ ap (part_flow (at own parts self)) there in
    let each = each_weaker (IsGiven look) (ReadsField sc own self reading look) reads kept (each_given look (settings_of trait.Hash d) 0 fs a.fields of_a.give) in
    ap parts_of (steps_value sc own self reading look d.tokens (names_apart d names are) names.state (state_found d names are) kept block [] k.steps_are named each feed)
    ∙ ap (λ (vs : List Valued). Parts (fed_by table vs)) (sym paired)
    ∙ ap (λ (s : Shape). Parts (variant_parts s a ++ fed_by table (valued trait.Hash d a))) (sym is)
