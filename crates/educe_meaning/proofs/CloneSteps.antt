-- What the calls of `clone` and of `clone_from` make of fields, and what becomes of `self`.
use Rattle.std.proofs.Common.{◌≡◌, ℕ, ◌+◌, Bool, true, false, List, [], ◌∷◌, ◌++◌, Option, Some, None, map, length, refl, sym, ap, ◌∙◌, subst, length-append}
use Rattle.std.specs.Prelude.{◌==◌, if◌then◌else◌, slice_get}
use Rattle.std.specs.List.{AllByRecursion, AllZip}
use Rattle.std.specs.Option.{option_map}
use Rattle.std.proofs.lemmas.List.{append_assoc}
use Rattle.std.proofs.lemmas.Option.{none-some, same_Some}
use Rattle.educe_tokens.specs.declared.token.Token.{Token}
use Rattle.educe_syntax.specs.DeriveInput.{DeriveInput}
use Rattle.educe_syntax.specs.ExprPath.{ExprPath}
use Rattle.educe_syntax.specs.Field.{Field}
use Rattle.educe_syntax.specs.FieldShape.{FieldShape}
use Rattle.educe_bound_traits.specs.declared.traits.Trait.TheVariants as trait
use Rattle.educe_body_values.specs.Answering.{answer_of}
use Rattle.educe_body_values.specs.Cases.{case_named}
use Rattle.educe_body_values.specs.Meaning.{Scene, whole_value, for_field, set_at, with_target, call_named, call_value, go_on, if_made, with_own, local_value, assigned, assign, with_case, built, form_value, inits_list, list_value, outcome_of}
use Rattle.educe_body_values.specs.Scoping.{callee_in, IsApart}
use Rattle.educe_body_values.specs.declared.answers.Answers.{Answers}
use Rattle.educe_body_values.specs.declared.callee.BuiltIn.TheVariants.{Clone}
use Rattle.educe_body_values.specs.declared.callee.Callee.{Callee}
use Rattle.educe_body_values.specs.declared.callee.Callee.TheVariants as callee
use Rattle.educe_body_values.specs.declared.environment.Binding.{Binding}
use Rattle.educe_body_values.specs.declared.environment.Env.{Env}
use Rattle.educe_body_values.specs.declared.environment.Own.TheVariants.{Value as OwnValue}
use Rattle.educe_body_values.specs.declared.environment.Referent.{Referent}
use Rattle.educe_body_values.specs.declared.environment.Referent.TheVariants.{OwnField}
use Rattle.educe_body_values.specs.declared.outcome.Outcome.{Outcome}
use Rattle.educe_body_values.specs.declared.outcome.Outcome.TheVariants as outcome
use Rattle.educe_body_values.specs.declared.flow.Flow.{Flow}
use Rattle.educe_body_values.specs.declared.flow.Flow.TheVariants.{Gives, Stuck}
use Rattle.educe_body_values.specs.declared.flow.Thing.{Thing}
use Rattle.educe_body_values.specs.declared.flow.Thing.TheVariants.{Nothing, Part, Made}
use Rattle.educe_body_forms.specs.declared.form.Form.{Form, Call}
use Rattle.educe_body_forms.specs.declared.form.Init.{Init}
use Rattle.educe_body_values.specs.declared.value.FieldValue.{FieldValue}
use Rattle.educe_body_values.specs.declared.value.Value.{Value}
use Rattle.educe_meaning.specs.BodyLaws.{lawful_forms}
use Rattle.educe_meaning.specs.CloneBodies.{IsCloneInit, IsCloneConstruct, hands_over, assigning}
use Rattle.educe_meaning.specs.Cloning.{cloned, fields_cloned, cloned_from, fields_cloned_from, clone_from_of}
use Rattle.educe_meaning.specs.Comparing.{asked, paired}
use Rattle.educe_meaning.specs.Making.{value_made, value_of, whole_of}
use Rattle.educe_settings.specs.Settings.{Kept, How, plainly, by_method, by_order, kept_fields}
use Rattle.educe_meaning.specs.Steps.{Reading, IsRead, IsCalled}
use Rattle.educe_meaning.proofs.AllKept.{AreKept, InPlace, kept_are}
use Rattle.educe_meaning.proofs.Arms.{key_fits}
use Rattle.educe_meaning.proofs.Making.{made_flow, made_apart}
use Rattle.educe_meaning.proofs.Pairing.{Look, value_in, given, seen}
use Rattle.educe_meaning.proofs.Stepping.{HasOwnPath, called}
use Rattle.educe_meaning.proofs.Structs.{env_of}

-- ---- what is made of several fields

-- what is made of each field, and the value of these
pub record AreAllMade (place : ℕ) (all : Option (List FieldValue)) (found : Outcome) : Type 0 where
  pub values : List FieldValue
  pub made : all ≡ Some values
  pub is : outcome.Made (record { variant = place; fields = values }) ≡ found

pub all_made : (place : ℕ) (all : Option (List FieldValue)) (found : Outcome) → value_of place all ≡ Some found → AreAllMade place all found
all_made place None found means = absurd (none-some found means)
all_made place (Some values) found means = record { values = values; made = refl; is = same_Some (outcome.Made (record { variant = place; fields = values })) found means }

-- what is made as a whole
pub whole_made : (made : Option FieldValue) (found : Outcome) → whole_of made ≡ Some found → (w : FieldValue) × (made ≡ Some w) × (outcome.Whole w ≡ found)
whole_made None found means = absurd (none-some found means)
whole_made (Some w) found means = (w, refl, same_Some (outcome.Whole w) found means)

module _ (table : Answers) (copied : Bool) (d : DeriveInput) (a b : Value) where
  -- what `clone_from` means, by whether both values are of one variant
  abbrev pub meant : Bool → Option Outcome
  meant same =
      if same then value_of a.variant (fields_cloned_from table copied (paired trait.Clone d a b))
      else whole_of (value_made (answer_of table callee.Clone (whole_value (Some b)) None))

  pub means_by : (found : Outcome) (same : Bool) → (a.variant == b.variant) ≡ same → clone_from_of table copied d a b ≡ Some found → meant same ≡ Some found
  means_by found same is means = ap meant (sym is) ∙ means

-- ---- calls

module _ (scene : Scene) (env : Env) (path : ExprPath) (function : Callee) (is : callee_in env.names path ≡ Some function) where
  -- a call of one argument gives what is made of it
  pub one_call : (x w : FieldValue) → value_made (answer_of scene.answers function (Some x) None) ≡ Some w → call_value scene env.names path env (Part x ∷ []) ≡ Gives env (Made w)
  one_call x w made =
      ap (λ (o : Option Callee). call_named scene.answers o env (Part x ∷ [])) is ∙ made_flow env (answer_of scene.answers function (Some x) None) w made

  -- a call of two arguments gives what is made of them
  two_call : (x y w : FieldValue) → value_made (answer_of scene.answers function (Some x) (Some y)) ≡ Some w → call_value scene env.names path env (Part x ∷ Part y ∷ []) ≡ Gives env (Made w)
  two_call x y w made =
      ap (λ (o : Option Callee). call_named scene.answers o env (Part x ∷ Part y ∷ [])) is ∙ made_flow env (answer_of scene.answers function (Some x) (Some y)) w made

  -- a call of the form of one argument gives what is made of it
  form_call : (held : Form) (x w : FieldValue) → form_value scene env held ≡ Gives env (Part x) → value_made (answer_of scene.answers function (Some x) None) ≡ Some w
      → form_value scene env (Call path (held ∷ [])) ≡ Gives env (Made w)
  form_call held x w reads made =
      lawful_forms.call scene env path (held ∷ [])
      ∙ ap (λ (flow : Flow). go_on flow (λ inner thing. call_value scene env.names path inner (thing ∷ []))) reads ∙ one_call x w made

-- ---- `clone`

module _ (scene : Scene) (env : Env) (input : List Token) (apart : AllByRecursion (IsApart input) env.names) (reading : Reading) (look : Look) where
  -- what reads a field so gives the field's value, whichever field is initialized
  abbrev pub ReadsField : Kept → Type 0
  ReadsField k = (x : Form) → IsRead reading k x → (field : Field) → form_value (for_field scene field) env x ≡ Gives env (Part (value_in look k))

  -- each initializer gives what is made of its field
  inits_give : (kept : List Kept) (inits : List Init) (values : List FieldValue) (next : Env → List FieldValue → Flow) → AllZip (IsCloneInit reading) kept inits
      → AllByRecursion (λ (k : Kept). HasOwnPath input k.how) kept → AllByRecursion ReadsField kept → fields_cloned scene.answers (map (given look) kept) ≡ Some values
      → inits_list scene env inits (map (λ (k : Kept). k.field) kept) next ≡ next env values
  inits_give [] [] values next are own reads made = ap (next env) (same_Some [] values made)
  inits_give [] (i ∷ inits) values next are own reads made = absurd are
  inits_give (k ∷ kept) [] values next are own reads made = absurd are
  inits_give (k ∷ kept) (i ∷ inits) values next are own reads made =
      let rest = map (λ (k : Kept). k.field) kept in
      let parts = made_apart (cloned scene.answers (given look k)) (fields_cloned scene.answers (map (given look) kept)) values made in
      let more = if_made (λ env x. inits_list scene env inits rest (λ env xs. next env (x ∷ xs))) in
      let init = are.0 in
      let inner = for_field scene k.field in
      ap (λ (b : Bool). if b then go_on (form_value inner env i.value) more else Stuck) (key_fits k.field.ident i.key init.key_is)
      ∙ ap (λ (x : Form). go_on (form_value inner env x) more) init.is
      ∙ ap (λ (flow : Flow). go_on flow more)
      (form_call inner env init.path (asked Clone k.how) (called Clone k.how input env.names init.path apart own.0 init.path_is) init.own (value_in look k) parts.first
      (reads.0 init.own init.own_is k.field) parts.first_is)
      ∙ inits_give kept inits parts.more (λ env xs. next env (parts.first ∷ xs)) are.1 own.1 reads.1 parts.more_are
      ∙ ap (next env) (sym parts.are)

  -- the form that builds a case gives the value of the case
  pub cloned_gives : (name : Option (List ℕ)) (shape : FieldShape) (x : Form) (place : ℕ) (found : Outcome) (is : IsCloneConstruct scene.definition reading name shape x)
      → AreKept trait.Clone scene.definition shape.fields → case_named scene.definition is.variant ≡ Some (place, shape.fields)
      → AllByRecursion (λ (k : Kept). HasOwnPath input k.how) (kept_fields trait.Clone scene.definition shape.fields) → AllByRecursion ReadsField (kept_fields trait.Clone scene.definition shape.fields)
      → value_of place (fields_cloned scene.answers (map (given look) (kept_fields trait.Clone scene.definition shape.fields))) ≡ Some found → outcome_of (form_value scene env x) ≡ found
  cloned_gives name shape x place found is all named own reads means =
      let kept = kept_fields trait.Clone scene.definition shape.fields in
      let of = all_made place (fields_cloned scene.answers (map (given look) kept)) found means in
      ap (λ (x : Form). outcome_of (form_value scene env x)) is.is
      ∙ ap outcome_of (lawful_forms.construct scene env is.variant shape.form is.inits
      ∙ ap (λ (o : Option (ℕ × List Field)). with_case o (λ place fields. inits_list scene env is.inits fields (built place))) named
      ∙ ap (λ (fields : List Field). inits_list scene env is.inits fields (built place)) (sym (kept_are trait.Clone scene.definition shape.fields all))
      ∙ inits_give kept is.inits of.values (built place) is.inits_are own reads of.made)
      ∙ of.is

-- ---- the field of `self` at a place

found_at : (done : List FieldValue) (x : FieldValue) (rest : List FieldValue) → slice_get (done ++ x ∷ rest) (length done) ≡ Some x
found_at [] x rest = refl
found_at (d ∷ done) x rest = found_at done x rest

put_at : (done : List FieldValue) (x w : FieldValue) (rest : List FieldValue) → set_at (length done) w (done ++ x ∷ rest) ≡ Some (done ++ w ∷ rest)
put_at [] x w rest = refl
put_at (d ∷ done) x w rest = ap (option_map (λ (more : List FieldValue). d ∷ more)) (put_at done x w rest)

-- ---- `clone_from`

module _ (scene : Scene) (copied : Bool) where
  -- the call of a step gives what is made of the two values of its field
  assigned_made : (how : How) (env : Env) (path : ExprPath) (target : Option FieldValue) (x y w : FieldValue) (next : Env → Thing → Flow) → target ≡ Some x
      → callee_in env.names path ≡ Some (asked (assigning copied) how) → cloned_from scene.answers copied how x y ≡ Some w
      → with_target (hands_over copied how) target (λ front. go_on (call_value scene env.names path env (front ++ Part y ∷ [])) next) ≡ next env (Made w)
  assigned_made how env path target x y w next is calls made = by_how copied how calls made
    where
      by_how : (copied : Bool) (how : How) → callee_in env.names path ≡ Some (asked (assigning copied) how) → cloned_from scene.answers copied how x y ≡ Some w
          → with_target (hands_over copied how) target (λ front. go_on (call_value scene env.names path env (front ++ Part y ∷ [])) next) ≡ next env (Made w)
      by_how false plainly calls made =
          ap (λ (o : Option FieldValue). with_target true o (λ front. go_on (call_value scene env.names path env (front ++ Part y ∷ [])) next)) is
          ∙ ap (λ (flow : Flow). go_on flow next) (two_call scene env path callee.CloneFrom calls x y w made)
      by_how true plainly calls made = ap (λ (flow : Flow). go_on flow next) (one_call scene env path callee.Clone calls y w made)
      by_how false (by_method method) calls made = ap (λ (flow : Flow). go_on flow next) (one_call scene env path (asked Clone (by_method method)) calls y w made)
      by_how true (by_method method) calls made = ap (λ (flow : Flow). go_on flow next) (one_call scene env path (asked Clone (by_method method)) calls y w made)
      by_how false (by_order method) calls made = ap (λ (flow : Flow). go_on flow next) (one_call scene env path (asked Clone (by_order method)) calls y w made)
      by_how true (by_order method) calls made = ap (λ (flow : Flow). go_on flow next) (one_call scene env path (asked Clone (by_order method)) calls y w made)

  module _ (names : List Binding) (input : List Token) (apart : AllByRecursion (IsApart input) names) (a : Value) (look_a look_b : Look) where
    -- where `self` has these fields by now
    abbrev pub now : List FieldValue → Env
    now fields = env_of (record a { fields = fields }) names

    -- the step on a field: what it calls is made of the source's field, and is assigned to that of `self`, whatever else has changed
    pub record Assigns (k : Kept) (x : Form) : Type 0 where
      pub path : ExprPath
      pub path_is : IsCalled (assigning copied) k.how path
      pub is : (fields : List FieldValue)
          → form_value scene (now fields) x ≡ assign scene path (hands_over copied k.how) (Some (OwnField k.place)) (now fields) (Part (value_in look_b k))

    -- it leaves `self` with what is made of the two values in place of the field
    step_value : (done : List FieldValue) (k : Kept) (s : Form) (x w : FieldValue) (rest : List FieldValue) → k.place ≡ length done → Assigns k s → HasOwnPath input k.how
        → cloned_from scene.answers copied k.how x (value_in look_b k) ≡ Some w → form_value scene (now (done ++ x ∷ rest)) s ≡ Gives (now (done ++ w ∷ rest)) Nothing
    step_value done k s x w rest here step own made =
        let env = now (done ++ x ∷ rest) in
        let target : Option Referent = Some (OwnField k.place) in
        let found : local_value scene env target ≡ Some x = ap (slice_get (done ++ x ∷ rest)) here ∙ found_at done x rest in
        step.is (done ++ x ∷ rest)
        ∙ assigned_made k.how env step.path (local_value scene env target) x (value_in look_b k) w (if_made (λ env x. with_own env (assigned target x env.own))) found
        (called (assigning copied) k.how input names step.path apart own step.path_is) made
        ∙ ap (λ (n : ℕ). with_own env (option_map (λ xs. OwnValue (record a { fields = xs })) (set_at n w (done ++ x ∷ rest)))) here
        ∙ ap (λ (o : Option (List FieldValue)). with_own env (option_map (λ xs. OwnValue (record a { fields = xs })) o)) (put_at done x w rest)

    -- the steps of several fields, in their order, leave `self` with what is made of them in their places
    pub steps_value : (done : List FieldValue) (kept : List Kept) (steps : List Form) (values : List FieldValue) → InPlace (length done) kept → AllZip Assigns kept steps
        → AllByRecursion (λ (k : Kept). HasOwnPath input k.how) kept → fields_cloned_from scene.answers copied (map (seen look_a look_b) kept) ≡ Some values
        → list_value scene (now (done ++ map (value_in look_a) kept)) Nothing steps ≡ Gives (now (done ++ values)) Nothing
    steps_value done [] [] values places are own made = ap (λ (fields : List FieldValue). Gives (now (done ++ fields)) Nothing) (same_Some [] values made)
    steps_value done [] (s ∷ steps) values places are own made = absurd are
    steps_value done (k ∷ kept) [] values places are own made = absurd are
    steps_value done (k ∷ kept) (s ∷ steps) values places are own made =
        let x = value_in look_a k in
        let rest = map (value_in look_a) kept in
        let parts = made_apart (cloned_from scene.answers copied k.how x (value_in look_b k)) (fields_cloned_from scene.answers copied (map (seen look_a look_b) kept)) values made in
        let w = parts.first in
        let longer : length done + 1 ≡ length (done ++ w ∷ []) = sym (length-append done (w ∷ [])) in
        ap (λ (flow : Flow). go_on flow (λ env thing. list_value scene env thing steps)) (step_value done k s x w rest places.0 are.0 own.0 parts.first_is)
        ∙ ap (λ (fields : List FieldValue). list_value scene (now fields) Nothing steps) (sym (append_assoc done (w ∷ []) rest))
        ∙ steps_value (done ++ w ∷ []) kept steps parts.more (subst (λ n. InPlace n kept) longer places.1) are.1 own.1 parts.more_are
        ∙ ap (λ (fields : List FieldValue). Gives (now fields) Nothing) (append_assoc done (w ∷ []) parts.more)
        ∙ ap (λ (fields : List FieldValue). Gives (now (done ++ fields)) Nothing) (sym parts.are)
