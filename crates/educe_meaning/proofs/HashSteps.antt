-- What the steps of `hash` evaluate to.
use Rattle.std.proofs.Common.{◌≡◌, ℕ, ℤ, pos, List, [], ◌∷◌, ◌++◌, Option, Some, None, map, refl, sym, ap, ◌∙◌}
use Rattle.std.specs.Prelude.{unwrap_or}
use Rattle.std.specs.List.{AllByRecursion}
use Rattle.std.proofs.lemmas.List.{append_assoc, append-nil}
use Rattle.std.proofs.lemmas.Option.{none-some}
use Rattle.educe_tokens.specs.declared.token.Token.{Token}
use Rattle.educe_syntax.specs.Ident.{Ident}
use Rattle.educe_body_values.specs.Answering.{answer_of}
use Rattle.educe_body_values.specs.Meaning.{Scene, look_up, local_flow, go_on, answer_flow, call_named, hash_part, form_value, list_value}
use Rattle.educe_body_values.specs.Scoping.{IsApart}
use Rattle.educe_body_values.specs.declared.answers.Answer.{Answer}
use Rattle.educe_body_values.specs.declared.answers.Answer.TheVariants.{Part as AnswerPart}
use Rattle.educe_body_values.specs.declared.callee.BuiltIn.TheVariants.{Hash}
use Rattle.educe_body_values.specs.declared.callee.Callee.{Callee}
use Rattle.educe_body_values.specs.declared.environment.Binding.{Binding}
use Rattle.educe_body_values.specs.declared.environment.Env.{Env}
use Rattle.educe_body_values.specs.declared.environment.Own.{Own}
use Rattle.educe_body_values.specs.declared.environment.Referent.TheVariants.{Inert as InertReferent}
use Rattle.educe_body_values.specs.declared.flow.Flow.{Flow}
use Rattle.educe_body_values.specs.declared.flow.Flow.TheVariants.{Gives}
use Rattle.educe_body_values.specs.declared.flow.Thing.{Thing}
use Rattle.educe_body_values.specs.declared.flow.Thing.TheVariants.{Nothing, Part, Position, Inert}
use Rattle.educe_body_forms.specs.declared.form.Form.{Form, Local, Call}
use Rattle.educe_body_forms.specs.declared.form.Form as form
use Rattle.educe_meaning.specs.BodyLaws.{lawful_forms}
use Rattle.educe_meaning.specs.Comparing.{asked}
use Rattle.educe_meaning.specs.HashBodies.{Feeds, AreHashSteps, IsPlaceStep}
use Rattle.educe_meaning.specs.Hashing.{Valued, part_said, feeds, AllFeed, fed_by}
use Rattle.educe_settings.specs.Settings.{Kept, How, plainly}
use Rattle.educe_meaning.specs.Steps.{Reading, IsRead}
use Rattle.educe_meaning.proofs.Pairing.{Look, value_in, given}
use Rattle.educe_meaning.proofs.Stepping.{HasOwnPath, called, some_is}

-- ---- one step

-- what was fed, and these parts
abbrev pub grown : Env → List ℤ → Env
grown env more = record env { parts = env.parts ++ more }

-- a part that is answered is fed
part_case : (env : Env) (answer : Option Answer) (n : ℤ) → part_said answer ≡ Some n → go_on (answer_flow env answer) hash_part ≡ Gives (grown env (n ∷ [])) Nothing
part_case env (Some (AnswerPart m)) n is = ap (λ (o : Option ℤ). Gives (grown env (unwrap_or o n ∷ [])) Nothing) is
part_case env answer n is = absurd (none-some n is)

module _ (scene : Scene) (env : Env) (input : List Token) (apart : AllByRecursion (IsApart input) env.names) (state : List ℕ) (inert : look_up env.names state ≡ Some InertReferent) where
  -- the name of the hasher gives what does not count
  hasher_value : (name : Ident) → name.text ≡ state → form_value scene env (Local name) ≡ Gives env Inert
  hasher_value name is = ap (λ (text : List ℕ). local_flow scene env (look_up env.names text)) is ∙ ap (local_flow scene env) inert

  -- a step feeds what its call answers
  call_value : (how : How) (fed x : Form) (thing : Thing) (step : Feeds state how fed x) → HasOwnPath input how → form_value scene env fed ≡ Gives env thing
      → form_value scene env x ≡ go_on (call_named scene.answers (Some (asked Hash how)) env (thing ∷ Inert ∷ [])) hash_part
  call_value how fed x thing step own gives =
      ap (form_value scene env) step.is ∙ lawful_forms.hashed scene env (Call step.path (fed ∷ Local step.hasher ∷ []))
      ∙ ap (λ flow. go_on flow hash_part)
      (lawful_forms.call_two scene env step.path fed (Local step.hasher) thing Inert gives (hasher_value step.hasher step.hasher_is.is)
      ∙ ap (λ (callee : Option Callee). call_named scene.answers callee env (thing ∷ Inert ∷ [])) (called Hash how input env.names step.path apart own step.path_is))

  -- the step on a field feeds the part of the field
  pub field_value : (v : Valued) (fed x : Form) (n : ℤ) → Feeds state v.kept.how fed x → HasOwnPath input v.kept.how → form_value scene env fed ≡ Gives env (Part v.value)
      → feeds scene.answers v ≡ Some n → form_value scene env x ≡ Gives (grown env (n ∷ [])) Nothing
  field_value v fed x n step own gives is =
      call_value v.kept.how fed x (Part v.value) step own gives ∙ part_case env (answer_of scene.answers (asked Hash v.kept.how) (Some v.value) None) n is

  -- the step on the place of a variant feeds the place
  pub place_value : (place : ℕ) (x : Form) → IsPlaceStep state place x → form_value scene env x ≡ Gives (grown env (pos place ∷ [])) Nothing
  place_value place x step =
      call_value plainly (form.Position step.position) x (Position step.position.place) step.is tt refl
      ∙ ap (λ (k : ℕ). Gives (grown env (pos k ∷ [])) Nothing) step.position_is

-- ---- the steps on several fields

-- these names in scope, what was fed, and what `self` is
abbrev pub at : List Binding → List ℤ → Option Own → Env
at names parts self = record { names = names; parts = parts; own = self; shown = None; arguments = [] }

module _ (scene : Scene) (names : List Binding) (self : Option Own) (reading : Reading) (look : Look) where
  -- what reads a field so gives the field's value, whatever was fed before
  abbrev pub ReadsField : Kept → Type 0
  ReadsField k = (x : Form) → IsRead reading k x → (parts : List ℤ) → form_value scene (at names parts self) x ≡ Gives (at names parts self) (Part (value_in look k))

  module _ (input : List Token) (apart : AllByRecursion (IsApart input) names) (state : List ℕ) (inert : look_up names state ≡ Some InertReferent) where
    -- each field's part is fed once, in the order of the steps
    pub steps_value : (kept : List Kept) (steps : List Form) (parts : List ℤ) → AreHashSteps state reading kept steps → AllByRecursion (λ (k : Kept). HasOwnPath input k.how) kept
        → AllByRecursion ReadsField kept → AllFeed scene.answers (map (given look) kept)
        → list_value scene (at names parts self) Nothing steps ≡ Gives (at names (parts ++ fed_by scene.answers (map (given look) kept)) self) Nothing
    steps_value [] [] parts are own reads feed = ap (λ (all : List ℤ). Gives (at names all self) Nothing) (sym (append-nil parts))
    steps_value [] (s ∷ steps) parts are own reads feed = absurd are
    steps_value (k ∷ kept) [] parts are own reads feed = absurd are
    steps_value (k ∷ kept) (s ∷ steps) parts are own reads feed =
        let v = given look k in
        let n = unwrap_or (feeds scene.answers v) (pos 0) in
        let step = are.0 in
        let here = field_value scene (at names parts self) input apart state inert v step.fed s n step.is own.0 (reads.0 step.fed step.fed_is parts) (some_is (feeds scene.answers v) (pos 0) feed.0) in
        ap (λ (flow : Flow). go_on flow (λ env thing. list_value scene env thing steps)) here
        ∙ steps_value kept steps (parts ++ n ∷ []) are.1 own.1 reads.1 feed.1
        ∙ ap (λ (all : List ℤ). Gives (at names all self) Nothing) (append_assoc parts (n ∷ []) (fed_by scene.answers (map (given look) kept)))
