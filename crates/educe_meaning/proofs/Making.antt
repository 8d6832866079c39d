-- The body of `default` evaluates to what `default` means.
use Rattle.std.proofs.Common.{◌≡◌, ℕ, zero, suc, ◌+◌, ◌^◌, Bool, true, false, List, [], ◌∷◌, ◌++◌, Option, Some, None, refl, sym, ap, ◌∙◌, subst, arith}
use Rattle.std.specs.Prelude.{if◌then◌else◌, codes, slice_get, nat_lt}
use Rattle.std.specs.Option.{option_map}
use Rattle.std.specs.List.{AllZip}
use Rattle.std.specs.Str.{bytes_eq}
use Rattle.std.specs.Cmp.Lexicographic.{pointwise}
use Rattle.std.proofs.lemmas.Bool.{or_from, and_right, and_from, cond-false}
use Rattle.std.proofs.lemmas.List.{map-append}
use Rattle.std.proofs.lemmas.Option.{same_Some}
use Rattle.std.proofs.lemmas.Slice.Eq.{bytes_eq-Decides}
use Rattle.educe_tokens.specs.declared.token.Token.{Token}
use Rattle.educe_tokens.specs.declared.written.Written.{Written}
use Rattle.educe_tokens.specs.Lexes.{Lexeme, lexemes}
use Rattle.educe_tokens.specs.Quote.{quoted}
use Rattle.educe_tokens.specs.WrittenLexemes.{written_lexemes}
use Rattle.educe_syntax.specs.DeriveInput.{DeriveInput}
use Rattle.educe_syntax.specs.Expr.{Expr}
use Rattle.educe_syntax.specs.Field.{Field}
use Rattle.educe_syntax.specs.FieldShape.{FieldShape}
use Rattle.educe_syntax.specs.Ident.{Ident}
use Rattle.educe_syntax.specs.Keywords.{unraw}
use Rattle.educe_syntax.specs.Naming.{variant_names, AreApart, AllApart, AreNamesApart, shape_scopes}
use Rattle.educe_syntax.specs.Shape.{Shape}
use Rattle.educe_syntax.specs.Shape.TheVariants.{Struct, Enum}
use Rattle.educe_syntax.specs.TokenLaws.{lawful_copies}
use Rattle.educe_syntax.specs.Variant.{Variant}
use Rattle.educe_attrs.specs.Adjusted.{adjusted}
use Rattle.educe_body_values.specs.declared.answers.Answer.{Answer}
use Rattle.educe_body_values.specs.declared.answers.Answer.TheVariants as answer
use Rattle.educe_body_values.specs.declared.answers.Answers.{Answers}
use Rattle.educe_body_forms.specs.declared.body.Body.{Body}
use Rattle.educe_body_values.specs.declared.callee.Callee.{Callee}
use Rattle.educe_body_values.specs.declared.environment.Env.{Env}
use Rattle.educe_body_values.specs.declared.outcome.Outcome.{Outcome}
use Rattle.educe_body_values.specs.declared.outcome.Outcome.TheVariants as outcome
use Rattle.educe_body_values.specs.declared.flow.Flow.{Flow}
use Rattle.educe_body_values.specs.declared.flow.Flow.TheVariants.{Gives, Returns, Stuck}
use Rattle.educe_body_values.specs.declared.flow.Thing.TheVariants.{Nothing, Made}
use Rattle.educe_body_forms.specs.declared.form.Form.{Form, Pasted}
use Rattle.educe_body_forms.specs.declared.form.Init.{Init}
use Rattle.educe_body_values.specs.declared.value.FieldValue.{FieldValue}
use Rattle.educe_body_values.specs.declared.value.Value.{Value}
use Rattle.educe_body_values.specs.Answering.{answer_of}
use Rattle.educe_body_values.specs.Callees.{spellings}
use Rattle.educe_body_values.specs.Cases.{case_at, variant_named, case_of_shape, case_named}
use Rattle.educe_body_values.specs.Changing.{assigns}
use Rattle.educe_body_values.specs.Meaning.{Scene, first_bindings, start, go_on, answer_flow, call_named, with_case, built, if_made, for_field, form_value, inits_list, list_value, outcome_of, changed_or_given, ended, value}
use Rattle.educe_body_values.specs.Scoping.{is_ident, is_hidden, is_bound, names_bound}
use Rattle.educe_body_values.specs.Types.{type_spellings, default_call, text_callee}
use Rattle.educe_body_values.proofs.Fields.{bytes_eq-differ}
use Rattle.educe_meaning.specs.BodyLaws.{lawful_forms}
use Rattle.educe_settings.specs.Cases.{fields_in}
use Rattle.educe_settings.specs.Defaults.{Choice, by_value, of_struct, of_variant, field_value}
use Rattle.educe_meaning.specs.Making.{spelled, text_called, type_called, called_by, called_for, value_made, made_by, made_with, fields_made, value_of, case_made, whole_of, outcome_by, default_outcome, scene_without, MakesDefault, default_tokens, field_tokens, IsPasted, IsInit, IsConstruct, IsMaking, IsDefaultBody, self_tokens, IsNewBody, MakesNew}
use Rattle.educe_meaning.proofs.Arms.{key_fits, apart_first}
use Rattle.educe_settings.proofs.Choosing.{Fits, chosen_fits}
use Rattle.educe_meaning.proofs.Still.{still_one, still_pasted, still_making}

-- ---- calls

-- the scope of `default` has `self` alone, which hides nothing
none_bound : (tokens : List Token) → names_bound (first_bindings []) tokens ≡ false
none_bound [] = refl
none_bound (t ∷ tokens) = or_from (is_bound (first_bindings []) t) (names_bound (first_bindings []) tokens) (and_right (is_ident t.kind) (is_hidden (first_bindings []) (unraw t.spelling)) refl) (none_bound tokens)

-- an answer that makes a value gives it
pub made_flow : (env : Env) (found : Option Answer) (x : FieldValue) → value_made found ≡ Some x → answer_flow env found ≡ Gives env (Made x)
made_flow env None x made = absurd (cc)
made_flow env (Some (answer.Truth b)) x made = absurd (cc)
made_flow env (Some (answer.Order o)) x made = absurd (cc)
made_flow env (Some (answer.PartialOrder o)) x made = absurd (cc)
made_flow env (Some (answer.Number n)) x made = absurd (cc)
made_flow env (Some (answer.Part n)) x made = absurd (cc)
made_flow env (Some (answer.Made y)) x made = ap (λ z. Gives env (Made z)) (same_Some y x made)

-- a call that makes a value gives it
called_gives : (env : Env) (table : Answers) (called : Option Callee) (x : FieldValue) → made_by table called ≡ Some x → call_named table called env [] ≡ Gives env (Made x)
called_gives env table None x made = absurd (cc)
called_gives env table (Some c) x made = made_flow env (answer_of table c None None) x made

-- tokens that are pasted give the value that is made by what they call
pasted_gives : (scene : Scene) (this : Option Value) (text : Written) (called : Option Callee) (x : FieldValue) → text_callee scene.definition scene.field text ≡ called → made_by scene.answers called ≡ Some x
    → form_value scene (start [] this) (Pasted text) ≡ Gives (start [] this) (Made x)
pasted_gives scene this text called x is made =
    ap (λ (o : Option Callee). call_named scene.answers o (start [] this) []) (cond-false (names_bound (first_bindings []) text.tokens) _ _ (none_bound text.tokens) ∙ is)
    ∙ called_gives (start [] this) scene.answers called x made

-- ---- what tokens call

-- the spellings of tokens
token_spellings : (tokens : List Token) → spelled (lexemes tokens) ≡ spellings tokens
token_spellings [] = refl
token_spellings (t ∷ tokens) = ap (λ (more : List (List ℕ)). t.spelling ∷ more) (token_spellings tokens)

-- as they were written
written_spellings : (text : Written) → spelled (written_lexemes text) ≡ spellings text.tokens
written_spellings text = lawful_copies.spellings (lexemes text.tokens) ∙ token_spellings text.tokens

same_words : (xs : List (List ℕ)) → pointwise bytes_eq xs xs ≡ true
same_words [] = refl
same_words (x ∷ xs) = and_from (bytes_eq x x) (pointwise bytes_eq xs xs) ((bytes_eq-Decides x x).1 refl) (same_words xs)

-- what `default` is called by is spelled so
call_words : (inner : List (List ℕ)) → spelled (quoted (codes "<")) ++ (inner ++ spelled (quoted (codes "as :: core :: default :: Default > :: default ( )"))) ≡ default_call inner
unfolding quoted
call_words inner = refl

call_spelled : (f : Field) → spelled (default_tokens f.ty) ≡ default_call (type_spellings f)
call_spelled f =
    let Spelling : Lexeme → List ℕ = λ x. x.spelling in
    map-append Spelling (quoted (codes "<")) (written_lexemes f.ty.written ++ quoted (codes "as :: core :: default :: Default > :: default ( )"))
    ∙ ap (λ (more : List (List ℕ)). spelled (quoted (codes "<")) ++ more)
    (map-append Spelling (written_lexemes f.ty.written) (quoted (codes "as :: core :: default :: Default > :: default ( )"))
    ∙ ap (λ (inner : List (List ℕ)). inner ++ spelled (quoted (codes "as :: core :: default :: Default > :: default ( )"))) (written_spellings f.ty.written))
    ∙ call_words (type_spellings f)

-- for a field tokens call what they call as they were written
field_calls : (d : DeriveInput) (f : Field) (text : Written) (tokens : List Lexeme) → written_lexemes text ≡ tokens → text_callee d (Some f) text ≡ called_by d f tokens
field_calls d f text tokens is =
    let words : spellings text.tokens ≡ spelled tokens = sym (written_spellings text) ∙ ap spelled is in
    λ i. if pointwise bytes_eq (words i) (default_call (type_spellings f)) then type_called d f else text_called (is i)

-- the tokens of a field's initializer call what is called for the field
init_calls : (d : DeriveInput) (f : Field) (said : Option Expr) (text : Written) → written_lexemes text ≡ field_tokens f said → text_callee d (Some f) text ≡ called_for d f said
init_calls d f None text is =
    field_calls d f text (default_tokens f.ty) is
    ∙ ap (λ (b : Bool). if b then type_called d f else text_called (default_tokens f.ty))
    (ap (λ (words : List (List ℕ)). pointwise bytes_eq words (default_call (type_spellings f))) (call_spelled f) ∙ same_words (default_call (type_spellings f)))
init_calls d f (Some said) text is = field_calls d f text (adjusted said.written (Some f.ty)) is

-- ---- fields

-- a value and more that are made
pub record AreMade (x : Option FieldValue) (xs : Option (List FieldValue)) (values : List FieldValue) : Type 0 where
  pub first : FieldValue
  pub more : List FieldValue
  pub first_is : x ≡ Some first
  pub more_are : xs ≡ Some more
  pub are : values ≡ first ∷ more

pub made_apart : (x : Option FieldValue) (xs : Option (List FieldValue)) (values : List FieldValue) → made_with x xs ≡ Some values → AreMade x xs values
made_apart None xs values made = absurd (cc)
made_apart (Some x) None values made = absurd (cc)
made_apart (Some x) (Some xs) values made = record { first = x; more = xs; first_is = refl; more_are = refl; are = sym (same_Some (x ∷ xs) values made) }

-- each initializer gives the value of its field
inits_give : (scene : Scene) (this : Option Value) (fs : List Field) (inits : List Init) (values : List FieldValue) (next : Env → List FieldValue → Flow) → AllZip (IsInit scene.definition) fs inits
    → fields_made scene.answers scene.definition fs ≡ Some values → inits_list scene (start [] this) inits fs next ≡ next (start [] this) values
inits_give scene this [] [] values next are made = ap (next (start [] this)) (same_Some [] values made)
inits_give scene this [] (i ∷ inits) values next are made = absurd are
inits_give scene this (f ∷ fs) [] values next are made = absurd are
inits_give scene this (f ∷ fs) (i ∷ inits) values next are made =
    let d = scene.definition in
    let said = field_value d f in
    let parts = made_apart (made_by scene.answers (called_for d f said)) (fields_made scene.answers d fs) values made in
    let more = if_made (λ env x. inits_list scene env inits fs (λ env xs. next env (x ∷ xs))) in
    let pasted = are.0.value_is in
    ap (λ (b : Bool). if b then go_on (form_value (for_field scene f) (start [] this) i.value) more else Stuck) (key_fits f.ident i.key are.0.key_is)
    ∙ ap (λ (x : Form). go_on (form_value (for_field scene f) (start [] this) x) more) pasted.is
    ∙ ap (λ (flow : Flow). go_on flow more)
    (pasted_gives (for_field scene f) this pasted.text (called_for d f said) parts.first (init_calls d f said pasted.text pasted.tokens_are) parts.first_is)
    ∙ inits_give scene this fs inits parts.more (λ env xs. next env (parts.first ∷ xs)) are.1 parts.more_are
    ∙ ap (next (start [] this)) (sym parts.are)

-- ---- what is built

-- a form that gives a value, and in which no assignment stands, is a body that evaluates to it
pub one_form : (scene : Scene) (body : Body) (x : Form) (found : Outcome) → body.params ≡ [] → body.block ≡ x ∷ [] → assigns x ≡ false → outcome_of (form_value scene (start [] scene.this) x) ≡ found
    → value body scene ≡ found
one_form scene body x found params block still is =
    (λ i. ended (params i) (block i) (list_value scene (start (params i) scene.this) Nothing (block i)))
    ∙ ap (λ (b : Bool). changed_or_given b (list_value scene (start [] scene.this) Nothing (x ∷ []))) (still_one x (x ∷ []) refl still)
    ∙ ap outcome_of (ends (form_value scene (start [] scene.this) x)) ∙ is
  where
    ends : (flow : Flow) → go_on flow (λ env thing. Gives env thing) ≡ flow
    ends flow = elim flow as (λ flow. go_on flow (λ env thing. Gives env thing) ≡ flow) [ Gives env thing ↦ refl | Returns env thing ↦ refl | Stuck ↦ refl ]

-- a construction gives the value of its case
case_gives : (scene : Scene) (name : Option (List ℕ)) (shape : FieldShape) (x : Form) (place : ℕ) (found : Outcome) (is : IsConstruct scene.definition name shape x)
    → case_named scene.definition is.variant ≡ Some (place, shape.fields) → value_of place (fields_made scene.answers scene.definition shape.fields) ≡ Some found
    → outcome_of (form_value scene (start [] scene.this) x) ≡ found
case_gives scene name shape x place found is named means = by_values (fields_made scene.answers scene.definition shape.fields) refl means
  where
    by_values : (values : Option (List FieldValue)) → fields_made scene.answers scene.definition shape.fields ≡ values → value_of place values ≡ Some found
        → outcome_of (form_value scene (start [] scene.this) x) ≡ found
    by_values None made means = absurd (cc)
    by_values (Some values) made means =
        ap (λ (x : Form). outcome_of (form_value scene (start [] scene.this) x)) is.is
        ∙ ap outcome_of (lawful_forms.construct scene (start [] scene.this) is.variant shape.form is.inits
        ∙ ap (λ (o : Option (ℕ × List Field)). with_case o (λ place fields. inits_list scene (start [] scene.this) is.inits fields (built place))) named
        ∙ inits_give scene scene.this shape.fields is.inits values (built place) is.inits_are made)
        ∙ same_Some (outcome.Made (record { variant = place; fields = values })) found means

-- ---- names

-- the variant at a place is the first one of its name
named_at : (vs : List Variant) (place k : ℕ) (v : Variant) → AreApart (variant_names vs) → slice_get vs k ≡ Some v → variant_named place vs v.ident.text ≡ case_at (place + k) (fields_in v)
named_at [] place k v apart at = absurd (cc)
named_at (w ∷ vs) place zero v apart at =
    let same : w ≡ v = same_Some w v at in
    let here : place ≡ place + 0 = omega arith in
    ap (λ (b : Bool). if b then case_at place (fields_in w) else variant_named (place + 1) vs v.ident.text) ((bytes_eq-Decides w.ident.text v.ident.text).1 (ap (λ (x : Variant). x.ident.text) same))
    ∙ (λ i. case_at (here i) (fields_in (same i)))
named_at (w ∷ vs) place (suc k) v apart at =
    let there : place + 1 + k ≡ place + suc k = omega arith in
    ap (λ (b : Bool). if b then case_at place (fields_in w) else variant_named (place + 1) vs v.ident.text) (bytes_eq-differ w.ident.text v.ident.text (λ same. apart_first w vs k v apart.0 at (ap unraw same)))
    ∙ named_at vs (place + 1) k v apart.1 at ∙ ap (λ n. case_at n (fields_in v)) there

-- no name is written
pub no_name : (name : Option Ident) → option_map (λ (ident : Ident). ident.text) name ≡ None → name ≡ None
no_name None is = refl
no_name (Some ident) is = absurd (cc)

-- a name selects the variant that has it
pub variant_found : (vs : List Variant) (place : ℕ) (v : Variant) (name : Option Ident) → AreApart (variant_names vs) → slice_get vs place ≡ Some v
    → option_map (λ (ident : Ident). ident.text) name ≡ Some v.ident.text → case_of_shape (Enum vs) name ≡ case_at place (fields_in v)
variant_found vs place v None names at is = absurd (cc)
variant_found vs place v (Some ident) names at is =
    let here : 0 + place ≡ place = omega arith in
    ap (variant_named 0 vs) (same_Some ident.text v.ident.text is) ∙ named_at vs 0 place v names at ∙ ap (λ n. case_at n (fields_in v)) here

-- ---- bodies

module _ (d : DeriveInput) (apart : AreNamesApart d) (table : Answers) (this other : Option Value) where
  abbrev scene : Scene
  scene = scene_without d this other table

  -- pasted tokens give what is made by their text as a whole
  whole_gives : (tokens : List Lexeme) (x : Form) (found : Outcome) → IsPasted tokens x → whole_of (made_by table (text_called tokens)) ≡ Some found
      → outcome_of (form_value scene (start [] this) x) ≡ found
  whole_gives tokens x found is means = by_made (made_by table (text_called tokens)) refl means
    where
      by_made : (made : Option FieldValue) → made_by table (text_called tokens) ≡ made → whole_of made ≡ Some found → outcome_of (form_value scene (start [] this) x) ≡ found
      by_made None made means = absurd (cc)
      by_made (Some y) made means =
          ap (λ (x : Form). outcome_of (form_value scene (start [] this) x)) is.is
          ∙ ap outcome_of (pasted_gives scene this is.text (text_called tokens) y (ap text_called is.tokens_are) made)
          ∙ same_Some (outcome.Whole y) found means

  -- values have the place of a case that there is
  case_is : (place : ℕ) (fs : List Field) (case : ℕ × List Field) (b : Bool) → (if b then Some (place, fs) else None) ≡ Some case → case ≡ (place, fs)
  case_is place fs case true is = sym (same_Some (place, fs) case is)
  case_is place fs case false is = absurd (cc)

  -- the form that makes what is chosen gives what that makes
  choice_gives : (choice : Choice) (x : Form) (found : Outcome) → Fits d.shape choice → IsMaking d choice x → outcome_by table d (Some choice) ≡ Some found
      → outcome_of (form_value scene (start [] this) x) ≡ found
  choice_gives (by_value said) x found fits is means = whole_gives (adjusted said.written None) x found is means
  choice_gives (of_struct shape) x found fits is means =
      case_gives scene None shape x 0 found is
      (ap (λ (s : Shape). case_of_shape s is.variant) fits ∙ ap (case_of_shape (Struct shape)) (no_name is.variant is.variant_is)) means
  choice_gives (of_variant place v) x found fits is means = by_case (case_at place (fields_in v)) refl means
    where
      names : AreApart (variant_names fits.0)
      names = (subst (λ (s : Shape). AllApart (shape_scopes s)) fits.1 apart.1.1).0

      by_case : (case : Option (ℕ × List Field)) → case_at place (fields_in v) ≡ case → case_made table d case ≡ Some found → outcome_of (form_value scene (start [] this) x) ≡ found
      by_case None there means = absurd (cc)
      by_case (Some case) there means =
          let same : case ≡ (place, fields_in v) = case_is place (fields_in v) case (nat_lt place (2 ^ 32)) there in
          case_gives scene (Some v.ident.text) v.fields x place found is
          (ap (λ (s : Shape). case_of_shape s is.variant) fits.1 ∙ variant_found fits.0 place v is.variant names fits.2 is.variant_is ∙ there ∙ ap Some same)
          (subst (λ (c : ℕ × List Field). value_of c.0 (fields_made table d c.1) ≡ Some found) same means)

  default_evaluates : (body : Body) (k : IsDefaultBody d body) (found : Outcome) → default_outcome table d ≡ Some found → value body scene ≡ found
  default_evaluates body k found means =
      one_form scene body k.body_has.form found k.body_has.params_are k.body_has.block_is (still_making d k.choice k.body_has.form k.body_has.form_is)
      (choice_gives k.choice k.body_has.form found (chosen_fits d k.choice k.choice_is) k.body_has.form_is (ap (outcome_by table d) (sym k.choice_is) ∙ means))

  new_evaluates : (body : Body) (k : IsNewBody body) (found : Outcome) → whole_of (made_by table (text_called self_tokens)) ≡ Some found → value body scene ≡ found
  new_evaluates body k found means = one_form scene body k.form found k.params_are k.block_is (still_pasted self_tokens k.form k.form_is) (whole_gives self_tokens k.form found k.form_is means)

-- the body of `default` evaluates to what `default` means
pub makes_default : (d : DeriveInput) → AreNamesApart d → (body : Body) → IsDefaultBody d body → MakesDefault d body
makes_default d apart body k = λ table this other found means. default_evaluates d apart table this other body k found means

-- the body of `new` evaluates to the default value of the type
pub makes_new : (d : DeriveInput) → AreNamesApart d → (body : Body) → IsNewBody body → MakesNew d body
makes_new d apart body k = λ table this other found means. new_evaluates d apart table this other body k found means
