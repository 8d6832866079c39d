-- What the bodies of the comparisons of structs evaluate to.
use Rattle.std.proofs.Common.{◌≡◌, ◌≢◌, ℕ, zero, suc, ◌+◌, Bool, true, false, List, [], ◌∷◌, ◌++◌, Option, Some, None, map, length, refl, sym, ap, ◌∙◌, subst}
use Rattle.std.specs.Prelude.{if◌then◌else◌, IsSome, codes, slice_get, unwrap_or}
use Rattle.std.specs.List.{AllByRecursion}
use Rattle.std.specs.Str.{bytes_eq}
use Rattle.std.proofs.lemmas.Bool.{true≢false}
use Rattle.std.proofs.lemmas.Option.{same_Some}
use Rattle.std.proofs.lemmas.Slice.Eq.{bytes_eq-Decides}
use Rattle.educe_tokens.specs.declared.word.Word.{Word}
use Rattle.educe_syntax.specs.Field.{Field}
use Rattle.educe_syntax.specs.FieldShape.{FieldShape}
use Rattle.educe_syntax.specs.DeriveInput.{DeriveInput}
use Rattle.educe_syntax.specs.Ident.{Ident}
use Rattle.educe_syntax.specs.Keywords.{unraw}
use Rattle.educe_syntax.specs.Few.{shape_variants, all_fields}
use Rattle.educe_syntax.specs.Shape.{Shape}
use Rattle.educe_syntax.specs.Shape.TheVariants.{Struct}
use Rattle.educe_bound_traits.specs.declared.traits.Trait.{Trait}
use Rattle.educe_body_forms.specs.declared.comparison.Comparison.{Comparison}
use Rattle.educe_body_values.specs.declared.value.FieldValue.{FieldValue}
use Rattle.educe_body_values.specs.declared.value.Value.{Value}
use Rattle.educe_body_values.specs.declared.answers.Answers.{Answers}
use Rattle.educe_body_forms.specs.declared.body.Body.{Body}
use Rattle.educe_body_values.specs.declared.environment.Binding.{Binding}
use Rattle.educe_body_values.specs.declared.environment.Env.{Env}
use Rattle.educe_body_values.specs.declared.environment.Own.TheVariants.{Value as OwnValue}
use Rattle.educe_body_values.specs.declared.environment.Referent.{Referent}
use Rattle.educe_body_values.specs.declared.environment.Referent.TheVariants.{This, Other}
use Rattle.educe_body_values.specs.declared.flow.Flow.TheVariants.{Gives}
use Rattle.educe_body_values.specs.declared.flow.Thing.TheVariants.{Nothing, Part}
use Rattle.educe_body_forms.specs.declared.form.Form.{Form}
use Rattle.educe_body_forms.specs.declared.form.Form as form
use Rattle.educe_body.specs.Chosen.{underscored}
use Rattle.educe_body_forms.specs.Keys.{AreDifferent, key_of, keys_from, shape_fields, fields_of, keys_of}
use Rattle.educe_body_values.specs.Laws.{KeysGive}
use Rattle.educe_body_values.specs.Meaning.{Scene, start, innermost, look_up, part_of, part_flow, reference_value, read_flow, form_value, list_value, outcome_of, changed_or_given, ended}
use Rattle.educe_body_values.specs.Scoping.{IsApart, own_self, apart}
use Rattle.educe_body.specs.Words.{HasWord}
use Rattle.educe_settings.specs.Settings.{Kept, settings_of, kept_fields}
use Rattle.educe_settings.specs.Cases.{shape_cases, cases_of}
use Rattle.educe_meaning.specs.Comparing.{case_of, Compared, HasShape, paired_from, compared, says, neutral, differs, answered, outcome, number_order}
use Rattle.educe_meaning.specs.Comparisons.{trait_of}
use Rattle.educe_meaning.specs.Discriminants.{counted_from, discriminant, flat, discriminant_of}
use Rattle.educe_meaning.specs.BodyLaws.{lawful_keys}
use Rattle.educe_meaning.specs.Blocks.{IsParameter, IsStructBody, Compares, scene_of}
use Rattle.educe_meaning.specs.Steps.{reference_form, of_base, IsReference, AreSteps}
use Rattle.educe_settings.proofs.Elements.{each_map, each_mapped, each_weaker}
use Rattle.educe_meaning.proofs.Least.{first_where}
use Rattle.educe_meaning.proofs.Meanings.{each_in_order, means_in_order, same_case, steps_ended}
use Rattle.educe_meaning.proofs.Pairing.{Look, FieldsGive, value_in, IsGiven, seen, paired-seen, each_given, length_from_types}
use Rattle.educe_meaning.proofs.Stepping.{HasOwnPath, steps-value, Reads, read_steps}
use Rattle.educe_meaning.proofs.Still.{still_struct}

-- ---- the parameter

-- what begins with `_` has no `r#`
pub unraw_mark : (text : List ℕ) → unraw (95 ∷ text) ≡ 95 ∷ text
unraw_mark [] = refl
unraw_mark (c ∷ cs) = refl

-- behind `_` a name has no `r#` if it has none without
pub unraw_behind : (count : ℕ) (text : List ℕ) → unraw text ≡ text → unraw (underscored count text) ≡ underscored count text
unraw_behind zero text plain = plain
unraw_behind (suc count) text plain = unraw_mark (underscored count text)

-- a name that differs from `self` does so behind any number of `_`
pub behind_not_self : (count : ℕ) (text : List ℕ) → bytes_eq text (codes "self") ≡ false → bytes_eq (underscored count text) (codes "self") ≡ false
behind_not_self zero text differs = differs
behind_not_self (suc count) text differs = refl

-- what differs from `self` is another text
pub not_self : (text : List ℕ) → bytes_eq text (codes "self") ≡ false → text ≢ codes "self"
not_self text differs same = true≢false (sym ((bytes_eq-Decides text (codes "self")).1 same) ∙ differs)

-- the names in the scope of a function are two, and the one that is chosen is no word of the input
pub scope_apart : (d : DeriveInput) (name : List ℕ) → IsParameter d (codes "other") name → (name ≢ codes "self") × (HasWord d.tokens name → ⊥)
scope_apart d name is = (
  not_self name (ap (λ text. bytes_eq text (codes "self")) is.is ∙ behind_not_self is.count (codes "other") refl),
  is.no_word,
)

-- the names in scope as a function of this parameter begins
abbrev pub names_for : List ℕ → List Binding
names_for param = record { name = codes "self"; referent = This } ∷ record { name = param; referent = Other } ∷ []

-- the names in scope, where `self` is this value, and nothing was fed, shown or made
abbrev pub env_of : Value → List Binding → Env
env_of a names = record { names = names; parts = []; own = Some (OwnValue a); shown = None; arguments = [] }

-- ---- how fields are read

module _ (scene : Scene) (env : Env) where
  -- a field is read in place or by a copy
  reference_gives : (copied : Bool) (base : Ident) (key : Word) → form_value scene env (reference_form copied base key) ≡ read_flow scene env base.text key.text
  reference_gives false base key = refl
  reference_gives true base key = refl

  -- a reference gives the field of the value that its base stands for
  pub reads_of : (copied : Bool) (base : List ℕ) (referent : Referent) → look_up env.names base ≡ Some referent → (k : Kept) (x : Form) → IsReference copied base k.place k.field x
      → form_value scene env x ≡ part_flow env (reference_value scene env (Some referent) (key_of k.place k.field))
  reads_of copied base referent found k x r =
      ap (form_value scene env) r.is ∙ reference_gives copied r.base_name r.key ∙ (λ i. read_flow scene env (r.base_is i) (r.key_is i))
      ∙ ap (λ (o : Option Referent). part_flow env (reference_value scene env o (key_of k.place k.field))) found

-- by these keys the fields of a struct have the values of the value's fields
abbrev pub look_of : DeriveInput → Value → Look
look_of d value place f = part_of (keys_of d) value.fields (key_of place f)

module _ (d : DeriveInput) (a b : Value) (table : Answers) (param : List ℕ) (is : IsParameter d (codes "other") param) where
  abbrev scene : Scene
  scene = scene_of d a b table

  abbrev env : Env
  env = env_of a (names_for param)

  self_found : look_up env.names (codes "self") ≡ Some This
  self_found =
      ap (λ (b : Bool). innermost (Some This) (innermost (if b then Some Other else None) None))
      (ap (λ text. bytes_eq text (codes "self")) is.is ∙ behind_not_self is.count (codes "other") refl)

  other_found : look_up env.names param ≡ Some Other
  other_found =
      ap (λ (b : Bool). innermost (if bytes_eq (codes "self") param then Some This else None) (innermost (if b then Some Other else None) None))
      ((bytes_eq-Decides param param).1 refl)

  -- no name in scope is a word of the input, `self` aside
  names_apart : AllByRecursion (IsApart d.tokens) env.names
  names_apart =
      let plain : unraw param ≡ param = ap unraw is.is ∙ unraw_behind is.count (codes "other") refl ∙ sym is.is in
      (own_self refl, (apart (λ has. is.no_word (subst (HasWord d.tokens) plain has)), tt))

  reads_own : (copied : Bool) (k : Kept) → IsGiven (look_of d a) k → (x : Form) → IsReference copied (codes "self") k.place k.field x → form_value scene env x ≡ Gives env (Part (value_in (look_of d a) k))
  reads_own copied k given x r = reads_of scene env copied (codes "self") This self_found k x r ∙ ap (part_flow env) given

  reads_others : (copied : Bool) (k : Kept) → IsGiven (look_of d b) k → (x : Form) → IsReference copied param k.place k.field x → form_value scene env x ≡ Gives env (Part (value_in (look_of d b) k))
  reads_others copied k given x r = reads_of scene env copied param Other other_found k x r ∙ ap (part_flow env) given

  -- the steps of the function, and what is answered where none returned
  steps_value : (which : Comparison) (copied : Bool) (ks : List Kept) (steps : List Form) → AreSteps which (of_base copied (codes "self")) (of_base copied param) ks steps
      → AllByRecursion (λ k. HasOwnPath d.tokens k.how) ks
      → AllByRecursion (IsGiven (look_of d a)) ks → AllByRecursion (IsGiven (look_of d b)) ks → AllByRecursion (λ c. IsSome (says which table c)) (map (seen (look_of d a) (look_of d b)) ks)
      → outcome_of (list_value scene env Nothing (steps ++ form.Known (neutral which) ∷ [])) ≡ outcome (answered which table (first_where (differs which table) (map (seen (look_of d a) (look_of d b)) ks)))
  steps_value which copied ks steps are named given_a given_b known =
      let own = of_base copied (codes "self") in
      let others = of_base copied param in
      let reads_a = each_weaker (IsGiven (look_of d a)) (Reads scene env d.tokens names_apart which own others (look_of d a) (look_of d b) own (look_of d a)) (reads_own copied) ks given_a in
      let reads_b = each_weaker (IsGiven (look_of d b)) (Reads scene env d.tokens names_apart which own others (look_of d a) (look_of d b) others (look_of d b)) (reads_others copied) ks given_b in
      ap outcome_of (steps-value scene env d.tokens names_apart which (form.Known (neutral which) ∷ []) (map (seen (look_of d a) (look_of d b)) ks) steps
      (read_steps scene env d.tokens names_apart which own others (look_of d a) (look_of d b) ks steps are named reads_a reads_b) known)
      ∙ steps_ended scene env d.tokens names_apart which (first_where (differs which table) (map (seen (look_of d a) (look_of d b)) ks))

-- ---- the values of a struct

-- as many keys as fields
pub length_keys : (place : ℕ) (fs : List Field) → length (keys_from place fs) ≡ length fs
length_keys place [] = refl
length_keys place (f ∷ fs) = ap suc (length_keys (place + 1) fs)

-- what keys give, the fields of these keys have
fields_give : (look : List ℕ → Option FieldValue) (place : ℕ) (fs : List Field) (xs : List FieldValue) → KeysGive look (keys_from place fs) xs → FieldsGive (λ place f. look (key_of place f)) place fs xs
fields_give look place [] [] give = tt
fields_give look place [] (x ∷ xs) give = absurd give
fields_give look place (f ∷ fs) [] give = absurd give
fields_give look place (f ∷ fs) (x ∷ xs) give = (give.0, fields_give look (place + 1) fs xs give.1)

-- there is one case
pub one_case : (fs found : List Field) (n : ℕ) → slice_get (fs ∷ []) n ≡ Some found → (n ≡ 0) × (found ≡ fs)
one_case fs found zero at = (refl, sym (same_Some fs found at))
one_case fs found (suc n) at = absurd (cc)

-- the identifiers of methods are words of the definition
abbrev pub HaveOwnMethods : Trait → DeriveInput → List Field → Type 0
HaveOwnMethods which d fields = AllByRecursion (λ k. HasOwnPath d.tokens k.how) (kept_fields which d fields)

-- the value is of the one case of a struct, and by their keys the fields have the fields of the value
pub record IsStructOf (d : DeriveInput) (fields : List Field) (value : Value) : Type 0 where
  pub variant_is : value.variant ≡ 0
  pub case_is : case_of d value ≡ fields
  pub give : FieldsGive (look_of d value) 0 fields value.fields

-- a value that has the shape of a struct is such
pub is_struct_of : (d : DeriveInput) (shape : FieldShape) → d.shape ≡ Struct shape → AreDifferent (keys_of d) → (value : Value) → HasShape d value → IsStructOf d shape.fields value
is_struct_of d shape is differ value has =
    let fs = shape.fields in
    let cases : cases_of d ≡ fs ∷ [] = ap shape_cases is in
    let fields : fields_of d ≡ fs = ap shape_fields is in
    let case = one_case fs has.fields value.variant (ap (λ cs. slice_get cs value.variant) (sym cases) ∙ has.exists) in
    let long : length fs ≡ length value.fields = ap length (sym case.1) ∙ length_from_types (all_fields d) has.fields value.fields has.types in
    record {
      variant_is = case.0;
      case_is = ap (λ (o : Option (List Field)). unwrap_or o []) has.exists ∙ case.1;
      give = subst (λ (own : List Field). FieldsGive (look_of d value) 0 own value.fields) fields
          (fields_give (part_of (keys_of d) value.fields) 0 (fields_of d) value.fields
          (lawful_keys.select (keys_of d) value.fields differ (length_keys 0 (fields_of d) ∙ ap length fields ∙ long)));
    }

-- the body of a comparison of a struct evaluates to what its trait means
pub struct_evaluates : (which : Comparison) (d : DeriveInput) (shape : FieldShape) (body : Body) → d.shape ≡ Struct shape → AreDifferent (keys_of d) → HaveOwnMethods (trait_of which) d shape.fields
    → IsStructBody which d shape.fields body → Compares which d body
struct_evaluates which d shape body is differ named k table a b covers =
    let fs = shape.fields in
    let kept = kept_fields (trait_of which) d fs in
    let at_a = look_of d a in
    let at_b = look_of d b in
    let of_a = is_struct_of d shape is differ a covers.first in
    let of_b = is_struct_of d shape is differ b covers.second in
    let same : a.variant ≡ b.variant = of_a.variant_is ∙ sym of_b.variant_is in
    let paired : compared which d a b ≡ map (seen at_a at_b) kept =
    ap (λ (own : List Field). paired_from (trait_of which) d 0 own a.fields b.fields) of_a.case_is ∙ paired-seen at_a at_b (trait_of which) d 0 fs a.fields b.fields of_a.give of_b.give in
    let Known : Compared → Type 0 = λ c. IsSome (says which table c) in
    let each = covers.each same in
    let known = each_map Known (seen at_a at_b) kept (subst (AllByRecursion Known) paired each) in
    let none : (v : Value) → discriminant_of table d v ≡ None = λ v. ap (λ (s : Shape). flat (slice_get (map (discriminant table) (counted_from None 0 (shape_variants s))) v.variant)) is in
    (λ i. ended (k.params_are i) body.block (list_value (scene_of d a b table) (start (k.params_are i) (Some a)) Nothing body.block))
    ∙ (λ i. changed_or_given (still_struct which (of_base k.copied (codes "self")) (of_base k.copied k.param.text) k.ordered body.block k.block_has i)
    (list_value (scene_of d a b table) (start (k.param ∷ []) (Some a)) Nothing (k.block_has.block_is i)))
    ∙ steps_value d a b table k.param.text k.param_is which k.copied k.ordered k.block_has.steps k.block_has.steps_are
    (each_in_order (trait_of which) (λ k. HasOwnPath d.tokens k.how) kept k.ordered k.ordered_is named)
    (each_in_order (trait_of which) (IsGiven at_a) kept k.ordered k.ordered_is (each_given at_a (settings_of (trait_of which) d) 0 fs a.fields of_a.give))
    (each_in_order (trait_of which) (IsGiven at_b) kept k.ordered k.ordered_is (each_given at_b (settings_of (trait_of which) d) 0 fs b.fields of_b.give))
    (each_mapped Known (seen at_a at_b) k.ordered (each_in_order (trait_of which) (λ k. Known (seen at_a at_b k)) kept k.ordered k.ordered_is known))
    ∙ means_in_order which table at_a at_b kept k.ordered (compared which d a b) k.ordered_is paired each
    ∙ same_case which table d a b same (λ i. number_order (none a i) (none b i))
