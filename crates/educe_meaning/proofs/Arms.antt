-- What the match on a value of an enum comes to: its arm compares the fields that take part.
use Rattle.std.proofs.Common.{◌≡◌, ◌≢◌, ◌≤◌, ◌^◌, ◌+◌, ℕ, zero, suc, Bool, true, false, List, [], ◌∷◌, ◌++◌, Option, Some, None, map, length, take, take_at, append-nil, arith, refl, sym, ap, ◌∙◌, subst}
use Rattle.std.specs.Prelude.{if◌then◌else◌, IsSome, slice_get, unwrap_or, codes}
use Rattle.std.specs.List.{AllByRecursion, AllZip}
use Rattle.std.specs.Option.{option_map}
use Rattle.std.proofs.lemmas.List.{length-map}
use Rattle.std.proofs.lemmas.Option.{same_Some}
use Rattle.std.proofs.lemmas.Slice.Eq.{bytes_eq-Decides}
use Rattle.educe_tokens.specs.declared.word.Word.{Word}
use Rattle.educe_syntax.specs.DeriveInput.{DeriveInput}
use Rattle.educe_syntax.specs.Few.{shape_variants, all_fields}
use Rattle.educe_syntax.specs.Field.{Field}
use Rattle.educe_syntax.specs.Ident.{Ident}
use Rattle.educe_syntax.specs.Keywords.{unraw}
use Rattle.educe_syntax.specs.Naming.{Named, ident_named, field_names, variant_names, AreApart}
use Rattle.educe_syntax.specs.Shape.{Shape}
use Rattle.educe_syntax.specs.Variant.{Variant}
use Rattle.educe_attrs.specs.FieldSettings.{FieldSettings}
use Rattle.educe_body_values.specs.declared.answers.Answers.{Answers}
use Rattle.educe_bound_traits.specs.declared.traits.Trait.TheVariants as trait
use Rattle.educe_body_forms.specs.declared.comparison.Comparison.{Comparison}
use Rattle.educe_body_forms.specs.declared.comparison.Comparison.TheVariants.{PartialEq, PartialOrd, Ord}
use Rattle.educe_body_values.specs.declared.environment.Binding.{Binding}
use Rattle.educe_body_values.specs.declared.environment.Env.{Env}
use Rattle.educe_body_values.specs.declared.environment.Own.{Own}
use Rattle.educe_body_values.specs.declared.environment.Own.TheVariants.{Value as OwnValue}
use Rattle.educe_body_values.specs.declared.environment.Referent.{Referent}
use Rattle.educe_body_values.specs.declared.environment.Referent.TheVariants.{This, OwnField, Bound}
use Rattle.educe_body_values.specs.declared.outcome.Outcome.TheVariants.{Truth as OutcomeTruth}
use Rattle.educe_body_values.specs.declared.flow.Flow.{Flow}
use Rattle.educe_body_values.specs.declared.flow.Flow.TheVariants.{Gives, Returns, Stuck}
use Rattle.educe_body_values.specs.declared.flow.Thing.TheVariants.{Nothing, Part}
use Rattle.educe_body_forms.specs.declared.form.Arm.{Arm}
use Rattle.educe_body_forms.specs.declared.form.Form.{Form, MatchValue, IfLet, Return}
use Rattle.educe_body_forms.specs.declared.form.Form as form
use Rattle.educe_body_forms.specs.declared.form.Known.TheVariants.{Truth}
use Rattle.educe_body_forms.specs.declared.pattern.Pattern.{Pattern}
use Rattle.educe_body_forms.specs.declared.pattern.PatternField.{PatternField}
use Rattle.educe_body_values.specs.declared.value.FieldValue.{FieldValue}
use Rattle.educe_body_values.specs.declared.value.Value.{Value}
use Rattle.educe_body_forms.specs.Keys.{AreDifferent, keys_from, binding_key}
use Rattle.educe_body_values.specs.Laws.{KeysGive}
use Rattle.educe_body_values.specs.Matching.{variant_of, is_named, fits, has_key, bound_to, fields_bound, bound_of, bindings_of}
use Rattle.educe_body_values.specs.Meaning.{Scene, look_up, part_of, own_value, own_field, own_fields, part_flow, local_flow, with_value, with_named, go_on, leave, within, or_nothing, known_thing, form_value, list_value, held_list, taken, if_let_value, arms_list, outcome_of}
use Rattle.educe_body_values.specs.Scoping.{IsApart}
use Rattle.educe_body_values.proofs.Fields.{bytes_eq-differ}
use Rattle.educe_meaning.specs.Arms.{Names, AreNames, AreArms, IsKey, IsBound, ArePatternFields, IsPatternBy, IsArm, IsMatch, returns_at_once, ComparesFields, IsVariantBlock}
use Rattle.educe_meaning.specs.Blocks.{scene_of}
use Rattle.educe_meaning.specs.BodyLaws.{lawful_forms, lawful_keys}
use Rattle.educe_settings.specs.Cases.{fields_in, shape_cases}
use Rattle.educe_meaning.specs.Comparing.{case_of, Compared, HasShape, says, neutral, paired_from, compared, differs, word_of, outcome}
use Rattle.educe_meaning.specs.Comparisons.{trait_of}
use Rattle.educe_settings.specs.Settings.{Kept, keeps, settings_of, kept_with, kept_by, kept_fields}
use Rattle.educe_meaning.specs.Steps.{bound}
use Rattle.educe_settings.proofs.Elements.{In, In-all, In-found, map_at, each_in, each_map, each_mapped, each_weaker}
use Rattle.educe_meaning.proofs.Facts.{IsEnumOf, AreFit, IsOuter, unit_has_none}
use Rattle.educe_meaning.proofs.Least.{first_where}
use Rattle.educe_meaning.proofs.Meanings.{each_in_order, fields_meaning, means_in_order, steps_ended, outcome_known}
use Rattle.educe_meaning.proofs.Pairing.{Look, FieldsGive, value_in, part_in, IsPlaced, each_placed, seen, paired-seen, length_from_types}
use Rattle.educe_meaning.proofs.Stepping.{HasOwnPath, decided, steps-value, Reads, read_steps}
use Rattle.educe_meaning.proofs.Structs.{length_keys, env_of}
use Rattle.educe_meaning.proofs.Variables.{kept_key, fields_different, Refer, by_place, by_value, own_binding, with_variables, around_apart, other_found, own_found, others_found, arm_apart}
use Rattle.std.proofs.lemmas.Bool.{false≢true}
use Rattle.educe_settings.specs.Cases.{is_unit}

-- ---- what a pattern binds

-- the key of a field of a pattern is that of the variant's field
pub key_fits : (ident : Option Ident) (key : Option Word) → IsKey ident key → has_key key ident ≡ true
key_fits None None is = refl
key_fits None (Some key) is = absurd is
key_fits (Some ident) None is = absurd is
key_fits (Some ident) (Some key) is = (bytes_eq-Decides ident.text key.text).1 (sym is)

-- the variables of fields, of which the first has this place, stand for these, one for each
abbrev FieldsRefer : Refer → ℕ → List Field → List Referent → Type 0
FieldsRefer refer place [] [] = Unit {0}
FieldsRefer refer place [] (r ∷ rs) = ⊥
FieldsRefer refer place (f ∷ fs) [] = ⊥
FieldsRefer refer place (f ∷ fs) (r ∷ rs) = (refer place f ≡ r) × FieldsRefer refer (place + 1) fs rs

module _ (prefix : List ℕ) (refer : Refer) where
  -- a field is bound to its variable if it takes part
  binds_one : (s : FieldSettings) (keeps : Bool) (place : ℕ) (f : Field) (r : Referent) (kept : List Kept) (name : Option Ident) → IsBound keeps (prefix ++ binding_key place f) name
      → refer place f ≡ r → bound_to name r (map (own_binding prefix refer) kept) ≡ map (own_binding prefix refer) (if keeps then kept_with s place f ∷ kept else kept)
  binds_one s false place f r kept name is at = ap (λ (name : Option Ident). bound_to name r (map (own_binding prefix refer) kept)) is
  binds_one s true place f r kept None is at = absurd is
  binds_one s true place f r kept (Some name) is at = λ i. record { name = is.is i; referent = sym at i } ∷ map (own_binding prefix refer) kept

  -- the fields that take part are bound to their variables
  binds : (settings : Field → FieldSettings) (place : ℕ) (fs : List Field) (rs : List Referent) (ps : List PatternField) → FieldsRefer refer place fs rs
      → ArePatternFields prefix place fs (map settings fs) ps → fields_bound fs ps rs ≡ Some (map (own_binding prefix refer) (kept_by place fs (map settings fs)))
  binds settings place [] [] [] refers are = refl
  binds settings place [] [] (p ∷ ps) refers are = absurd are
  binds settings place [] (r ∷ rs) ps refers are = absurd refers
  binds settings place (f ∷ fs) [] ps refers are = absurd refers
  binds settings place (f ∷ fs) (r ∷ rs) [] refers are = absurd are
  binds settings place (f ∷ fs) (r ∷ rs) (p ∷ ps) refers are =
      ap (λ (b : Bool). if b then option_map (bound_to p.name r) (fields_bound fs ps rs) else None) (key_fits f.ident p.key are.0.key_is)
      ∙ ap (option_map (bound_to p.name r)) (binds settings (place + 1) fs rs ps refers.1 are.1)
      ∙ ap Some (binds_one (settings f) (keeps (settings f)) place f r (kept_by (place + 1) fs (map settings fs)) p.name are.0.name_is refers.0)

  -- a pattern binds the fields that take part of a value of its variant
  pattern_binds : (settings : Field → FieldSettings) (d : DeriveInput) (v : Variant) (value : Value) (pattern : Pattern) (rs : List Referent) → variant_of d value ≡ Some v → FieldsRefer refer 0 (fields_in v) rs
      → IsPatternBy prefix v (map settings (fields_in v)) pattern → bindings_of d pattern value rs ≡ Some (map (own_binding prefix refer) (kept_by 0 (fields_in v) (map settings (fields_in v))))
  pattern_binds settings d v value pattern rs found refers is =
      ap (λ (o : Option Variant). bound_of o pattern rs) found
      ∙ ap (λ (b : Bool). if b then Some [] else fields_bound (fields_in v) pattern.fields rs) is.whole
      ∙ binds settings 0 (fields_in v) rs pattern.fields refers is.fields_are

module _ (prefix : List ℕ) (look : Look) where
  -- the places of the fields are what their referents stand for
  places_refer : (place : ℕ) (fs : List Field) (xs : List FieldValue) → FieldsGive look place fs xs → FieldsRefer by_place place fs (own_fields place xs)
  places_refer place [] [] give = tt
  places_refer place [] (x ∷ xs) give = absurd give
  places_refer place (f ∷ fs) [] give = absurd give
  places_refer place (f ∷ fs) (x ∷ xs) give = (refl, places_refer (place + 1) fs xs give.1)

  -- and for their values
  values_refer : (place : ℕ) (fs : List Field) (xs : List FieldValue) → FieldsGive look place fs xs → FieldsRefer (by_value look) place fs (map Bound xs)
  values_refer place [] [] give = tt
  values_refer place [] (x ∷ xs) give = absurd give
  values_refer place (f ∷ fs) [] give = absurd give
  values_refer place (f ∷ fs) (x ∷ xs) give = (ap (λ found. Bound (part_in found)) give.0, values_refer (place + 1) fs xs give.1)

  module _ (settings : Field → FieldSettings) (d : DeriveInput) (v : Variant) (value : Value) (pattern : Pattern) (found : variant_of d value ≡ Some v) (give : FieldsGive look 0 (fields_in v) value.fields)
      (is : IsPatternBy prefix v (map settings (fields_in v)) pattern) where
    -- the fields that take part by these settings
    abbrev kept_in : List Kept
    kept_in = kept_by 0 (fields_in v) (map settings (fields_in v))

    -- a pattern on `self` binds the places of the fields that take part
    pub places_bound : bindings_of d pattern value (own_fields 0 value.fields) ≡ Some (map (own_binding prefix by_place) kept_in)
    places_bound = pattern_binds prefix by_place settings d v value pattern (own_fields 0 value.fields) found (places_refer 0 (fields_in v) value.fields give) is

    -- one on the parameter binds their values
    pub values_bound : bindings_of d pattern value (map Bound value.fields) ≡ Some (map (own_binding prefix (by_value look)) kept_in)
    values_bound = pattern_binds prefix (by_value look) settings d v value pattern (map Bound value.fields) found (values_refer 0 (fields_in v) value.fields give) is

-- where `self` is a value, the place of a field gives the field's value
pub place_gives : (scene : Scene) (env : Env) (a : Value) (look : Look) (k : Kept) → env.own ≡ Some (OwnValue a) → IsPlaced look a.fields k
    → local_flow scene env (Some (OwnField k.place)) ≡ Gives env (Part (value_in look k))
place_gives scene env a look k is at = ap (λ (self : Option Own). part_flow env (own_field k.place (own_value self))) is ∙ ap (part_flow env) at

-- ---- the variant of a value

-- the look-up of the fields of a variant by their keys without `r#`
abbrev pub look_in : Variant → Value → Look
look_in v value place f = part_of (map unraw (keys_from 0 (fields_in v))) value.fields (binding_key place f)

-- what keys give without `r#`, the fields of these keys have
fields_give : (look : List ℕ → Option FieldValue) (place : ℕ) (fs : List Field) (xs : List FieldValue) → KeysGive look (map unraw (keys_from place fs)) xs
    → FieldsGive (λ place f. look (binding_key place f)) place fs xs
fields_give look place [] [] give = tt
fields_give look place [] (x ∷ xs) give = absurd give
fields_give look place (f ∷ fs) [] give = absurd give
fields_give look place (f ∷ fs) (x ∷ xs) give = (give.0, fields_give look (place + 1) fs xs give.1)

-- the value is of this variant, whose fields have names that are apart; and by their keys these have the fields of the value
pub record IsOf (d : DeriveInput) (variants : List Variant) (value : Value) : Type 0 where
  pub variant : Variant
  pub at : slice_get variants value.variant ≡ Some variant
  pub found : variant_of d value ≡ Some variant
  pub inside : In variant variants
  pub case_is : case_of d value ≡ fields_in variant
  pub names : AreApart (field_names (fields_in variant))
  pub few : length (fields_in variant) ≤ 2 ^ 64
  pub give : FieldsGive (look_in variant value) 0 (fields_in variant) value.fields

-- a value that has the shape of an enum is of one of its variants
pub is_of : (d : DeriveInput) (variants : List Variant) → IsEnumOf d variants → (value : Value) → HasShape d value → IsOf d variants value
is_of d variants fit value shape =
    let there = map_at fields_in variants value.variant shape.fields (ap (λ (s : Shape). slice_get (shape_cases s) value.variant) (sym fit.is) ∙ shape.exists) in
    let v = there.0 in
    let fs = fields_in v in
    let inside : In v variants = In-found variants value.variant v there.1 in
    let names = In-all (λ (v : Variant). AreApart (field_names (fields_in v))) variants v fit.fields inside in
    let few = In-all (λ (v : Variant). length (fields_in v) ≤ 2 ^ 64) variants v fit.few inside in
    let long : length (map unraw (keys_from 0 fs)) ≡ length value.fields =
    length-map (keys_from 0 fs) unraw ∙ length_keys 0 fs ∙ ap length there.2 ∙ length_from_types (all_fields d) shape.fields value.fields shape.types in
    record {
      variant = v;
      at = there.1;
      found = ap (λ (s : Shape). slice_get (shape_variants s) value.variant) fit.is ∙ there.1;
      inside = inside;
      case_is = ap (λ (o : Option (List Field)). unwrap_or o []) shape.exists ∙ sym there.2;
      names = names;
      few = few;
      give = fields_give (part_of (map unraw (keys_from 0 fs)) value.fields) 0 fs value.fields
          (lawful_keys.select (map unraw (keys_from 0 fs)) value.fields (lawful_keys.apart fs names few) long);
    }

-- ---- the arm of a variant

-- the first variant has another name than a later one
pub apart_first : (w : Variant) (vs : List Variant) (k : ℕ) (v : Variant) → AllByRecursion (λ (later : Named). unraw w.ident.text ≢ unraw later.text) (variant_names vs) → slice_get vs k ≡ Some v
    → unraw w.ident.text ≢ unraw v.ident.text
apart_first w vs k v apart at =
    In-all (λ (v : Variant). unraw w.ident.text ≢ unraw v.ident.text) vs v (each_map (λ (later : Named). unraw w.ident.text ≢ unraw later.text) (λ (v : Variant). ident_named v.ident) vs apart)
    (In-found vs k v at)

-- variants at different places have different names
pub apart_at : (vs : List Variant) (k j : ℕ) (v w : Variant) → AreApart (variant_names vs) → slice_get vs k ≡ Some v → slice_get vs j ≡ Some w → k ≢ j → unraw v.ident.text ≢ unraw w.ident.text
apart_at [] k j v w apart at there differ = absurd (cc)
apart_at (x ∷ vs) zero zero v w apart at there differ = absurd (differ refl)
apart_at (x ∷ vs) zero (suc j) v w apart at there differ = subst (λ (y : Variant). unraw y.ident.text ≢ unraw w.ident.text) (same_Some x v at) (apart_first x vs j w apart.0 there)
apart_at (x ∷ vs) (suc k) zero v w apart at there differ =
    subst (λ (y : Variant). unraw v.ident.text ≢ unraw y.ident.text) (same_Some x w there) (λ same. apart_first x vs k v apart.0 at (sym same))
apart_at (x ∷ vs) (suc k) (suc j) v w apart at there differ = apart_at vs k j v w apart.1 at there (λ same. differ (ap suc same))

module _ (d : DeriveInput) (value : Value) (v : Variant) (found : variant_of d value ≡ Some v) where
  -- a value fits the patterns of its variant
  pub fits_own : (pattern : Pattern) → pattern.variant ≡ v.ident → fits d pattern value ≡ true
  fits_own pattern is = ap (is_named pattern.variant.text) found ∙ (bytes_eq-Decides v.ident.text pattern.variant.text).1 (sym (ap (λ (i : Ident). i.text) is))

  -- and none of a variant of another name
  pub fits_no_other : (w : Variant) (pattern : Pattern) → pattern.variant ≡ w.ident → unraw w.ident.text ≢ unraw v.ident.text → fits d pattern value ≡ false
  fits_no_other w pattern is apart =
      ap (is_named pattern.variant.text) found ∙ bytes_eq-differ v.ident.text pattern.variant.text (λ same. apart (ap unraw (sym (same ∙ ap (λ (i : Ident). i.text) is))))

module _ (IsOwn : ℕ → Variant → Arm → Type 0) (named : (place : ℕ) (v : Variant) (arm : Arm) → IsOwn place v arm → arm.pattern.variant ≡ v.ident)
    (scene : Scene) (env : Env) (value : Value) (referents : List Referent) (v : Variant) (found : variant_of scene.definition value ≡ Some v) where
  -- the first arm, if it fits, or the others
  abbrev picks : Arm → List Arm → Bool → Flow
  picks arm arms b = if b then taken scene env arm.pattern arm.block value referents else arms_list scene env arms value referents

  -- the arm of the variant at a place, which is taken for the value
  pub record IsTaken (place : ℕ) (arms : List Arm) : Type 0 where
    pub arm : Arm
    pub is : IsOwn place v arm
    pub value_is : arms_list scene env arms value referents ≡ taken scene env arm.pattern arm.block value referents

  -- the arm of the variant at a place is among the arms
  pub arm_at : (place : ℕ) (vs : List Variant) (arms : List Arm) (k : ℕ) → AreArms IsOwn place vs arms → AreApart (variant_names vs) → slice_get vs k ≡ Some v → IsTaken (place + k) arms
  arm_at place [] arms k are apart at = absurd (cc)
  arm_at place (w ∷ vs) [] k are apart at = absurd are
  arm_at place (w ∷ vs) (arm ∷ arms) zero are apart at =
      let here : place ≡ place + 0 = omega arith in
      let is = subst (λ (n : ℕ). IsOwn n v arm) here (subst (λ (v : Variant). IsOwn place v arm) (same_Some w v at) are.0) in
      record { arm = arm; is = is; value_is = ap (picks arm arms) (fits_own scene.definition value v found arm.pattern (named (place + 0) v arm is)) }
  arm_at place (w ∷ vs) (arm ∷ arms) (suc k) are apart at =
      let later = arm_at (place + 1) vs arms k are.1 apart.1 at in
      let there : place + 1 + k ≡ place + suc k = omega arith in
      let past = fits_no_other scene.definition value v found w arm.pattern (named place w arm are.0) (apart_first w vs k v apart.0 at) in
      record { arm = later.arm; is = subst (λ (n : ℕ). IsOwn n v later.arm) there later.is; value_is = ap (picks arm arms) past ∙ later.value_is }

-- arms that go by the variants alone
pub arms_placed : (IsOwn : Variant → Arm → Type 0) (place : ℕ) (vs : List Variant) (arms : List Arm) → AllZip IsOwn vs arms → AreArms (λ _. IsOwn) place vs arms
arms_placed IsOwn place [] [] are = tt
arms_placed IsOwn place [] (arm ∷ arms) are = absurd are
arms_placed IsOwn place (v ∷ vs) [] are = absurd are
arms_placed IsOwn place (v ∷ vs) (arm ∷ arms) are = (are.0, arms_placed IsOwn (place + 1) vs arms are.1)

-- a match on the value of `self` comes to its arms
pub self_matched : (scene : Scene) (env : Env) (a : Value) → env.own ≡ Some (OwnValue a) → look_up env.names (codes "self") ≡ Some This → (name : Ident) (arms : List Arm)
    → name.text ≡ codes "self" → form_value scene env (MatchValue name arms) ≡ arms_list scene env arms a (own_fields 0 a.fields)
self_matched scene env a own_is found name arms is =
    lawful_forms.match_value scene env name arms
    ∙ ap (λ (text : List ℕ). with_named scene env (look_up env.names text) (arms_list scene env arms)) is
    ∙ ap (λ (o : Option Referent). with_named scene env o (arms_list scene env arms)) found
    ∙ ap (λ (self : Option Own). with_value (own_value self) (λ value. arms_list scene env arms value (own_fields 0 value.fields))) own_is

-- ---- what an arm comes to

-- nothing follows the last form
pub go_on-end : (flow : Flow) → go_on flow (λ env thing. Gives env thing) ≡ flow
go_on-end (Gives env thing) = refl
go_on-end (Returns env thing) = refl
go_on-end Stuck = refl

module _ (which : Comparison) (d : DeriveInput) (table : Answers) (a b : Value) (names : Names) (are : AreNames d names) (outer : List Binding) (around : IsOuter names outer) where
  -- the scene, and the names around the match, which hide no word of the definition
  abbrev scene : Scene
  scene = scene_of d a b table

  abbrev env : Env
  env = env_of a outer

  abbrev env_apart : AllByRecursion (IsApart d.tokens) outer
  env_apart = around_apart d names are outer around.known

  module _ (kept : List Kept) (differ : AreDifferent (map kept_key kept)) (look_a look_b : Look) (placed : AllByRecursion (IsPlaced look_a a.fields) kept) where
    -- the names behind the pattern for the first value, and behind that for the second
    abbrev own_env : Env
    own_env = env_of a (with_variables outer names.own by_place kept)

    abbrev arm_env : Env
    arm_env = env_of a (with_variables own_env.names names.others (by_value look_b) kept)

    abbrev apart : AllByRecursion (IsApart d.tokens) arm_env.names
    apart = arm_apart d names are kept differ outer around by_place (by_value look_b)

    -- the variables for the first value give the values of their fields
    reads_own : (k : Kept) → In k kept → Reads scene arm_env d.tokens apart which (bound names.own) (bound names.others) look_a look_b (bound names.own) look_a k
    reads_own k found x r =
        ap (form_value scene arm_env) r.is ∙ ap (λ (text : List ℕ). local_flow scene arm_env (look_up arm_env.names text)) r.name_is
        ∙ ap (local_flow scene arm_env) (own_found d names are kept differ outer around by_place (by_value look_b) k found)
        ∙ place_gives scene arm_env a look_a k refl (In-all (IsPlaced look_a a.fields) kept k placed found)

    -- the variables for the second value give the values of their fields
    reads_others : (k : Kept) → In k kept → Reads scene arm_env d.tokens apart which (bound names.own) (bound names.others) look_a look_b (bound names.others) look_b k
    reads_others k found x r =
        ap (form_value scene arm_env) r.is ∙ ap (λ (text : List ℕ). local_flow scene arm_env (look_up arm_env.names text)) r.name_is
        ∙ ap (local_flow scene arm_env) (others_found d names are kept differ outer around by_place (by_value look_b) k found)

    -- the names end with the block
    cut : take (length outer) (take (length own_env.names) arm_env.names) ≡ outer
    cut =
        ap (take (length outer)) (take_at own_env.names (map (own_binding names.others (by_value look_b)) kept) (length own_env.names) refl)
        ∙ take_at outer (map (own_binding names.own by_place) kept) (length outer) refl

    -- what is decided is so outside
    left : (o : Option Compared) → leave outer (leave own_env.names (decided scene arm_env d.tokens apart which o)) ≡ decided scene env d.tokens env_apart which o
    left None = λ i. Gives (env_of a (cut i)) Nothing
    left (Some c) = λ i. Returns (env_of a (cut i)) (known_thing (word_of which table c))

    -- an arm that returns at once says that nothing differs
    returns_neutral : (arm : Arm) → bindings_of d arm.pattern a (own_fields 0 a.fields) ≡ Some (map (own_binding names.own by_place) kept)
        → arm.block ≡ Return (form.Known (neutral which)) ∷ []
        → taken scene env arm.pattern arm.block a (own_fields 0 a.fields) ≡ leave outer (Returns own_env (known_thing (neutral which)))
    returns_neutral arm binds_a block_is =
        ap (λ (o : Option (List Binding)). within env o (λ inner. list_value scene inner Nothing arm.block)) binds_a
        ∙ ap (λ (block : List Form). leave outer (list_value scene own_env Nothing block)) block_is
        ∙ ap (λ (flow : Flow). leave outer (go_on flow (λ env thing. Gives env thing))) (lawful_forms.returned scene own_env (form.Known (neutral which)))

    module _ (v : Variant) (arm : Arm) (is : ComparesFields which d names v arm.block) (binds_a : bindings_of d arm.pattern a (own_fields 0 a.fields) ≡ Some (map (own_binding names.own by_place) kept)) where
      -- an arm that compares is its `if let` on the second value
      arm_is : taken scene env arm.pattern arm.block a (own_fields 0 a.fields) ≡ leave outer (if_let_value scene own_env is.inner is.steps is.others b (map Bound b.fields))
      arm_is =
          let next = if_let_value scene own_env is.inner is.steps is.others in
          ap (λ (o : Option (List Binding)). within env o (λ inner. list_value scene inner Nothing arm.block)) binds_a
          ∙ ap (λ (block : List Form). leave outer (list_value scene own_env Nothing block)) is.block_is
          ∙ ap (leave outer) (go_on-end (form_value scene own_env (IfLet is.inner is.value is.steps is.others))
          ∙ lawful_forms.if_let scene own_env is.inner is.value is.steps is.others
          ∙ ap (λ (text : List ℕ). with_named scene own_env (look_up own_env.names text) next) is.value_is.is
          ∙ ap (λ (o : Option Referent). with_named scene own_env o next) (other_found d names are kept differ outer around by_place (by_value look_b)))

      -- the steps, if the second value fits the inner pattern, or the `else`
      abbrev inner_or_else : Bool → Flow
      inner_or_else t = if t then taken scene own_env is.inner is.steps b (map Bound b.fields) else or_nothing own_env (held_list scene is.others)

      -- where that is of another variant, the arm comes to its `else`
      arm_differs : fits d is.inner b ≡ false → taken scene env arm.pattern arm.block a (own_fields 0 a.fields) ≡ leave outer (or_nothing own_env (held_list scene is.others))
      arm_differs fails = arm_is ∙ ap (λ (t : Bool). leave outer (inner_or_else t)) fails

      module _ (inside : AllByRecursion (λ k. In k kept) is.ordered) (named : AllByRecursion (λ k. HasOwnPath d.tokens k.how) is.ordered)
          (known : AllByRecursion (λ c. IsSome (says which table c)) (map (seen look_a look_b) is.ordered)) where
        -- the first field, in the order of the steps, in which the two values differ
        abbrev first : Option Compared
        first = first_where (differs which table) (map (seen look_a look_b) is.ordered)

        -- its steps go on, or return the answer of the first field in which the two values differ
        steps_value : list_value scene arm_env Nothing is.steps ≡ decided scene arm_env d.tokens apart which first
        steps_value =
            let own = bound names.own in
            let others = bound names.others in
            let reads_a = each_weaker (λ k. In k kept) (Reads scene arm_env d.tokens apart which own others look_a look_b own look_a) reads_own is.ordered inside in
            let reads_b = each_weaker (λ k. In k kept) (Reads scene arm_env d.tokens apart which own others look_a look_b others look_b) reads_others is.ordered inside in
            ap (list_value scene arm_env Nothing) (sym (append-nil is.steps))
            ∙ steps-value scene arm_env d.tokens apart which [] (map (seen look_a look_b) is.ordered) is.steps
            (read_steps scene arm_env d.tokens apart which own others look_a look_b is.ordered is.steps is.steps_are named reads_a reads_b) known
            ∙ go_on-end (decided scene arm_env d.tokens apart which first)

        -- the arm goes on, or returns the answer of the first field that differs, where the second value is of the same variant
        arm_same : fits d is.inner b ≡ true → bindings_of d is.inner b (map Bound b.fields) ≡ Some (map (own_binding names.others (by_value look_b)) kept)
            → taken scene env arm.pattern arm.block a (own_fields 0 a.fields) ≡ decided scene env d.tokens env_apart which first
        arm_same passes binds_b =
            arm_is ∙ ap (λ (t : Bool). leave outer (inner_or_else t)) passes
            ∙ ap (λ (o : Option (List Binding)). leave outer (within own_env o (λ inner. list_value scene inner Nothing is.steps))) binds_b
            ∙ ap (λ (flow : Flow). leave outer (leave own_env.names flow)) steps_value ∙ left first

  -- ---- the match

  module _ (variants : List Variant) (block : List Form) (m : IsMatch which d names variants block) where
    -- what follows the match
    abbrev then_neutral : Flow → Flow
    then_neutral flow = go_on flow (λ env thing. list_value scene env thing (form.Known (neutral which) ∷ []))

    -- a match on `self` comes to the arms, and then to what is answered where none returned
    matched : list_value scene env Nothing block ≡ then_neutral (arms_list scene env m.arms a (own_fields 0 a.fields))
    matched = ap (list_value scene env Nothing) m.block_is ∙ ap then_neutral (self_matched scene env a refl around.own m.value m.arms m.value_is.is)

-- a block returns at once, or it compares the fields
by_block : (which : Comparison) (d : DeriveInput) (names : Names) (v : Variant) (block : List Form) (Goal : Type 0) (once : Bool) → returns_at_once which v ≡ once → IsVariantBlock once which d names v block
    → (returns_at_once which v ≡ true → block ≡ Return (form.Known (neutral which)) ∷ [] → Goal) → (ComparesFields which d names v block → Goal) → Goal
by_block which d names v block Goal true one is at_once compares = at_once one is
by_block which d names v block Goal false one is at_once compares = compares is

-- only a unit variant returns at once
unit_at_once : (which : Comparison) (v : Variant) → returns_at_once which v ≡ true → is_unit v ≡ true
unit_at_once PartialEq v is = absurd (false≢true is)
unit_at_once PartialOrd v is = is
unit_at_once Ord v is = is

-- without fields nothing differs
no_field_differs : (which : Comparison) (table : Answers) → outcome (neutral which) ≡ fields_meaning which table []
no_field_differs PartialEq table = refl
no_field_differs PartialOrd table = refl
no_field_differs Ord table = refl

-- on two values of one variant, a match means what the fields that take part mean
pub match_same : (which : Comparison) (d : DeriveInput) (table : Answers) (a b : Value) (names : Names) (variants : List Variant) → AreNames d names → AreFit (trait_of which) d variants
    → (outer : List Binding) → IsOuter names outer → (block : List Form) → IsMatch which d names variants block → HasShape d a → HasShape d b → a.variant ≡ b.variant
    → AllByRecursion (λ c. IsSome (says which table c)) (compared which d a b)
    → outcome_of (list_value (scene_of d a b table) (env_of a outer) Nothing block) ≡ fields_meaning which table (compared which d a b)
match_same which d table a b names variants are fit outer around block m shape_a shape_b same known =
    let sc = scene_of d a b table in
    let outside : Env = env_of a outer in
    let of_a = is_of d variants fit.enum a shape_a in
    let of_b = is_of d variants fit.enum b shape_b in
    let v = of_a.variant in
    let fs = fields_in v in
    let kept = kept_fields (trait_of which) d fs in
    let one : of_b.variant ≡ v = same_Some of_b.variant v (sym of_b.at ∙ ap (slice_get variants) (sym same) ∙ of_a.at) in
    let found_b : variant_of d b ≡ Some v = of_b.found ∙ ap Some one in
    let look_a = look_in v a in
    let look_b = look_in v b in
    let give_b : FieldsGive look_b 0 fs b.fields = subst (λ (v : Variant). FieldsGive (look_in v b) 0 (fields_in v) b.fields) one of_b.give in
    let differ = fields_different (trait_of which) d fs of_a.names of_a.few in
    let Own : ℕ → Variant → Arm → Type 0 = λ _. IsArm which d names in
    let picked = arm_at Own (λ _ v arm is. is.own_is.variant_is) sc outside a (own_fields 0 a.fields) v of_a.found 0 variants m.arms a.variant
    (arms_placed (IsArm which d names) 0 variants m.arms m.arms_are) fit.enum.names of_a.at in
    let paired : compared which d a b ≡ map (seen look_a look_b) kept =
    ap (λ (own : List Field). paired_from (trait_of which) d 0 own a.fields b.fields) of_a.case_is ∙ paired-seen look_a look_b (trait_of which) d 0 fs a.fields b.fields of_a.give give_b in
    let Known : Compared → Type 0 = λ c. IsSome (says which table c) in
    let each = each_map Known (seen look_a look_b) kept (subst (AllByRecursion Known) paired known) in
    let named = In-all (λ (v : Variant). AllByRecursion (λ k. HasOwnPath d.tokens k.how) (kept_fields (trait_of which) d (fields_in v))) variants v fit.methods of_a.inside in
    let placed = each_placed look_a (settings_of (trait_of which) d) fs a.fields of_a.give in
    let binds_a = places_bound names.own look_a (settings_of (trait_of which) d) d v a picked.arm.pattern of_a.found of_a.give picked.is.own_is in
    let end : Flow → Flow = then_neutral which d table a b names are outer around variants block m in
    let Goal : Type 0 = outcome_of (end (taken sc outside picked.arm.pattern picked.arm.block a (own_fields 0 a.fields))) ≡ fields_meaning which table (compared which d a b) in
    let at_once : returns_at_once which v ≡ true → picked.arm.block ≡ Return (form.Known (neutral which)) ∷ [] → Goal = λ unit block_is.
    ap (λ (flow : Flow). outcome_of (end flow)) (returns_neutral which d table a b names are outer around kept differ look_a look_b placed picked.arm binds_a block_is)
    ∙ outcome_known outside (neutral which) ∙ no_field_differs which table
    ∙ ap (fields_meaning which table) (sym (paired ∙ ap (λ (fs : List Field). map (seen look_a look_b) (kept_fields (trait_of which) d fs)) (unit_has_none v (unit_at_once which v unit)))) in
    let compares : ComparesFields which d names v picked.arm.block → Goal = λ is.
    ap (λ (flow : Flow). outcome_of (end flow))
    (arm_same which d table a b names are outer around kept differ look_a look_b placed v picked.arm is binds_a
    (each_in_order (trait_of which) (λ k. In k kept) kept is.ordered is.ordered_is (each_in kept)) (each_in_order (trait_of which) (λ k. HasOwnPath d.tokens k.how) kept is.ordered is.ordered_is named)
    (each_mapped Known (seen look_a look_b) is.ordered (each_in_order (trait_of which) (λ k. Known (seen look_a look_b k)) kept is.ordered is.ordered_is each))
    (fits_own d b v found_b is.inner is.inner_is.variant_is) (values_bound names.others look_b (settings_of (trait_of which) d) d v b is.inner found_b give_b is.inner_is))
    ∙ steps_ended sc outside d.tokens (around_apart d names are outer around.known) which (first_where (differs which table) (map (seen look_a look_b) is.ordered))
    ∙ means_in_order which table look_a look_b kept is.ordered (compared which d a b) is.ordered_is paired known in
    ap outcome_of (matched which d table a b names are outer around variants block m ∙ ap end picked.value_is)
    ∙ by_block which d names v picked.arm.block Goal (returns_at_once which v) refl picked.is.block_is at_once compares

-- on values of two variants, the match of `eq` means false
pub match_differs : (d : DeriveInput) (table : Answers) (a b : Value) (names : Names) (variants : List Variant) → AreNames d names → AreFit trait.PartialEq d variants
    → (outer : List Binding) → IsOuter names outer → (block : List Form) → IsMatch PartialEq d names variants block → HasShape d a → HasShape d b → (a.variant ≡ b.variant → ⊥)
    → outcome_of (list_value (scene_of d a b table) (env_of a outer) Nothing block) ≡ OutcomeTruth false
match_differs d table a b names variants are fit outer around block m shape_a shape_b other =
    let sc = scene_of d a b table in
    let outside : Env = env_of a outer in
    let of_a = is_of d variants fit.enum a shape_a in
    let of_b = is_of d variants fit.enum b shape_b in
    let v = of_a.variant in
    let kept = kept_fields trait.PartialEq d (fields_in v) in
    let look_a = look_in v a in
    let differ = fields_different trait.PartialEq d (fields_in v) of_a.names of_a.few in
    let Own : ℕ → Variant → Arm → Type 0 = λ _. IsArm PartialEq d names in
    let picked = arm_at Own (λ _ v arm is. is.own_is.variant_is) sc outside a (own_fields 0 a.fields) v of_a.found 0 variants m.arms a.variant
    (arms_placed (IsArm PartialEq d names) 0 variants m.arms m.arms_are) fit.enum.names of_a.at in
    let is = picked.is.block_is in
    let fails = fits_no_other d b of_b.variant of_b.found v is.inner is.inner_is.variant_is (apart_at variants a.variant b.variant v of_b.variant fit.enum.names of_a.at of_b.at other) in
    let placed = each_placed look_a (settings_of trait.PartialEq d) (fields_in v) a.fields of_a.give in
    let arm_value = arm_differs PartialEq d table a b names are outer around kept differ look_a look_a placed v picked.arm is
    (places_bound names.own look_a (settings_of trait.PartialEq d) d v a picked.arm.pattern of_a.found of_a.give picked.is.own_is) fails in
    let own_env : Env = env_of a (with_variables outer names.own by_place kept) in
    let end : Flow → Flow = then_neutral PartialEq d table a b names are outer around variants block m in
    ap outcome_of (matched PartialEq d table a b names are outer around variants block m ∙ ap end (picked.value_is ∙ arm_value)
    ∙ ap (λ (o : Option (List Form)). end (leave outer (or_nothing own_env (held_list sc o)))) is.others_are
    ∙ ap (λ (flow : Flow). end (leave outer (leave own_env.names (go_on flow (λ env thing. Gives env thing))))) (lawful_forms.returned sc own_env (form.Known (Truth false))))
