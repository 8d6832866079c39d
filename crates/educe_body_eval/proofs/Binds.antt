-- What the fields of a pattern bind.
use Rattle.std.proofs.Common.{◌≡◌, ◌∙◌, ℕ, ◌+◌, ◌<◌, Bool, true, false, List, [], ◌∷◌, ◌++◌, Option, Some, None, ◌⊎◌, inl, inr, suc, length, map, drop, get_or, refl, sym, ap, append_assoc, append-nil}
use Rattle.std.proofs.lemmas.List.{drop_more, get_or_default}
use Rattle.std.specs.Prelude.{if◌then◌else◌}
use Rattle.std.specs.Option.{option_map}
use Rattle.educe_tree.specs.declared.data.Field.{Field}
use Rattle.educe_tree.specs.declared.ident.Ident.{Ident}
use Rattle.educe_body_values.specs.declared.environment.Binding.{Binding}
use Rattle.educe_body_values.specs.declared.environment.Env.{Env}
use Rattle.educe_body_forms.specs.declared.pattern.PatternField.{PatternField}
use Rattle.educe_body_values.specs.declared.environment.Referent.{Referent}
use Rattle.educe_body_values.specs.declared.environment.Referent.TheVariants.{This, Other, OwnField, Bound, Keys, BuilderName, Helper, Argument, Inert}
use Rattle.educe_body_values.specs.declared.value.FieldValue.{FieldValue}
use Rattle.educe_body_values.specs.declared.value.Value.{Value}
use Rattle.educe_body_values.specs.Matching.{has_key, bound_to, fields_bound}
use Rattle.educe_body_values.specs.Meaning.{enter, referent_at, fields_from, own_fields, fields_named}

-- nothing is bound where that holds of the others, whatever the key is
nothing_more : (b : Bool) (more : Option (List Binding)) (with : List Binding → List Binding) → more ≡ None → (if b then option_map with more else None) ≡ None
nothing_more true more with is = ap (option_map with) is
nothing_more false more with is = refl

-- nothing is bound where the fields are not as many as those of the pattern, or as what they stand for
pub fields_bound-few : (fields : List Field) (pattern : List PatternField) (referents : List Referent)
    → (length fields ≡ length pattern → ⊥) ⊎ ((length fields ≡ length pattern) × (length fields ≡ length referents → ⊥)) → fields_bound fields pattern referents ≡ None
fields_bound-few [] [] [] (inl differ) = absurd (differ refl)
fields_bound-few [] [] [] (inr differ) = absurd (differ.1 refl)
fields_bound-few [] [] (r ∷ rs) differ = refl
fields_bound-few [] (p ∷ ps) rs differ = refl
fields_bound-few (f ∷ fs) [] rs differ = refl
fields_bound-few (f ∷ fs) (p ∷ ps) [] differ = refl
fields_bound-few (f ∷ fs) (p ∷ ps) (r ∷ rs) (inl differ) = nothing_more _ _ (bound_to p.name r) (fields_bound-few fs ps rs (inl (λ same. differ (ap suc same))))
fields_bound-few (f ∷ fs) (p ∷ ps) (r ∷ rs) (inr differ) = nothing_more _ _ (bound_to p.name r) (fields_bound-few fs ps rs (inr (cc, λ same. differ.1 (ap suc same))))

-- one more name and then others
bound_to-more : (name : Option Ident) (referent : Referent) (names more : List Binding) → (names ++ bound_to name referent []) ++ more ≡ names ++ bound_to name referent more
bound_to-more None referent names more = ap (λ (names : List Binding). names ++ more) (append-nil names)
bound_to-more (Some name) referent names more = append_assoc names (bound_to (Some name) referent []) more

enter-more : (env after : Env) (name : Option Ident) (referent : Referent) (more : Option (List Binding)) → after ≡ enter env (bound_to name referent [])
    → option_map (enter after) more ≡ option_map (enter env) (option_map (bound_to name referent) more)
enter-more env after name referent None is = refl
enter-more env after name referent (Some more) is =
    ap (λ (after : Env). Some (enter after more)) is ∙ ap (λ (names : List Binding). Some (record env { names = names })) (bound_to-more name referent env.names more)

-- how many there are
pub length-fields_from : (found : Option Referent) (place : ℕ) (values : List FieldValue) → length (fields_from found place values) ≡ length values
length-fields_from found place [] = refl
length-fields_from found place (x ∷ xs) = ap suc (length-fields_from found (place + 1) xs)

fields_from-bound : (found : Option Referent) → ((place : ℕ) (x : FieldValue) → referent_at found place x ≡ Bound x) → (place : ℕ) (values : List FieldValue) → fields_from found place values ≡ map Bound values
fields_from-bound found each place [] = refl
fields_from-bound found each place (x ∷ xs) = λ i. each place x i ∷ fields_from-bound found each (place + 1) xs i

fields_from-own : (place : ℕ) (values : List FieldValue) → fields_from (Some This) place values ≡ own_fields place values
fields_from-own place [] = refl
fields_from-own place (x ∷ xs) = ap (λ (more : List Referent). OwnField place ∷ more) (fields_from-own (place + 1) xs)

-- what the fields from the first on stand for is what all fields stand for
pub fields_from-named : (found : Option Referent) (value : Value) → fields_from found 0 value.fields ≡ fields_named found value
fields_from-named None value = fields_from-bound None (λ place x. refl) 0 value.fields
fields_from-named (Some This) value = fields_from-own 0 value.fields
fields_from-named (Some Other) value = fields_from-bound (Some Other) (λ place x. refl) 0 value.fields
fields_from-named (Some (OwnField own)) value = fields_from-bound (Some (OwnField own)) (λ place x. refl) 0 value.fields
fields_from-named (Some (Bound bound)) value = fields_from-bound (Some (Bound bound)) (λ place x. refl) 0 value.fields
fields_from-named (Some (Keys this other)) value = fields_from-bound (Some (Keys this other)) (λ place x. refl) 0 value.fields
fields_from-named (Some BuilderName) value = fields_from-bound (Some BuilderName) (λ place x. refl) 0 value.fields
fields_from-named (Some Helper) value = fields_from-bound (Some Helper) (λ place x. refl) 0 value.fields
fields_from-named (Some (Argument made)) value = fields_from-bound (Some (Argument made)) (λ place x. refl) 0 value.fields
fields_from-named (Some Inert) value = fields_from-bound (Some Inert) (λ place x. refl) 0 value.fields

-- what the next field of a pattern binds, by whether it has the key of its field
fields_bound-next : (fields : List Field) (pattern : List PatternField) (found : Option Referent) (values : List FieldValue) (i : ℕ) (f : Field) (p : PatternField) (x : FieldValue) (b : Bool)
    → i < length fields → i < length pattern → i < length values → has_key (get_or pattern i p).key (get_or fields i f).ident ≡ b
    → fields_bound (drop i fields) (drop i pattern) (fields_from found i (drop i values))
    ≡ (if b then option_map (bound_to (get_or pattern i p).name (referent_at found i (get_or values i x))) (fields_bound (drop (i + 1) fields) (drop (i + 1) pattern) (fields_from found (i + 1) (drop (i + 1) values))) else None)
fields_bound-next fields pattern found values i f p x b in_fields in_pattern in_values test =
    (λ k. fields_bound (drop_more fields i f in_fields k) (drop_more pattern i p in_pattern k) (fields_from found i (drop_more values i x in_values k)))
    ∙ ap (λ (b : Bool). if b then option_map (bound_to (get_or pattern i p).name (referent_at found i (get_or values i x))) (fields_bound (drop (i + 1) fields) (drop (i + 1) pattern) (fields_from found (i + 1) (drop (i + 1) values))) else None) test

-- the names of the others are bound behind that of the next one
pub fields_bound-step : (env after : Env) (fields : List Field) (pattern : List PatternField) (found : Option Referent) (values : List FieldValue) (i : ℕ) (f : Field) (p q : PatternField) (x : FieldValue)
    → i < length fields → i < length pattern → i < length values → has_key (get_or pattern i p).key (get_or fields i f).ident ≡ true
    → after ≡ enter env (bound_to (get_or pattern i q).name (referent_at found i (get_or values i x)) [])
    → option_map (enter after) (fields_bound (drop (i + 1) fields) (drop (i + 1) pattern) (fields_from found (i + 1) (drop (i + 1) values)))
    ≡ option_map (enter env) (fields_bound (drop i fields) (drop i pattern) (fields_from found i (drop i values)))
fields_bound-step env after fields pattern found values i f p q x in_fields in_pattern in_values test entered =
    let same = ap (λ (p : PatternField). enter env (bound_to p.name (referent_at found i (get_or values i x)) [])) (get_or_default pattern i q p in_pattern) in
    enter-more env after (get_or pattern i p).name (referent_at found i (get_or values i x)) _ (entered ∙ same)
    ∙ sym (ap (option_map (enter env)) (fields_bound-next fields pattern found values i f p x true in_fields in_pattern in_values test))
