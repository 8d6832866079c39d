-- Where the names of fields are apart, a leading `r#` aside, their keys differ without `r#`, and so as they are written.
use Rattle.std.proofs.Common.{◌≡◌, ◌≢◌, ℕ, ◌+◌, ◌<◌, ◌≤◌, ◌^◌, Bool, true, cond, IsTrue, Option, Some, None, List, [], ◌∷◌, map, length, refl, sym, ap, subst, ◌∙◌, arith}
use Rattle.std.specs.Char.{is_ascii_digit}
use Rattle.std.specs.Fmt.{decimal}
use Rattle.std.specs.List.{AllByRecursion}
use Rattle.std.proofs.lemmas.Fmt.{decimal_injective}
use Rattle.educe_tokens.specs.LiteralKind.TheVariants.{Int}
use Rattle.educe_tokens.specs.TokenKind.TheVariants.{Ident as IdentKind, Literal}
use Rattle.educe_tokens.specs.Chars.{begins}
use Rattle.educe_tokens.specs.Pieces.{spells}
use Rattle.educe_tree.specs.TokenLaws.{lawful_kinds}
use Rattle.educe_tree.specs.declared.ident.Ident.{Ident}
use Rattle.educe_tree.specs.declared.data.Field.{Field}
use Rattle.educe_tree.specs.declared.derive.DeriveInput.{DeriveInput}
use Rattle.educe_tree.specs.declared.derive.Shape.{Shape}
use Rattle.educe_tree.specs.declared.derive.Shape.TheVariants.{Struct, Enum}
use Rattle.educe_tree.specs.Names.{unraw}
use Rattle.educe_grammar.specs.Naming.{Named, ident_named, field_names, shape_scopes, AreApart, AllApart, AreNamesApart}
use Rattle.educe_names.proofs.PlainNames.{plain_is_word, word_spells}
use Rattle.educe_body_forms.specs.Keys.{binding_key, keys_from, shape_fields, fields_of, keys_of, AreDifferent}
use Rattle.educe_body_forms.proofs.Prefixed.{unraw_decimal}
use Rattle.educe_body_forms.specs.Indices.{decimal_begins}

-- a name doesn't begin with a digit
name_no_digit : (text : List ℕ) → IsTrue (spells IdentKind text) → begins is_ascii_digit text ≡ true → ⊥
name_no_digit text h digit =
    let here : cond (spells IdentKind text) IdentKind (Literal Int) ≡ IdentKind = ap (λ (b : Bool). cond b IdentKind (Literal Int)) h in
    let there : IdentKind ≡ Literal Int = sym here ∙ lawful_kinds.index text digit in
    cc

-- a name without `r#` is no index
name_no_index : (i : Ident) (n : ℕ) → n < 2 ^ 64 → unraw i.text ≢ decimal n
name_no_index i n small same =
    name_no_digit (unraw i.text) (word_spells (unraw i.text) (plain_is_word i.text i.spelled)) (ap (begins is_ascii_digit) same ∙ decimal_begins n small)

-- the key without `r#` of a field with a name
key_named : (place : ℕ) (f : Field) (i : Ident) → f.ident ≡ Some i → binding_key place f ≡ unraw i.text
key_named place f i h = rw h refl

-- the key without `r#` of a field without a name
key_unnamed : (place : ℕ) (f : Field) → place < 2 ^ 64 → f.ident ≡ None → binding_key place f ≡ decimal place
key_unnamed place f small h = rw h (unraw_decimal place small)

-- the names of fields of which the first has one
names_named : (f : Field) (fields : List Field) (i : Ident) → f.ident ≡ Some i → field_names (f ∷ fields) ≡ ident_named i ∷ field_names fields
names_named f fields i h = rw h refl

-- the names of fields of which the first has no name
names_unnamed : (f : Field) (fields : List Field) → f.ident ≡ None → field_names (f ∷ fields) ≡ field_names fields
names_unnamed f fields h = rw h refl

-- the keys of fields without `r#`
abbrev plain_keys : ℕ → List Field → List (List ℕ)
plain_keys place fields = map unraw (keys_from place fields)

-- the text is none of the keys
abbrev IsNone : List ℕ → List (List ℕ) → Type 0
IsNone text keys = AllByRecursion (λ later. text ≢ later) keys

-- the names differ from this one, a leading `r#` aside
abbrev Differ : Ident → List Named → Type 0
Differ i names = AllByRecursion (λ later. unraw i.text ≢ unraw later.text) names

-- the keys of fields behind one with a name
behind_named : (i : Ident) (place : ℕ) (fields : List Field) → Differ i (field_names fields) → place + length fields ≤ 2 ^ 64 → IsNone (unraw i.text) (plain_keys place fields)
behind_named i place [] apart small = tt
behind_named i place (f ∷ fields) apart small = split f.ident refl (λ names. behind_named i (place + 1) fields names (omega arith))
  where
    split : (o : Option Ident) → f.ident ≡ o → (Differ i (field_names fields) → IsNone (unraw i.text) (plain_keys (place + 1) fields)) → IsNone (unraw i.text) (plain_keys place (f ∷ fields))
    split None h more = (
      (λ same. name_no_index i place (omega arith) (same ∙ key_unnamed place f (omega arith) h)),
      more (subst (Differ i) (names_unnamed f fields h) apart),
    )
    split (Some other) h more =
        let names : Differ i (ident_named other ∷ field_names fields) = subst (Differ i) (names_named f fields other h) apart in
        ((λ same. names.0 (same ∙ key_named place f other h)), more names.1)

-- the keys of fields behind one without a name
behind_unnamed : (n place : ℕ) (fields : List Field) → n < place → place + length fields ≤ 2 ^ 64 → IsNone (decimal n) (plain_keys place fields)
behind_unnamed n place [] less small = tt
behind_unnamed n place (f ∷ fields) less small = split f.ident refl (behind_unnamed n (place + 1) fields (omega arith) (omega arith))
  where
    split : (o : Option Ident) → f.ident ≡ o → IsNone (decimal n) (plain_keys (place + 1) fields) → IsNone (decimal n) (plain_keys place (f ∷ fields))
    split None h more = (
      (λ same. let e : n ≡ place = decimal_injective n place (omega arith) (omega arith) (same ∙ key_unnamed place f (omega arith) h) in absurd (omega arith)),
      more,
    )
    split (Some other) h more = ((λ same. name_no_index other n (omega arith) (sym (same ∙ key_named place f other h))), more)

-- where the names of fields are apart, a leading `r#` aside, their keys differ without `r#`
plain_keys-differ : (place : ℕ) (fields : List Field) → AreApart (field_names fields) → place + length fields ≤ 2 ^ 64 → AreDifferent (plain_keys place fields)
plain_keys-differ place [] apart small = tt
plain_keys-differ place (f ∷ fields) apart small = split f.ident refl (λ names. plain_keys-differ (place + 1) fields names (omega arith))
  where
    split : (o : Option Ident) → f.ident ≡ o → (AreApart (field_names fields) → AreDifferent (plain_keys (place + 1) fields)) → AreDifferent (plain_keys place (f ∷ fields))
    split None h more = (
      subst (λ (key : List ℕ). IsNone key (plain_keys (place + 1) fields)) (sym (key_unnamed place f (omega arith) h)) (behind_unnamed place (place + 1) fields (omega arith) (omega arith)),
      more (subst AreApart (names_unnamed f fields h) apart),
    )
    split (Some i) h more =
        let names : AreApart (ident_named i ∷ field_names fields) = subst AreApart (names_named f fields i h) apart in (
          subst (λ (key : List ℕ). IsNone key (plain_keys (place + 1) fields)) (sym (key_named place f i h)) (behind_named i (place + 1) fields names.0 (omega arith)),
          more names.1,
        )

-- the keys of all fields differ without `r#`
pub keys_apart : (fields : List Field) → AreApart (field_names fields) → length fields ≤ 2 ^ 64 → AreDifferent (map unraw (keys_from 0 fields))
keys_apart fields apart small = plain_keys-differ 0 fields apart (omega arith)

-- texts differ that differ without `r#`
differ_from_plain : (texts : List (List ℕ)) → AreDifferent (map unraw texts) → AreDifferent texts
differ_from_plain [] differ = tt
differ_from_plain (text ∷ texts) differ = (each texts differ.0, differ_from_plain texts differ.1)
  where
    each : (texts : List (List ℕ)) → IsNone (unraw text) (map unraw texts) → IsNone text texts
    each [] none = tt
    each (later ∷ texts) none = ((λ same. none.0 (ap unraw same)), each texts none.1)

-- where the names of a definition are apart, the keys of its fields differ
pub keys_of-differ : (definition : DeriveInput) → AreNamesApart definition → length (fields_of definition) ≤ 2 ^ 64 → AreDifferent (keys_of definition)
keys_of-differ definition apart small = by_shape definition.shape apart.1.1 small
  where
    by_shape : (shape : Shape) → AllApart (shape_scopes shape) → length (shape_fields shape) ≤ 2 ^ 64 → AreDifferent (keys_from 0 (shape_fields shape))
    by_shape (Struct fields) scopes few = differ_from_plain (keys_from 0 fields.fields) (keys_apart fields.fields scopes.0 few)
    by_shape (Enum variants) scopes few = tt
