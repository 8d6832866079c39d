-- The fields of a case that all take part: what they are, their places, their values and their keys.
use Rattle.std.proofs.Common.{◌≡◌, ◌≢◌, ℕ, zero, suc, ◌+◌, Bool, true, List, [], ◌∷◌, Some, map, refl, sym, ap, ◌∙◌, subst, arith}
use Rattle.std.specs.Prelude.{if◌then◌else◌, slice_get}
use Rattle.std.specs.List.{AllByRecursion}
use Rattle.std.specs.Option.{option_map}
use Rattle.std.proofs.lemmas.Option.{same_Some}
use Rattle.std.proofs.lemmas.Slice.Eq.{bytes_eq-Decides}
use Rattle.educe_syntax.specs.DeriveInput.{DeriveInput}
use Rattle.educe_syntax.specs.Field.{Field}
use Rattle.educe_bound_traits.specs.declared.traits.Trait.{Trait}
use Rattle.educe_body_forms.specs.Keys.{AreDifferent, key_of, keys_from}
use Rattle.educe_body_values.specs.Meaning.{place_named}
use Rattle.educe_body_values.specs.declared.value.FieldValue.{FieldValue}
use Rattle.educe_body_values.proofs.Fields.{bytes_eq-differ}
use Rattle.educe_settings.specs.Settings.{Kept, is_kept, kept_at, kept_from}
use Rattle.educe_settings.proofs.Elements.{In-all, In-found, each_weaker}
use Rattle.educe_meaning.proofs.Pairing.{Look, FieldsGive, part_in, value_in}

-- all these fields take part
abbrev pub AreKept : Trait → DeriveInput → List Field → Type 0
AreKept which d fields = AllByRecursion (λ field. is_kept which d field ≡ true) fields

-- the fields stand at these places, one behind the other
abbrev pub InPlace : ℕ → List Kept → Type 0
InPlace place [] = Unit {0}
InPlace place (k ∷ ks) = (k.place ≡ place) × InPlace (place + 1) ks

-- ---- the place of a key

-- where keys differ, each is found at its place
named_at : (keys : List (List ℕ)) (n : ℕ) (key : List ℕ) → AreDifferent keys → slice_get keys n ≡ Some key → place_named keys key ≡ Some n
named_at [] n key differ at = absurd (cc)
named_at (k ∷ keys) zero key differ at =
    ap (λ (b : Bool). if b then Some 0 else option_map (λ place. place + 1) (place_named keys key)) ((bytes_eq-Decides k key).1 (same_Some k key at))
named_at (k ∷ keys) (suc n) key differ at =
    let differs : k ≢ key = In-all (λ later. k ≢ later) keys key differ.0 (In-found keys n key at) in
    let next : n + 1 ≡ suc n = omega arith in
    ap (λ (b : Bool). if b then Some 0 else option_map (λ place. place + 1) (place_named keys key)) (bytes_eq-differ k key differs)
    ∙ ap (option_map (λ (place : ℕ). place + 1)) (named_at keys n key differ.1 at) ∙ ap Some next

-- the key of the field names its place
abbrev pub IsNamed : List (List ℕ) → Kept → Type 0
IsNamed keys k = place_named keys (key_of k.place k.field) ≡ Some k.place

-- ---- fields that all take part

module _ (which : Trait) (d : DeriveInput) where
  -- these fields, of which the first has this place
  abbrev every_from : ℕ → List Field → List Kept
  every_from place [] = []
  every_from place (f ∷ fs) = kept_at which d place f ∷ every_from (place + 1) fs

  -- where all fields take part, those that take part are all
  every : (place : ℕ) (fs : List Field) → AreKept which d fs → kept_from which d place fs ≡ every_from place fs
  every place [] all = refl
  every place (f ∷ fs) all =
      ap (λ (b : Bool). if b then kept_at which d place f ∷ kept_from which d (place + 1) fs else kept_from which d (place + 1) fs) all.0
      ∙ ap (λ (ks : List Kept). kept_at which d place f ∷ ks) (every (place + 1) fs all.1)

  every_fields : (place : ℕ) (fs : List Field) → map (λ (k : Kept). k.field) (every_from place fs) ≡ fs
  every_fields place [] = refl
  every_fields place (f ∷ fs) = ap (λ (more : List Field). f ∷ more) (every_fields (place + 1) fs)

  every_in_place : (place : ℕ) (fs : List Field) → InPlace place (every_from place fs)
  every_in_place place [] = tt
  every_in_place place (f ∷ fs) = (refl, every_in_place (place + 1) fs)

  every_values : (look : Look) (place : ℕ) (fs : List Field) (xs : List FieldValue) → FieldsGive look place fs xs → map (value_in look) (every_from place fs) ≡ xs
  every_values look place [] [] give = refl
  every_values look place [] (x ∷ xs) give = absurd give
  every_values look place (f ∷ fs) [] give = absurd give
  every_values look place (f ∷ fs) (x ∷ xs) give = λ i. part_in (give.0 i) ∷ every_values look (place + 1) fs xs give.1 i

  -- the key of the field stands at its place
  abbrev HasKey : List (List ℕ) → Kept → Type 0
  HasKey all k = slice_get all k.place ≡ Some (key_of k.place k.field)

  every_key : (all : List (List ℕ)) (place : ℕ) (fs : List Field) → ((n : ℕ) → slice_get all (place + n) ≡ slice_get (keys_from place fs) n) → AllByRecursion (HasKey all) (every_from place fs)
  every_key all place [] within = tt
  every_key all place (f ∷ fs) within =
      let here : place + 0 ≡ place = omega arith in (
        subst (λ n. slice_get all n ≡ Some (key_of place f)) here (within 0),
        every_key all (place + 1) fs (λ n.
            let there : place + suc n ≡ place + 1 + n = omega arith in
            subst (λ m. slice_get all m ≡ slice_get (keys_from (place + 1) fs) n) there (within (suc n))),
      )

  -- the fields that take part are all
  pub kept_are : (fs : List Field) → AreKept which d fs → map (λ (k : Kept). k.field) (kept_from which d 0 fs) ≡ fs
  kept_are fs all = ap (λ (ks : List Kept). map (λ (k : Kept). k.field) ks) (every 0 fs all) ∙ every_fields 0 fs

  -- the fields that take part stand one behind the other
  pub kept_in_place : (fs : List Field) → AreKept which d fs → InPlace 0 (kept_from which d 0 fs)
  kept_in_place fs all = subst (InPlace 0) (sym (every 0 fs all)) (every_in_place 0 fs)

  -- their values are all values
  pub kept_values : (look : Look) (fs : List Field) (xs : List FieldValue) → AreKept which d fs → FieldsGive look 0 fs xs → map (value_in look) (kept_from which d 0 fs) ≡ xs
  kept_values look fs xs all give = ap (map (value_in look)) (every 0 fs all) ∙ every_values look 0 fs xs give

  -- where their keys differ, each names its place
  pub kept_named : (fs : List Field) → AreKept which d fs → AreDifferent (keys_from 0 fs) → AllByRecursion (IsNamed (keys_from 0 fs)) (kept_from which d 0 fs)
  kept_named fs all differ =
      let keys = keys_from 0 fs in
      let at : (n : ℕ) → slice_get keys (0 + n) ≡ slice_get keys n = λ n. let same : 0 + n ≡ n = omega arith in ap (slice_get keys) same in
      subst (AllByRecursion (IsNamed keys)) (sym (every 0 fs all))
      (each_weaker (HasKey keys) (IsNamed keys) (λ k has. named_at keys k.place (key_of k.place k.field) differ has) (every_from 0 fs) (every_key keys 0 fs at))
