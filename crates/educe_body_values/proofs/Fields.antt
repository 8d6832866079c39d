-- The value of a field by its key, where the keys differ.
use Rattle.std.proofs.Common.{◌≡◌, ◌≢◌, ℕ, Bool, true, false, List, [], ◌∷◌, Some, length, refl, ap, ◌∙◌, arith}
use Rattle.std.specs.Prelude.{if◌then◌else◌}
use Rattle.std.specs.Bool.{Decides}
use Rattle.std.specs.List.{AllByRecursion}
use Rattle.std.specs.Str.{bytes_eq}
use Rattle.std.proofs.lemmas.Slice.Eq.{bytes_eq-Decides}
use Rattle.educe_body_values.specs.declared.value.FieldValue.{FieldValue}
use Rattle.educe_body_forms.specs.Keys.{AreDifferent}
use Rattle.educe_body_values.specs.Meaning.{part_of}
use Rattle.educe_body_values.specs.Laws.{KeysGive}

-- ---- texts

-- a text is itself
pub bytes_eq-same : (text : List ℕ) → bytes_eq text text ≡ true
bytes_eq-same text = (bytes_eq-Decides text text).1 refl

false_from_decides : {P : Type 0} (b : Bool) → Decides b P → ¬ P → b ≡ false
false_from_decides true decides differs = absurd (differs (decides.0 refl))
false_from_decides false decides differs = refl

-- texts that differ are not equal by their test
pub bytes_eq-differ : (text other : List ℕ) → text ≢ other → bytes_eq text other ≡ false
bytes_eq-differ text other differs = false_from_decides (bytes_eq text other) (bytes_eq-Decides text other) differs

-- ---- one field

-- past a field of another key
pub part_of-past : (k : List ℕ) (keys : List (List ℕ)) (y : FieldValue) (values : List FieldValue) (key : List ℕ) → k ≢ key → part_of (k ∷ keys) (y ∷ values) key ≡ part_of keys values key
part_of-past k keys y values key differs =
    ap (λ (b : Bool). if b then Some y else part_of keys values key) (bytes_eq-differ k key differs)

-- the first field, by its key
pub part_of-first : (k : List ℕ) (keys : List (List ℕ)) (y : FieldValue) (values : List FieldValue) → part_of (k ∷ keys) (y ∷ values) k ≡ Some y
part_of-first k keys y values =
    ap (λ (b : Bool). if b then Some y else part_of keys values k) (bytes_eq-same k)

-- ---- all fields

keys_give-past : (k : List ℕ) (y : FieldValue) (whole : List (List ℕ)) (all : List FieldValue) (keys : List (List ℕ)) (values : List FieldValue)
    → AllByRecursion (λ other. k ≢ other) keys → KeysGive (part_of whole all) keys values
    → KeysGive (part_of (k ∷ whole) (y ∷ all)) keys values
keys_give-past k y whole all [] [] differ give = tt
keys_give-past k y whole all [] (x ∷ values) differ give = absurd give
keys_give-past k y whole all (other ∷ keys) [] differ give = absurd give
keys_give-past k y whole all (other ∷ keys) (x ∷ values) differ give = (
  part_of-past k whole y all other differ.0 ∙ give.0,
  keys_give-past k y whole all keys values differ.1 give.1,
)

-- where the keys differ and there is one value for each, the keys give the values
pub KeysGive-part_of : (keys : List (List ℕ)) (values : List FieldValue) → AreDifferent keys → length keys ≡ length values → KeysGive (part_of keys values) keys values
KeysGive-part_of [] [] differ same = tt
KeysGive-part_of [] (x ∷ values) differ same = absurd (omega arith)
KeysGive-part_of (k ∷ keys) [] differ same = absurd (omega arith)
KeysGive-part_of (k ∷ keys) (x ∷ values) differ same = (
  part_of-first k keys x values,
  keys_give-past k x keys values keys values differ.0 (KeysGive-part_of keys values differ.1 (omega arith)),
)
