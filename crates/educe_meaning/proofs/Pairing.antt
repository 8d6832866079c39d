-- Fields that take part, with the values that a way to look them up gives.
use Rattle.std.proofs.Common.{◌≡◌, ℕ, suc, ◌+◌, Bool, true, false, List, [], ◌∷◌, Option, Some, map, length, zero-add, refl, sym, ap, ◌∙◌, subst, arith, pos}
use Rattle.std.specs.Prelude.{if◌then◌else◌, slice_get, unwrap_or}
use Rattle.std.specs.List.{AllByRecursion}
use Rattle.educe_syntax.specs.Field.{Field}
use Rattle.educe_syntax.specs.DeriveInput.{DeriveInput}
use Rattle.educe_attrs.specs.FieldSettings.{FieldSettings}
use Rattle.educe_bound_traits.specs.declared.traits.Trait.{Trait}
use Rattle.educe_body_values.specs.declared.value.FieldValue.{FieldValue}
use Rattle.educe_settings.specs.Settings.{Kept, keeps, kept_with, kept_by, is_kept, kept_at, kept_from}
use Rattle.educe_meaning.specs.Comparing.{Compared, paired_from, HaveTypes}
use Rattle.educe_meaning.specs.Hashing.{Valued, valued_from}

-- the field value that a look-up gives
abbrev pub part_in : Option FieldValue → FieldValue
part_in found = unwrap_or found (record { ty = 0; number = pos 0 })

-- a way to look up the value of the field at a place
abbrev pub Look : Type 0
Look = ℕ → Field → Option FieldValue

-- by this look-up the fields, of which the first has this place, have these values, one for each
abbrev pub FieldsGive : Look → ℕ → List Field → List FieldValue → Type 0
FieldsGive look place [] [] = Unit {0}
FieldsGive look place [] (x ∷ xs) = ⊥
FieldsGive look place (f ∷ fs) [] = ⊥
FieldsGive look place (f ∷ fs) (x ∷ xs) = (look place f ≡ Some x) × FieldsGive look (place + 1) fs xs

-- the value of a field that takes part
abbrev pub value_in : Look → Kept → FieldValue
value_in look k = part_in (look k.place k.field)

-- the look-up gives a value for the field
abbrev pub IsGiven : Look → Kept → Type 0
IsGiven look k = look k.place k.field ≡ Some (value_in look k)

module _ (look_a look_b : Look) where
  -- a field with its values in two values
  abbrev pub seen : Kept → Compared
  seen k = record { kept = k; first = value_in look_a k; second = value_in look_b k }

  seen_step : (which : Trait) (d : DeriveInput) (place : ℕ) (f : Field) (x y : FieldValue) (rest : List Compared) (kept : List Kept) (keeps : Bool)
      → look_a place f ≡ Some x → look_b place f ≡ Some y → rest ≡ map seen kept
      → (if keeps then record { kept = kept_at which d place f; first = x; second = y } ∷ rest else rest) ≡ map seen (if keeps then kept_at which d place f ∷ kept else kept)
  seen_step which d place f x y rest kept true at_a at_b same = λ i. record { kept = kept_at which d place f; first = part_in (sym at_a i); second = part_in (sym at_b i) } ∷ same i
  seen_step which d place f x y rest kept false at_a at_b same = same

  -- the fields of two values that take part, with their values
  pub paired-seen : (which : Trait) (d : DeriveInput) (place : ℕ) (fs : List Field) (xs ys : List FieldValue) → FieldsGive look_a place fs xs → FieldsGive look_b place fs ys
      → paired_from which d place fs xs ys ≡ map seen (kept_from which d place fs)
  paired-seen which d place [] xs ys give_a give_b = refl
  paired-seen which d place (f ∷ fs) [] ys give_a give_b = absurd give_a
  paired-seen which d place (f ∷ fs) (x ∷ xs) [] give_a give_b = absurd give_b
  paired-seen which d place (f ∷ fs) (x ∷ xs) (y ∷ ys) give_a give_b =
      seen_step which d place f x y (paired_from which d (place + 1) fs xs ys) (kept_from which d (place + 1) fs) (is_kept which d f) give_a.0 give_b.0
      (paired-seen which d (place + 1) fs xs ys give_a.1 give_b.1)

module _ (look : Look) where
  -- a field with its value
  abbrev pub given : Kept → Valued
  given k = record { kept = k; value = value_in look k }

  valued_step : (which : Trait) (d : DeriveInput) (place : ℕ) (f : Field) (x : FieldValue) (rest : List Valued) (kept : List Kept) (keeps : Bool) → look place f ≡ Some x → rest ≡ map given kept
      → (if keeps then record { kept = kept_at which d place f; value = x } ∷ rest else rest) ≡ map given (if keeps then kept_at which d place f ∷ kept else kept)
  valued_step which d place f x rest kept true found same = λ i. record { kept = kept_at which d place f; value = part_in (sym found i) } ∷ same i
  valued_step which d place f x rest kept false found same = same

  -- the fields of a value that take part, with their values
  pub valued-given : (which : Trait) (d : DeriveInput) (place : ℕ) (fs : List Field) (xs : List FieldValue) → FieldsGive look place fs xs
      → valued_from which d place fs xs ≡ map given (kept_from which d place fs)
  valued-given which d place [] xs give = refl
  valued-given which d place (f ∷ fs) [] give = absurd give
  valued-given which d place (f ∷ fs) (x ∷ xs) give =
      valued_step which d place f x (valued_from which d (place + 1) fs xs) (kept_from which d (place + 1) fs) (is_kept which d f) give.0 (valued-given which d (place + 1) fs xs give.1)

given_one : (look : Look) (place : ℕ) (f : Field) (x : FieldValue) → look place f ≡ Some x → look place f ≡ Some (part_in (look place f))
given_one look place f x at = at ∙ ap (λ found. Some (part_in found)) (sym at)

given_step : (look : Look) (settings : FieldSettings) (place : ℕ) (f : Field) (x : FieldValue) (kept : List Kept) (keeps : Bool) → look place f ≡ Some x
    → AllByRecursion (IsGiven look) kept → AllByRecursion (IsGiven look) (if keeps then kept_with settings place f ∷ kept else kept)
given_step look settings place f x kept true at given = (given_one look place f x at, given)
given_step look settings place f x kept false at given = given

-- each field that takes part has a value
pub each_given : (look : Look) (settings : Field → FieldSettings) (place : ℕ) (fs : List Field) (xs : List FieldValue) → FieldsGive look place fs xs
    → AllByRecursion (IsGiven look) (kept_by place fs (map settings fs))
each_given look settings place [] xs give = tt
each_given look settings place (f ∷ fs) [] give = absurd give
each_given look settings place (f ∷ fs) (x ∷ xs) give =
    given_step look (settings f) place f x (kept_by (place + 1) fs (map settings fs)) (keeps (settings f)) give.0 (each_given look settings (place + 1) fs xs give.1)

-- the field has its value at its place among these
abbrev pub IsPlaced : Look → List FieldValue → Kept → Type 0
IsPlaced look all k = slice_get all k.place ≡ Some (value_in look k)

placed_step : (look : Look) (all : List FieldValue) (k : Kept) (kept : List Kept) (keeps : Bool) → IsPlaced look all k → AllByRecursion (IsPlaced look all) kept
    → AllByRecursion (IsPlaced look all) (if keeps then k ∷ kept else kept)
placed_step look all k kept true at placed = (at, placed)
placed_step look all k kept false at placed = placed

-- each field that takes part has its value at its place, where the given values stand among these from this place on
placed_from : (look : Look) (all : List FieldValue) (settings : Field → FieldSettings) (place : ℕ) (fs : List Field) (xs : List FieldValue) → FieldsGive look place fs xs
    → ((k : ℕ) → slice_get all (place + k) ≡ slice_get xs k) → AllByRecursion (IsPlaced look all) (kept_by place fs (map settings fs))
placed_from look all settings place [] xs give within = tt
placed_from look all settings place (f ∷ fs) [] give within = absurd give
placed_from look all settings place (f ∷ fs) (x ∷ xs) give within =
    let here : place + 0 ≡ place = omega arith in
    placed_step look all (kept_with (settings f) place f) (kept_by (place + 1) fs (map settings fs)) (keeps (settings f))
    (subst (λ n. slice_get all n ≡ Some x) here (within 0) ∙ ap (λ found. Some (part_in found)) (sym give.0))
    (placed_from look all settings (place + 1) fs xs give.1
    (λ k. let there : place + suc k ≡ place + 1 + k = omega arith in subst (λ n. slice_get all n ≡ slice_get xs k) there (within (suc k))))

-- each field of a value that takes part has its value at its place
pub each_placed : (look : Look) (settings : Field → FieldSettings) (fs : List Field) (xs : List FieldValue) → FieldsGive look 0 fs xs
    → AllByRecursion (IsPlaced look xs) (kept_by 0 fs (map settings fs))
each_placed look settings fs xs give = placed_from look xs settings 0 fs xs give (λ k. ap (slice_get xs) (zero-add k))

-- as many values as fields
pub length_from_types : (all fs : List Field) (xs : List FieldValue) → HaveTypes all fs xs → length fs ≡ length xs
length_from_types all [] [] h = refl
length_from_types all [] (x ∷ xs) h = absurd h
length_from_types all (f ∷ fs) [] h = absurd h
length_from_types all (f ∷ fs) (x ∷ xs) h = ap suc (length_from_types all fs xs h.1)
