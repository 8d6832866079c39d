-- The fields of a case with their places, and the values that stand there.
use Rattle.std.proofs.Common.{◌≡◌, ℕ, zero, suc, ◌+◌, Bool, true, false, List, [], ◌∷◌, map, Some, slice_get, refl, sym, ap, ◌∙◌, subst, arith, pos}
use Rattle.std.specs.Prelude.{if◌then◌else◌, unwrap_or}
use Rattle.std.specs.List.{AllByRecursion, filter}
use Rattle.educe_syntax.specs.DeriveInput.{DeriveInput}
use Rattle.educe_syntax.specs.Field.{Field}
use Rattle.educe_bound_traits.specs.declared.traits.Trait.{Trait}
use Rattle.educe_body_values.specs.declared.value.FieldValue.{FieldValue}
use Rattle.educe_body_values.specs.declared.value.Value.{Value}
use Rattle.educe_meaning.specs.Comparing.{Compared, HaveTypes, paired_from}
use Rattle.educe_meaning.specs.Hashing.{Valued, valued_from}
use Rattle.educe_settings.specs.Settings.{is_kept, kept_at}
use Rattle.educe_meaning_coherence.proofs.Sorting.{each_weaker}

-- A field, and its place.
pub record Spot : Type 0 where
  pub place : ℕ
  pub field : Field

-- The fields with their places, where the first has this one.
abbrev pub spots : ℕ → List Field → List Spot
spots place [] = []
spots place (f ∷ fs) = record { place = place; field = f } ∷ spots (place + 1) fs

-- The field value at each place.
abbrev pub Column : Type 0
Column = ℕ → FieldValue

-- These values stand in the column, the first at this place.
abbrev pub Fits : Column → ℕ → List FieldValue → Type 0
Fits c place [] = Unit {0}
Fits c place (x ∷ xs) = (c place ≡ x) × Fits c (place + 1) xs

-- The field values of a value, by place.
abbrev pub column : Value → Column
column a place = unwrap_or (slice_get a.fields place) (record { ty = 0; number = pos 0 })

fits_from : (c : Column) (place : ℕ) (xs : List FieldValue) → ((k : ℕ) (x : FieldValue) → slice_get xs k ≡ Some x → c (place + k) ≡ x) → Fits c place xs
fits_from c place [] at = tt
fits_from c place (x ∷ xs) at =
    let first : place + 0 ≡ place = omega arith in (
      subst (λ (n : ℕ). c n ≡ x) first (at 0 x refl),
      fits_from c (place + 1) xs (λ k y found. let same : place + suc k ≡ (place + 1) + k = omega arith in subst (λ (n : ℕ). c n ≡ y) same (at (suc k) y found)),
    )

pub column_fits : (a : Value) → Fits (column a) 0 a.fields
column_fits a = fits_from (column a) 0 a.fields (λ k x found. let same : k ≡ 0 + k = omega arith in subst (λ (n : ℕ). column a n ≡ x) same (ap (λ o. unwrap_or o (record { ty = 0; number = pos 0 })) found))

module _ (which : Trait) (d : DeriveInput) where
  -- Whether the field takes part in the trait.
  abbrev pub takes : Spot → Bool
  takes s = is_kept which d s.field

  -- A field that takes part, with its values in two columns.
  abbrev pub seen : Column → Column → Spot → Compared
  seen c e s = record { kept = kept_at which d s.place s.field; first = c s.place; second = e s.place }

  seen_step : (c e : Column) (place : ℕ) (f : Field) (x y : FieldValue) (rest : List Compared) (more : List Spot) (t : Bool) → c place ≡ x → e place ≡ y → rest ≡ map (seen c e) more
      → (if t then record { kept = kept_at which d place f; first = x; second = y } ∷ rest else rest) ≡ map (seen c e) (if t then record { place = place; field = f } ∷ more else more)
  seen_step c e place f x y rest more true at_x at_y same = λ i. record { kept = kept_at which d place f; first = sym at_x i; second = sym at_y i } ∷ same i
  seen_step c e place f x y rest more false at_x at_y same = same

  pub paired_is : (c e : Column) (all : List Field) (place : ℕ) (fs : List Field) (xs ys : List FieldValue) → HaveTypes all fs xs → HaveTypes all fs ys → Fits c place xs → Fits e place ys
      → paired_from which d place fs xs ys ≡ map (seen c e) (filter takes (spots place fs))
  paired_is c e all place [] xs ys first second fit_x fit_y = refl
  paired_is c e all place (f ∷ fs) [] ys first second fit_x fit_y = absurd first
  paired_is c e all place (f ∷ fs) (x ∷ xs) [] first second fit_x fit_y = absurd second
  paired_is c e all place (f ∷ fs) (x ∷ xs) (y ∷ ys) first second fit_x fit_y =
      seen_step c e place f x y (paired_from which d (place + 1) fs xs ys) (filter takes (spots (place + 1) fs)) (is_kept which d f) fit_x.0 fit_y.0
      (paired_is c e all (place + 1) fs xs ys first.1 second.1 fit_x.1 fit_y.1)

  -- A field that takes part, with its value in one column.
  abbrev pub given : Column → Spot → Valued
  given c s = record { kept = kept_at which d s.place s.field; value = c s.place }

  given_step : (c : Column) (place : ℕ) (f : Field) (x : FieldValue) (rest : List Valued) (more : List Spot) (t : Bool) → c place ≡ x → rest ≡ map (given c) more
      → (if t then record { kept = kept_at which d place f; value = x } ∷ rest else rest) ≡ map (given c) (if t then record { place = place; field = f } ∷ more else more)
  given_step c place f x rest more true at_x same = λ i. record { kept = kept_at which d place f; value = sym at_x i } ∷ same i
  given_step c place f x rest more false at_x same = same

  pub valued_is : (c : Column) (all : List Field) (place : ℕ) (fs : List Field) (xs : List FieldValue) → HaveTypes all fs xs → Fits c place xs
      → valued_from which d place fs xs ≡ map (given c) (filter takes (spots place fs))
  valued_is c all place [] xs first fit = refl
  valued_is c all place (f ∷ fs) [] first fit = absurd first
  valued_is c all place (f ∷ fs) (x ∷ xs) first fit =
      given_step c place f x (valued_from which d (place + 1) fs xs) (filter takes (spots (place + 1) fs)) (is_kept which d f) fit.0 (valued_is c all (place + 1) fs xs first.1 fit.1)

-- ---- places

abbrev IsBehind : ℕ → List Field → Spot → Type 0
IsBehind place fs s = (k : ℕ) × (s.place ≡ place + k) × (slice_get fs k ≡ Some s.field)

each_behind : (place : ℕ) (fs : List Field) → AllByRecursion (IsBehind place fs) (spots place fs)
each_behind place [] = tt
each_behind place (f ∷ fs) = (
  (0, omega arith, refl),
  each_weaker (IsBehind (place + 1) fs) (IsBehind place (f ∷ fs)) (λ s at. (suc at.0, omega (arith, at.1), at.2)) (spots (place + 1) fs) (each_behind (place + 1) fs),
)

-- The field stands at its place among these.
abbrev pub IsAt : List Field → Spot → Type 0
IsAt fs s = slice_get fs s.place ≡ Some s.field

pub each_at : (fs : List Field) → AllByRecursion (IsAt fs) (spots 0 fs)
each_at fs = each_weaker (IsBehind 0 fs) (IsAt fs) (λ s at. let same : at.0 ≡ s.place = omega (arith, at.1) in subst (λ (n : ℕ). slice_get fs n ≡ Some s.field) same at.2) (spots 0 fs) (each_behind 0 fs)

-- Where a field stands, a value stands.
value_at : (all fs : List Field) (xs : List FieldValue) (k : ℕ) (f : Field) → HaveTypes all fs xs → slice_get fs k ≡ Some f → (x : FieldValue) × (slice_get xs k ≡ Some x)
value_at all [] xs k f types at = absurd (cc)
value_at all (g ∷ fs) [] k f types at = absurd types
value_at all (g ∷ fs) (x ∷ xs) zero f types at = (x, refl)
value_at all (g ∷ fs) (x ∷ xs) (suc k) f types at = value_at all fs xs k f types.1 at

pub column_at : (all fs : List Field) (a : Value) (k : ℕ) (f : Field) → HaveTypes all fs a.fields → slice_get fs k ≡ Some f → slice_get a.fields k ≡ Some (column a k)
column_at all fs a k f types at =
    let found = value_at all fs a.fields k f types at in
    found.1 ∙ ap Some (sym (ap (λ o. unwrap_or o (record { ty = 0; number = pos 0 })) found.1))
