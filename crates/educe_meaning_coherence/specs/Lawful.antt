-- By which settings, and over which tables, the derived comparisons and `Hash` of a definition are coherent.
use Rattle.std.specs.Prelude.{◌≡◌, ℕ, ℤ, Bool, true, List, [], Option, Some, slice_get, int_lt}
use Rattle.std.specs.List.{AllByRecursion, Contains}
use Rattle.std.specs.declared.cmp.Ordering.{Ordering}
use Rattle.educe_syntax.specs.DeriveInput.{DeriveInput}
use Rattle.educe_syntax.specs.Field.{Field}
use Rattle.educe_bound_traits.specs.declared.traits.Trait.{Trait}
use Rattle.educe_bound_traits.specs.declared.traits.Trait.TheVariants as trait
use Rattle.educe_bound_traits.specs.Traits.{is_listed}
use Rattle.educe_body_forms.specs.declared.comparison.Comparison.{Comparison}
use Rattle.educe_body_forms.specs.declared.comparison.Comparison.TheVariants.{PartialEq, PartialOrd, Ord}
use Rattle.educe_body_forms.specs.declared.form.Known.{Known}
use Rattle.educe_body_forms.specs.declared.form.Known.TheVariants as known
use Rattle.educe_body_values.specs.declared.answers.Answers.{Answers}
use Rattle.educe_body_values.specs.declared.value.FieldValue.{FieldValue}
use Rattle.educe_body_values.specs.declared.value.Value.{Value}
use Rattle.educe_settings.specs.Cases.{cases_of}
use Rattle.educe_meaning.specs.Comparing.{HasShape, Covers, says, as_answer}
use Rattle.educe_meaning.specs.Comparisons.{trait_of}
use Rattle.educe_meaning.specs.Hashing.{feeds}
use Rattle.educe_settings.specs.Listed.{listed}
use Rattle.educe_settings.specs.Settings.{plainly, is_kept, kept_at, settings_of, reverse_by}
use Rattle.educe_meaning_coherence.specs.Relations.{IsEquivalenceAmong, IsTotalOrderAmong, IsPartialOrderAmong, IsEqualWhereTrue, IsSomeOf, FeedsAlike}

-- The definition lists the trait.
abbrev pub Lists : DeriveInput → Trait → Type 0
Lists definition which = is_listed (listed definition) which ≡ true

-- ---- matching settings

-- The rank that the field at a place has for a trait.
abbrev pub rank_at : Trait → DeriveInput → ℕ → Field → ℤ
rank_at which definition place field = (kept_at which definition place field).rank

-- `PartialOrd` and `Ord` put the fields of a case that take part in one order: a field has a lower rank than another for `PartialOrd`
-- exactly where it has a lower one for `Ord`.
abbrev pub AreRankedAlike : DeriveInput → List Field → Type 0
AreRankedAlike definition fields =
    (i j : ℕ) (f g : Field) → slice_get fields i ≡ Some f → slice_get fields j ≡ Some g
    → is_kept trait.Ord definition f ≡ true → is_kept trait.Ord definition g ≡ true
    → int_lt (rank_at trait.PartialOrd definition i f) (rank_at trait.PartialOrd definition j g)
    ≡ int_lt (rank_at trait.Ord definition i f) (rank_at trait.Ord definition j g)

-- Each field of a case that takes part in `Hash` takes part in `PartialEq`.
abbrev pub AreHashedCompared : DeriveInput → List Field → Type 0
AreHashedCompared definition fields =
    AllByRecursion (λ field. is_kept trait.Hash definition field ≡ true → is_kept trait.PartialEq definition field ≡ true) fields

-- The settings of the fields of a case match: the same fields take part in all listed comparisons; each field that takes part in
-- `Hash` takes part in `PartialEq`; and both orders rank them alike.
pub record MatchInCase (definition : DeriveInput) (fields : List Field) : Type 0 where
  pub compared : (which other : Comparison) → Lists definition (trait_of which) → Lists definition (trait_of other)
      → AllByRecursion (λ field. is_kept (trait_of which) definition field ≡ is_kept (trait_of other) definition field) fields
  pub hashed : Lists definition trait.PartialEq → Lists definition trait.Hash → AreHashedCompared definition fields
  pub ranked : Lists definition trait.PartialOrd → Lists definition trait.Ord → AreRankedAlike definition fields

-- The settings of a definition match: those of the fields of the struct, or of each variant, do.
abbrev pub HaveMatchingSettings : DeriveInput → Type 0
HaveMatchingSettings definition = AllByRecursion (MatchInCase definition) (cases_of definition)

-- ---- what a field says and feeds

-- What the field at a place says to a comparison of two field values.
abbrev pub says_at : Comparison → Answers → DeriveInput → ℕ → Field → FieldValue → FieldValue → Option Known
says_at which table definition place field x y =
    says which table (record { kept = kept_at (trait_of which) definition place field; first = x; second = y })

-- What the field at a place feeds to a hasher of a field value.
abbrev pub feeds_at : Answers → DeriveInput → ℕ → Field → FieldValue → Option ℤ
feeds_at table definition place field x = feeds table (record { kept = kept_at trait.Hash definition place field; value = x })

-- A truth, as a field says it.
abbrev pub as_truth : Bool → Option Known
as_truth b = Some (known.Truth b)

-- An order, as a field says it.
abbrev pub as_order : Ordering → Option Known
as_order o = Some (known.Order o)

-- A partial order, as a field says it.
abbrev pub as_partial_order : Option Ordering → Option Known
as_partial_order p = Some (known.PartialOrder p)

-- A part, as a field feeds it.
abbrev pub as_part : ℤ → Option ℤ
as_part part = Some part

-- ---- lawful tables

-- The trait is listed, and the field takes part in it.
pub record TakesPart (which : Trait) (definition : DeriveInput) (field : Field) : Type 0 where
  pub lists : Lists definition which
  pub kept : is_kept which definition field ≡ true

-- The field value stands at this place in one of the values, which is of this variant.
pub record IsFoundAt (values : List Value) (variant place : ℕ) (x : FieldValue) : Type 0 where
  pub value : Value
  pub among : Contains values value
  pub variant_is : value.variant ≡ variant
  pub at : slice_get value.fields place ≡ Some x

-- This holds of each field of each variant, with its place, among the field values that are found there.
abbrev pub AtEachField : DeriveInput → List Value → (ℕ → Field → (FieldValue → Type 0) → Type 0) → Type 0
AtEachField definition values Holds =
    (variant place : ℕ) (fields : List Field) (field : Field) → slice_get (cases_of definition) variant ≡ Some fields
    → slice_get fields place ≡ Some field → Holds place field (IsFoundAt values variant place)

-- What each field says to `PartialEq` is an equivalence.
abbrev pub AreEquivalences : Answers → DeriveInput → List Value → Type 0
AreEquivalences table definition values =
    AtEachField definition values (λ place field In.
    TakesPart trait.PartialEq definition field
    → IsEquivalenceAmong In (says_at PartialEq table definition place field) as_truth)

-- What each field says to `Ord` is a total order.
abbrev pub AreTotalOrders : Answers → DeriveInput → List Value → Type 0
AreTotalOrders table definition values =
    AtEachField definition values (λ place field In.
    TakesPart trait.Ord definition field
    → IsTotalOrderAmong In (says_at Ord table definition place field) as_order)

-- What each field says to `PartialOrd` is a partial order.
abbrev pub ArePartialOrders : Answers → DeriveInput → List Value → Type 0
ArePartialOrders table definition values =
    AtEachField definition values (λ place field In.
    TakesPart trait.PartialOrd definition field
    → IsPartialOrderAmong In (says_at PartialOrd table definition place field) as_partial_order)

-- What each field says to this order is Equal, or Some(Equal), exactly where it says to `PartialEq` that both are equal.
abbrev pub AreEqualWhereTrue : Comparison → Answers → DeriveInput → List Value → Type 0
AreEqualWhereTrue which table definition values =
    AtEachField definition values (λ place field In.
    TakesPart trait.PartialEq definition field → TakesPart (trait_of which) definition field
    → IsEqualWhereTrue In (says_at which table definition place field) (λ o. Some (as_answer which o))
    (says_at PartialEq table definition place field) as_truth)

-- What each field says to `PartialOrd` is `Some` of what it says to `Ord`.
abbrev pub AreSomeOf : Answers → DeriveInput → List Value → Type 0
AreSomeOf table definition values =
    AtEachField definition values (λ place field In.
    TakesPart trait.PartialOrd definition field → TakesPart trait.Ord definition field
    → IsSomeOf In (says_at PartialOrd table definition place field) as_partial_order (says_at Ord table definition place field) as_order)

-- Where two field values are equal, the field feeds a hasher the same of both.
abbrev pub FieldsFeedAlike : Answers → DeriveInput → List Value → Type 0
FieldsFeedAlike table definition values =
    AtEachField definition values (λ place field In.
    TakesPart trait.PartialEq definition field → TakesPart trait.Hash definition field
    → FeedsAlike In (feeds_at table definition place field) as_part (says_at PartialEq table definition place field) as_truth)

-- The table is lawful on these values: among the field values that are found at the place of a field, what it says to `PartialEq` is an
-- equivalence; what it says to `Ord` is a total order, Equal exactly where they are equal; what it says to `PartialOrd` is `Some` of
-- that; and where they are equal it feeds a hasher the same. Each is asked of the traits that are listed and that the field takes part in.
pub record IsLawful (table : Answers) (definition : DeriveInput) (values : List Value) : Type 0 where
  pub equivalences : AreEquivalences table definition values
  pub total_orders : AreTotalOrders table definition values
  pub equal_where_true : AreEqualWhereTrue Ord table definition values
  pub some_of : AreSomeOf table definition values
  pub feed_alike : FieldsFeedAlike table definition values

-- The table is lawful on these values for `PartialOrd`, whether `Ord` is listed or not: among the field values that are found at the
-- place of a field, what it says to `PartialOrd` is a partial order, and Some(Equal) exactly where they are equal.
pub record IsLawfulForPartialOrd (table : Answers) (definition : DeriveInput) (values : List Value) : Type 0 where
  pub partial_orders : ArePartialOrders table definition values
  pub equal_where_true : AreEqualWhereTrue PartialOrd table definition values

-- For a comparison the table covers each two of the values, and each value with itself.
abbrev pub CoversFor : Comparison → Answers → DeriveInput → List Value → Type 0
CoversFor which table definition values = (a b : Value) → Contains values a → Contains values b → Covers which table definition a b

-- For each listed comparison the table covers each two of the values, and each value with itself.
abbrev pub CoversEachTwo : Answers → DeriveInput → List Value → Type 0
CoversEachTwo table definition values = (which : Comparison) → Lists definition (trait_of which) → CoversFor which table definition values

-- ---- a lawful table

-- No field that takes part in the trait has a method of it.
abbrev pub HasNoMethods : DeriveInput → Trait → Type 0
HasNoMethods definition which =
    (variant place : ℕ) (fields : List Field) (field : Field) → slice_get (cases_of definition) variant ≡ Some fields
    → slice_get fields place ≡ Some field → TakesPart which definition field → (kept_at which definition place field).how ≡ plainly

-- No field has a method of a comparison or of `Hash` in which it takes part.
pub record HasPlainFields (definition : DeriveInput) : Type 0 where
  pub compared : (which : Comparison) → HasNoMethods definition (trait_of which)
  pub hashed : HasNoMethods definition trait.Hash

-- The order turns its answer on the field round.
abbrev pub is_reversed : Trait → DeriveInput → Field → Bool
is_reversed which definition field = reverse_by (settings_of which definition field)

-- Both orders, where both are listed and a field takes part in both, reverse the same fields.
abbrev pub AreReversedAlike : DeriveInput → Type 0
AreReversedAlike definition =
    (variant place : ℕ) (fields : List Field) (field : Field) → slice_get (cases_of definition) variant ≡ Some fields
    → slice_get fields place ≡ Some field → TakesPart trait.PartialOrd definition field → TakesPart trait.Ord definition field
    → is_reversed trait.PartialOrd definition field ≡ is_reversed trait.Ord definition field

-- The table has no rows and answers by number.
pub record IsByNumber (table : Answers) : Type 0 where
  pub no_rows : table.rows ≡ []
  pub by_number : table.by_number ≡ true

-- Each of the values has the definition's shape.
abbrev pub HaveShape : DeriveInput → List Value → Type 0
HaveShape definition values = (a : Value) → Contains values a → HasShape definition a
