-- What `PartialOrd` takes of fields that say nothing of it but of `Ord`.
use Rattle.std.proofs.Common.{◌≡◌, ℕ, zero, suc, true, false, ◌&&◌, List, [], ◌∷◌, Option, Some, None, slice_get, refl, sym, ap, ◌∙◌, subst}
use Rattle.std.specs.Prelude.{if◌then◌else◌, is_some, unwrap_or}
use Rattle.std.specs.List.{AllByRecursion}
use Rattle.std.proofs.lemmas.Option.{same_Some}
use Rattle.educe_syntax.specs.Attribute.{Attribute}
use Rattle.educe_syntax.specs.DeriveInput.{DeriveInput}
use Rattle.educe_syntax.specs.ExprPath.{ExprPath}
use Rattle.educe_syntax.specs.Few.{shape_fields, all_fields}
use Rattle.educe_syntax.specs.Field.{Field}
use Rattle.educe_syntax.specs.Shape.{Shape}
use Rattle.educe_syntax.specs.Shape.TheVariants.{Struct, Enum}
use Rattle.educe_bound_traits.specs.declared.traits.Trait.{Trait}
use Rattle.educe_bound_traits.specs.declared.traits.Trait.TheVariants.{PartialOrd, Ord}
use Rattle.educe_bound_traits.specs.Traits.{is_listed}
use Rattle.educe_attrs.specs.Causes.{NoCause}
use Rattle.educe_attrs.specs.FieldSettings.{FieldSettings}
use Rattle.educe_attrs.specs.Fields.{HaveNoCauses}
use Rattle.educe_attrs.specs.Laws.{lawful_settings}
use Rattle.educe_attrs.specs.Places.{fallback, own_settings, taken, IsFieldSaid, OfField}
use Rattle.educe_attrs.specs.Said.{IsUnsaid, SaysThere}
use Rattle.educe_attrs.specs.Values.{Values}
use Rattle.educe_body_values.specs.declared.value.Value.{Value}
use Rattle.educe_settings.specs.Cases.{fields_in, shape_cases, cases_of}
use Rattle.educe_meaning.specs.Comparing.{case_of}
use Rattle.educe_settings.specs.Listed.{listed}
use Rattle.educe_settings.specs.Rows.{field_row}
use Rattle.educe_settings.specs.Settings.{settings_of, keeps, is_kept, rank_by, rank_span_by, How, plainly, by_method, by_order, how_with, Kept, kept_with, kept_at, reverse_by}
use Rattle.educe_settings.proofs.Elements.{each_mapped, each_apart}
use Rattle.educe_meaning.specs.OrderLaws.{TakesFromOrd}

-- ---- settings

-- the settings of `Ord` are a field's own, and those of `PartialOrd` are taken from them
pub record AreTaken (partial total : FieldSettings) : Type 0 where
  pub partial_is : partial ≡ taken PartialOrd total.values
  pub total_is : total ≡ own_settings total.values

-- the settings of `Ord` are a field's own in a definition, and those of `PartialOrd` are taken from them
abbrev pub IsTaken : DeriveInput → Field → Type 0
IsTaken d field = AreTaken (settings_of PartialOrd d field) (settings_of Ord d field)

module _ (listed : List Trait) (partial_listed : is_listed listed PartialOrd ≡ true) (ord_listed : is_listed listed Ord ≡ true) where
  partial_falls : fallback PartialOrd listed ≡ Some Ord
  partial_falls = λ i. if partial_listed i && ord_listed i then Some Ord else None

  ord_falls : fallback Ord listed ≡ Some PartialOrd
  ord_falls = λ i. if ord_listed i && partial_listed i then Some PartialOrd else None

  -- what is said of `Ord` alone is said of `PartialOrd` too
  said_taken : (attributes : List Attribute) → IsUnsaid PartialOrd attributes → (total : FieldSettings) → IsFieldSaid Ord (field_row Ord) listed attributes total
      → IsFieldSaid PartialOrd (field_row PartialOrd) listed attributes (taken PartialOrd total.values) × (total ≡ own_settings total.values)
  said_taken attributes unsaid _ (IsFieldSaid.own_said values there) = (IsFieldSaid.other_said Ord values partial_falls unsaid there, refl)
  said_taken attributes unsaid _ (IsFieldSaid.other_said other values is none there) =
      let own = subst (λ t. SaysThere t (field_row Ord) attributes values) (same_Some other PartialOrd (sym is ∙ ord_falls)) there in
      absurd (unsaid own.found own.are own.meta own.among own.of)
  said_taken attributes unsaid _ (IsFieldSaid.none_said none others) =
      (IsFieldSaid.none_said unsaid (λ other is. subst (λ t. IsUnsaid t attributes) (same_Some Ord other (sym partial_falls ∙ is)) none), refl)

module _ (d : DeriveInput) (takes : TakesFromOrd d) where
  is_taken : (field : Field) → IsUnsaid PartialOrd field.attrs → NoCause (OfField PartialOrd (field_row PartialOrd) (listed d) field.attrs)
      → NoCause (OfField Ord (field_row Ord) (listed d) field.attrs) → IsTaken d field
  is_taken field unsaid partial total =
      let said = said_taken (listed d) takes.partial_listed takes.ord_listed field.attrs unsaid (settings_of Ord d field)
      (lawful_settings.field_said Ord (field_row Ord) (listed d) field.attrs total) in
      record {
        partial_is = sym (lawful_settings.field_only PartialOrd (field_row PartialOrd) (listed d) field.attrs partial (taken PartialOrd (settings_of Ord d field).values) said.0);
        total_is = said.1;
      }

  each_taken : (fields : List Field) → AllByRecursion (λ (field : Field). IsUnsaid PartialOrd field.attrs) fields → HaveNoCauses PartialOrd (field_row PartialOrd) (listed d) fields
      → HaveNoCauses Ord (field_row Ord) (listed d) fields → AllByRecursion (IsTaken d) fields
  each_taken [] unsaid partial total = tt
  each_taken (f ∷ fs) unsaid partial total = (is_taken f unsaid.0 partial.0 total.0, each_taken fs unsaid.1 partial.1 total.1)

-- ---- the fields of a case

module _ (P : Field → Type 0) where
  each_case : (shape : Shape) → AllByRecursion P (shape_fields shape) → AllByRecursion (AllByRecursion P) (shape_cases shape)
  each_case (Struct shape) each = (each, tt)
  each_case (Enum variants) each = each_mapped (AllByRecursion P) fields_in variants (each_apart P fields_in variants each)

  in_case : (cases : List (List Field)) (place : ℕ) → AllByRecursion (AllByRecursion P) cases → AllByRecursion P (unwrap_or (slice_get cases place) [])
  in_case [] place each = tt
  in_case (fields ∷ cases) zero each = each.0
  in_case (fields ∷ cases) (suc place) each = in_case cases place each.1

-- the fields of a value's case are taken
pub case_taken : (d : DeriveInput) → TakesFromOrd d → (value : Value) → AllByRecursion (IsTaken d) (case_of d value)
case_taken d takes value =
    in_case (IsTaken d) (cases_of d) value.variant
    (each_case (IsTaken d) d.shape (each_taken d takes (all_fields d) takes.unsaid takes.partial_uncaused takes.ord_uncaused))

-- ---- fields that take part

-- how `PartialOrd` treats a field that `Ord` treats so: it puts the answer of a method in `Some`
abbrev pub how_taken : How → How
how_taken plainly = plainly
how_taken (by_method path) = by_order path
how_taken (by_order path) = by_order path

-- a field that takes part in `Ord`, as it takes part in `PartialOrd`
abbrev pub kept_taken : Kept → Kept
kept_taken kept = record kept { how = how_taken kept.how }

method_taken : (method : Option ExprPath) → how_with (is_some method) method ≡ how_taken (how_with false method)
method_taken None = refl
method_taken (Some path) = refl

values_taken : (values : Values) (place : ℕ) (field : Field) → kept_with (taken PartialOrd values) place field ≡ kept_taken (kept_with (own_settings values) place field)
values_taken values place field =
    ap (λ (how : How). record { field = field; place = place; rank = rank_by place (own_settings values); rank_span = rank_span_by (own_settings values) field.span; reverse = reverse_by (own_settings values); how = how })
    (method_taken values.method)

-- both orders keep the same fields
pub kept_alike : (d : DeriveInput) (field : Field) → IsTaken d field → is_kept PartialOrd d field ≡ is_kept Ord d field
kept_alike d field is = ap keeps is.partial_is ∙ sym (ap keeps is.total_is)

-- and `PartialOrd` keeps what it takes
pub kept_at_taken : (d : DeriveInput) (place : ℕ) (field : Field) → IsTaken d field → kept_at PartialOrd d place field ≡ kept_taken (kept_at Ord d place field)
kept_at_taken d place field is =
    ap (λ (settings : FieldSettings). kept_with settings place field) is.partial_is
    ∙ values_taken (settings_of Ord d field).values place field
    ∙ ap (λ (settings : FieldSettings). kept_taken (kept_with settings place field)) (sym is.total_is)
