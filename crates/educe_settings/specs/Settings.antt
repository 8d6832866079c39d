-- What the attributes of a type, of its variants and of its fields say of a trait.
use Rattle.std.specs.Prelude.{ℕ, ℤ, pos, ◌-ℤ◌, ◌+◌, ◌^◌, ◌<◌, ◌≤◌, ◌≡◌, Bool, true, false, not, List, [], ◌∷◌, map, Option, None, Some, if◌then◌else◌, unwrap_or}
use Rattle.std.specs.List.{AllByRecursion, Contains, flat_map}
use Rattle.educe_tokens.specs.declared.span.Span.{Span}
use Rattle.educe_syntax.specs.Attribute.{Attribute}
use Rattle.educe_syntax.specs.ExprPath.{ExprPath}
use Rattle.educe_syntax.specs.Field.{Field}
use Rattle.educe_syntax.specs.DeriveInput.{DeriveInput}
use Rattle.educe_syntax.specs.Variant.{Variant}
use Rattle.educe_attrs.specs.Values.{Values}
use Rattle.educe_attrs.specs.WherePredicatesOrBool.{WherePredicatesOrBool}
use Rattle.educe_bound.specs.declared.bound.Bound.{Bound}
use Rattle.educe_bound.specs.declared.bound.Bound.TheVariants.{Auto}
use Rattle.educe_bound.specs.Bounds.{bound_of}
use Rattle.educe_bound.specs.Predicates.{IsReadBound}
use Rattle.educe_attrs.specs.Causes.{NoCause}
use Rattle.educe_attrs.specs.FieldSettings.{FieldSettings}
use Rattle.educe_attrs.specs.Fields.{settings_at}
use Rattle.educe_attrs.specs.Compared.{number_of, place_of}
use Rattle.educe_attrs.specs.Places.{place_settings, IsSaid, OfPlace, IsFieldSaid, OfField}
use Rattle.educe_attrs.specs.Row.{Row}
use Rattle.educe_bound_traits.specs.declared.traits.Trait.{Trait}
use Rattle.educe_syntax.specs.Few.{variants_of, all_fields}
use Rattle.educe_settings.specs.Cases.{cases_of}
use Rattle.educe_settings.specs.Listed.{listed}
use Rattle.educe_settings.specs.Ranks.{AreRanksApart}
use Rattle.educe_settings.specs.Rows.{type_row, variant_row, field_row}

-- ---- settings

-- The settings of the type for a trait.
abbrev pub type_settings : Trait → DeriveInput → Values
type_settings which definition = place_settings which (type_row which definition) (listed definition) definition.attrs

-- The settings of a variant for a trait.
abbrev pub variant_settings : Trait → DeriveInput → Variant → Values
variant_settings which definition variant = place_settings which (variant_row which) (listed definition) variant.attrs

-- The settings of a field for a trait; none if its attributes are rejected.
abbrev pub settings_of : Trait → DeriveInput → Field → FieldSettings
settings_of which definition = settings_at which (field_row which) (listed definition)

-- The bound that is said; where nothing is, the automatic one.
abbrev pub bound_said : Option WherePredicatesOrBool → Bound
bound_said None = Auto
bound_said (Some value) = bound_of value

-- The bound that the type says for a trait.
abbrev pub bound_for : Trait → DeriveInput → Bound
bound_for which definition = bound_said (type_settings which definition).bound

-- The bound is the one that the type says for a trait, and the predicates that it lists are readings of their tokens.
pub record IsBoundOf (which : Trait) (definition : DeriveInput) (bound : Bound) : Type 0 where
  pub is : bound ≡ bound_for which definition
  pub read : IsReadBound bound

-- The settings of the type, among them its bound, and those of each variant are what their attributes say of the trait. Those of
-- each field are what its attributes say of it, or, where both orders are listed and an order has none of its own, of the other.
pub record AreSaid (which : Trait) (definition : DeriveInput) : Type 0 where
  pub type_said : IsSaid which (type_row which definition) definition.attrs (type_settings which definition)
  pub variants_said : AllByRecursion (λ (variant : Variant). IsSaid which (variant_row which) variant.attrs (variant_settings which definition variant)) (variants_of definition)
  pub fields_said : AllByRecursion (λ field. IsFieldSaid which (field_row which) (listed definition) field.attrs (settings_of which definition field)) (all_fields definition)

-- The attributes of a place have no cause of a rejection by the forms of this row, and they say this.
pub record AreSettings (which : Trait) (row : Row) (definition : DeriveInput) (attributes : List Attribute) (values : Values) : Type 0 where
  pub read : NoCause (OfPlace which row (listed definition) attributes)
  pub said : IsSaid which row attributes values

-- The attributes of a field have no cause of a rejection by the forms of this row, and they say this.
pub record AreFieldSettings (which : Trait) (row : Row) (definition : DeriveInput) (field : Field) (settings : FieldSettings) : Type 0 where
  pub read : NoCause (OfField which row (listed definition) field.attrs)
  pub said : IsFieldSaid which row (listed definition) field.attrs settings

-- Whether a field with these settings takes part.
abbrev pub keeps : FieldSettings → Bool
keeps settings = not (unwrap_or settings.values.ignore false)

-- The rank at a place where none is set: -2^63 plus the position among the fields of the case.
abbrev pub default_rank : ℕ → ℤ
default_rank place = pos place -ℤ pos (2 ^ 63)

-- The rank that these settings give at a place, or else the default one.
abbrev pub rank_by : ℕ → FieldSettings → ℤ
rank_by place settings = number_of settings.values.rank (default_rank place)

-- The span of the rank that these settings give, or else the other span.
abbrev pub rank_span_by : FieldSettings → Span → Span
rank_span_by settings other = unwrap_or (place_of settings.values.rank) other

-- Whether a field with these settings is reversed: an order turns its answer on the field round.
abbrev pub reverse_by : FieldSettings → Bool
reverse_by settings = unwrap_or settings.values.reverse false

-- How a field is treated: by the trait's own function; by a method; or, where `PartialOrd` takes the method of `Ord`, by
-- one that returns an `Ordering`.
pub data How : Type 0 where
  plainly : How
  by_method : ExprPath → How
  by_order : ExprPath → How

-- By this method, if there is one; with true it returns an `Ordering`.
abbrev pub how_with : Bool → Option ExprPath → How
how_with ordering None = plainly
how_with false (Some path) = by_method path
how_with true (Some path) = by_order path

-- How a field with these settings is treated.
abbrev pub how_by : FieldSettings → How
how_by settings = how_with settings.method_returns_ordering settings.values.method

-- ---- fields

-- The field takes part in what the trait does: its settings do not ignore it.
abbrev pub is_kept : Trait → DeriveInput → Field → Bool
is_kept which definition field = keeps (settings_of which definition field)

-- Where the rank stands: the parameter, or the field where it has none.
abbrev pub rank_span_of : Trait → DeriveInput → Field → Span
rank_span_of which definition field = rank_span_by (settings_of which definition field) field.span

-- A field that takes part, its place among the fields of its case, counted from 0, its rank, where that stands, whether it is reversed,
-- and how it is treated.
pub record Kept : Type 0 where
  pub field : Field
  pub place : ℕ
  pub rank : ℤ
  pub rank_span : Span
  pub reverse : Bool
  pub how : How

-- The field at a place, as it takes part with these settings.
abbrev pub kept_with : FieldSettings → ℕ → Field → Kept
kept_with settings place field = record {
  field = field;
  place = place;
  rank = rank_by place settings;
  rank_span = rank_span_by settings field.span;
  reverse = reverse_by settings;
  how = how_by settings;
}

-- The fields that take part, among fields with these settings; the first field has this place.
abbrev pub kept_by : ℕ → List Field → List FieldSettings → List Kept
kept_by place [] all = []
kept_by place (f ∷ fs) [] = []
kept_by place (f ∷ fs) (s ∷ all) = if keeps s then kept_with s place f ∷ kept_by (place + 1) fs all else kept_by (place + 1) fs all

-- The field at a place, as it takes part.
abbrev pub kept_at : Trait → DeriveInput → ℕ → Field → Kept
kept_at which definition place field = kept_with (settings_of which definition field) place field

-- The fields that take part, among fields of which the first has this place.
abbrev pub kept_from : Trait → DeriveInput → ℕ → List Field → List Kept
kept_from which definition place fields = kept_by place fields (map (settings_of which definition) fields)

-- The fields of one case that take part, in written order.
abbrev pub kept_fields : Trait → DeriveInput → List Field → List Kept
kept_fields which definition fields = kept_from which definition 0 fields

-- The fields of all cases that take part, case by case.
abbrev pub all_kept : Trait → DeriveInput → List Kept
all_kept which definition = flat_map (kept_fields which definition) (cases_of definition)

-- No two of the fields have one rank.
abbrev pub RanksDiffer : List Kept → Type 0
RanksDiffer kept = AreRanksApart (λ k. k.rank) kept

-- Where two of the fields have one rank, the later of them is not written before this place.
abbrev pub IsEarliest : List Kept → ℕ → Type 0
IsEarliest kept place =
    (first later : Kept) → Contains kept first → Contains kept later → first.place < later.place → first.rank ≡ later.rank → place ≤ later.place

-- Two of the fields have this rank, and this is the place of the later one's; of such later fields it is the one that is written
-- first.
pub record ReusesARank (kept : List Kept) (rank : ℤ) (place : Span) : Type 0 where
  pub first : Kept
  pub later : Kept
  pub first_kept : Contains kept first
  pub later_kept : Contains kept later
  pub written : first.place < later.place
  pub first_rank : first.rank ≡ rank
  pub later_rank : later.rank ≡ rank
  pub place_is : place ≡ later.rank_span
  pub earliest : IsEarliest kept later.place
