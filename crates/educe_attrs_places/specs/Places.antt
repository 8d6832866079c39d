-- The settings of a trait at a place, and the causes for which its attributes are rejected.
use Rattle.std.specs.Prelude.{◌≡◌, true, false, ◌&&◌, if◌then◌else◌, is_some, List, Option, Some, None, Result, Ok, ◌⊎◌}
use Rattle.std.specs.Result.{result_unwrap_or}
use Rattle.educe_tokens.specs.declared.error.EduceError.{EduceError}
use Rattle.educe_bound_traits.specs.declared.traits.Trait.{Trait}
use Rattle.educe_bound_traits.specs.declared.traits.Trait.TheVariants.{PartialOrd, Ord}
use Rattle.educe_bound_traits.specs.Traits.{is_listed}
use Rattle.educe_syntax.specs.Attribute.{Attribute}
use Rattle.educe_syntax.specs.Meta.{Meta}
use Rattle.educe_attrs_values.specs.Chains.{and_then, map_ok}
use Rattle.educe_attrs_values.specs.declared.stop.Stop.{Stop}
use Rattle.educe_attrs_rows.specs.declared.row.Row.{Row}
use Rattle.educe_attrs_rows.specs.declared.values.Values.{Values}
use Rattle.educe_attrs_rows.specs.Settings.{no_values}
use Rattle.educe_attrs_places.specs.declared.place.FieldSettings.{FieldSettings}
use Rattle.educe_attrs_places.specs.Causes.{Cause}
use Rattle.educe_attrs_places.specs.Said.{listed_metas, read_one, IsUnsaid, SaysThere, IsPlaceCause, IsSaidCause}

-- ---- types and variants

-- What the metas of a place say, or settings of which none is given.
abbrev pub or_nothing : Option Values → Values
or_nothing None = no_values
or_nothing (Some values) = values

-- The values of a trait's attribute at a type or a variant, by the row of the place.
unfoldable pub read_place : Trait → Row → List Trait → List Attribute → Result Values Stop
read_place which row listed attributes = and_then (λ found. map_ok or_nothing (read_one which row found None)) (listed_metas listed attributes)

-- The settings of a trait at a type or a variant; none are set where the attributes are rejected.
unfoldable pub place_settings : Trait → Row → List Trait → List Attribute → Values
place_settings which row listed attributes = result_unwrap_or (read_place which row listed attributes) no_values

-- The values are those of the one meta of the trait; none are set where there is no such meta.
pub data IsSaid (which : Trait) (row : Row) (attributes : List Attribute) : Values → Type 0 where
  by_meta : (values : Values) → SaysThere which row attributes values → IsSaid which row attributes values
  by_none : IsUnsaid which attributes → IsSaid which row attributes no_values

-- The causes for which the attributes of a type or a variant are rejected for a trait: those of its lists, whatever the
-- trait; and, if the trait is listed, those of its metas.
abbrev pub OfPlace : Trait → Row → List Trait → List Attribute → Cause
OfPlace which row listed attributes = λ e. IsPlaceCause listed attributes e ⊎ ((is_listed listed which ≡ true) × IsSaidCause which row attributes e)

-- ---- fields

-- The other order, whose settings an order takes where it has no attribute of its own.
abbrev pub other_order : Trait → Option Trait
other_order PartialOrd = Some Ord
other_order Ord = Some PartialOrd
other_order _ = None

-- The other order, if both are listed.
abbrev pub if_both : Trait → List Trait → Option Trait → Option Trait
if_both which listed None = None
if_both which listed (Some other) = if is_listed listed which && is_listed listed other then Some other else None

-- The order whose settings an order takes if it has none, if both are listed.
abbrev pub fallback : Trait → List Trait → Option Trait
fallback which listed = if_both which listed (other_order which)

-- The settings that a field's own attribute sets.
abbrev pub own_settings : Values → FieldSettings
own_settings values = record { values = values; method_returns_ordering = false }

-- The settings that an order takes from the other: `PartialOrd` takes the method, which returns an `Ordering`; `Ord`
-- takes none.
abbrev pub taken : Trait → Values → FieldSettings
taken PartialOrd values = record { values = values; method_returns_ordering = is_some values.method }
taken _ values = own_settings (record values { method = None })

-- The settings of an own attribute, or what is taken from the other order.
abbrev pub or_taken : Trait → Option Values → FieldSettings
or_taken which None = own_settings no_values
or_taken which (Some values) = taken which values

-- The settings taken from the metas of the other order, if there is one.
abbrev pub read_other : Trait → Row → List Meta → Option Trait → Result FieldSettings Stop
read_other which row found None = Ok (own_settings no_values)
read_other which row found (Some other) = map_ok (or_taken which) (read_one other row found None)

-- The settings of the trait's own values, or else those taken from the other order.
abbrev pub or_other : Trait → Row → List Trait → List Meta → Option Values → Result FieldSettings Stop
or_other which row listed found (Some values) = Ok (own_settings values)
or_other which row listed found None = read_other which row found (fallback which listed)

-- The settings of a trait at a field, by the metas of the field.
abbrev pub read_among : Trait → Row → List Trait → List Meta → Result FieldSettings Stop
read_among which row listed found = and_then (or_other which row listed found) (read_one which row found None)

-- The settings that the attributes of a field set for a trait, by the row of the place.
unfoldable pub read_field : Trait → Row → List Trait → List Attribute → Result FieldSettings Stop
read_field which row listed attributes = and_then (read_among which row listed) (listed_metas listed attributes)

-- The settings of a trait at a field; none are set where the attributes are rejected.
unfoldable pub field_settings : Trait → Row → List Trait → List Attribute → FieldSettings
field_settings which row listed attributes = result_unwrap_or (read_field which row listed attributes) (own_settings no_values)

-- The settings are those of the one meta of the trait; else those taken from the one meta of the other order, if both
-- are listed; else none are set.
pub data IsFieldSaid (which : Trait) (row : Row) (listed : List Trait) (attributes : List Attribute) : FieldSettings → Type 0 where
  own_said : (values : Values) → SaysThere which row attributes values → IsFieldSaid which row listed attributes (own_settings values)
  other_said : (other : Trait) (values : Values) → fallback which listed ≡ Some other → IsUnsaid which attributes → SaysThere other row attributes values
      → IsFieldSaid which row listed attributes (taken which values)
  none_said : IsUnsaid which attributes → ((other : Trait) → fallback which listed ≡ Some other → IsUnsaid other attributes)
      → IsFieldSaid which row listed attributes (own_settings no_values)

-- The causes for which what a field's attributes say of a trait is rejected: those of its own metas, if it is listed;
-- or, where there are none, those of the other order's, if both are listed.
pub data IsFieldCause (which : Trait) (row : Row) (listed : List Trait) (attributes : List Attribute) : EduceError → Type 0 where
  own_meta : {e : EduceError} → is_listed listed which ≡ true → IsSaidCause which row attributes e → IsFieldCause which row listed attributes e
  other_meta : {e : EduceError} (other : Trait) → fallback which listed ≡ Some other → IsUnsaid which attributes → IsSaidCause other row attributes e
      → IsFieldCause which row listed attributes e

-- The causes for which the attributes of a field are rejected for a trait.
abbrev pub OfField : Trait → Row → List Trait → List Attribute → Cause
OfField which row listed attributes = λ e. IsPlaceCause listed attributes e ⊎ IsFieldCause which row listed attributes e
