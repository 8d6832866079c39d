-- The attributes of fields that are compared or hashed (documentation of `educe`, PartialEq; PartialOrd; Ord; Hash).
use Rattle.std.specs.Prelude.{◌≡◌, ℤ, Bool, false, if◌then◌else◌, Option, Some, None, unwrap_or}
use Rattle.educe_tokens.specs.declared.span.Span.{Span}
use Rattle.educe_attrs_rows.specs.declared.row.Row.{Row}
use Rattle.educe_attrs_rows.specs.Rows.{empty_row}
use Rattle.educe_attrs_rows.specs.declared.row.Equals.TheVariants.{Nothing, Truth}
use Rattle.educe_attrs_rows.specs.declared.values.Rank.{Rank}
use Rattle.educe_attrs_places.specs.declared.place.FieldSettings.{FieldSettings}
use Rattle.educe_attrs.specs.declared.compared.FieldAttribute.{FieldAttribute}

-- The row that allows `ignore`, also as a truth value after `=`, `method`, `rank` and `reverse`.
abbrev pub compared_row : Bool → Bool → Bool → Bool → Row
compared_row ignore method rank reverse = record empty_row {
  equals = if ignore then Truth else Nothing;
  ignore = ignore;
  method = method;
  rank = rank;
  reverse = reverse;
}

-- The attribute of a field without a rank, of these settings.
abbrev pub compared_attribute : FieldSettings → FieldAttribute
compared_attribute settings = record { ignore = unwrap_or settings.values.ignore false; method = settings.values.method }

-- The attribute is the one of these settings.
abbrev pub IsCompared : FieldSettings → FieldAttribute → Type 0
IsCompared settings attribute = attribute ≡ compared_attribute settings

-- The given rank, or else the builder's own.
abbrev pub number_of : Option Rank → ℤ → ℤ
number_of None own = own
number_of (Some rank) own = rank.number

-- The place of the given rank.
abbrev pub place_of : Option Rank → Option Span
place_of None = None
place_of (Some rank) = Some rank.span
