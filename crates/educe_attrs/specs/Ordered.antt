-- The attributes of `Ord` at a field.
use Rattle.std.specs.Prelude.{◌≡◌, ℤ, false, unwrap_or}
use Rattle.educe_attrs_places.specs.declared.place.FieldSettings.{FieldSettings}
use Rattle.educe_attrs.specs.declared.ord.FieldAttribute.{FieldAttribute}
use Rattle.educe_attrs.specs.Compared.{number_of, place_of}

-- The attribute of a field, of these settings; the number is its rank where none is given.
abbrev pub ordered_attribute : ℤ → FieldSettings → FieldAttribute
ordered_attribute rank settings = record {
  ignore = unwrap_or settings.values.ignore false;
  method = settings.values.method;
  rank = number_of settings.values.rank rank;
  rank_span = place_of settings.values.rank;
  reverse = unwrap_or settings.values.reverse false;
}

-- The attribute is the one of these settings, with the rank of the builder if none is given.
abbrev pub IsOrdered : ℤ → FieldSettings → FieldAttribute → Type 0
IsOrdered rank settings attribute = attribute ≡ ordered_attribute rank settings
