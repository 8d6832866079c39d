-- The attributes of types that allow only `bound` (documentation of `educe`, Generic parameters bound to the trait).
use Rattle.std.specs.Prelude.{◌≡◌, Bool, Option, Some, None}
use Rattle.educe_bound.specs.declared.bound.Bound.{Bound}
use Rattle.educe_bound.specs.Bounds as value
use Rattle.educe_bound.specs.declared.bound.Bound.TheVariants.{Auto}
use Rattle.educe_attrs_values.specs.declared.choices.WherePredicatesOrBool.{WherePredicatesOrBool}
use Rattle.educe_attrs_rows.specs.declared.row.Row.{Row}
use Rattle.educe_attrs_rows.specs.Rows.{empty_row}
use Rattle.educe_attrs_places.specs.declared.place.FieldSettings.{FieldSettings}
use Rattle.educe_attrs.specs.declared.bound_only.TypeAttribute.{TypeAttribute}

-- The row that allows the trait alone and `bound`.
abbrev pub bound_row : Bool → Bool → Row
bound_row flag bound = record empty_row { flag = flag; bound = bound }

-- The bound that is set; else the bounds that the trait needs.
abbrev pub bound_of : Option WherePredicatesOrBool → Bound
bound_of None = Auto
bound_of (Some said) = value.bound_of said

-- The attribute of a type that allows only `bound`, of these settings.
abbrev pub bound_attribute : FieldSettings → TypeAttribute
bound_attribute settings = record { bound = bound_of settings.values.bound }

-- The attribute is the one of these settings.
abbrev pub IsBound : FieldSettings → TypeAttribute → Type 0
IsBound settings attribute = attribute ≡ bound_attribute settings
