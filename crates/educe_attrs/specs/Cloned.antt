-- The attributes of `Clone` at a field.
use Rattle.std.specs.Prelude.{◌≡◌, Bool}
use Rattle.educe_attrs_rows.specs.declared.row.Row.{Row}
use Rattle.educe_attrs_rows.specs.Rows.{empty_row}
use Rattle.educe_attrs_places.specs.declared.place.FieldSettings.{FieldSettings}
use Rattle.educe_attrs.specs.declared.clone.FieldAttribute.{FieldAttribute}

-- The row that allows `method`.
abbrev pub clone_row : Bool → Row
clone_row method = record empty_row { method = method }

-- The attribute of a field, of these settings.
abbrev pub clone_attribute : FieldSettings → FieldAttribute
clone_attribute settings = record { method = settings.values.method }

-- The attribute is the one of these settings.
abbrev pub IsCloned : FieldSettings → FieldAttribute → Type 0
IsCloned settings attribute = attribute ≡ clone_attribute settings
