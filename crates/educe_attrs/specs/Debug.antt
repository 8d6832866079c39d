-- The attributes of `Debug` at a type, a variant or a field (documentation of `educe`, Debug).
use Rattle.std.specs.Prelude.{◌≡◌, Bool, true, false, not, if◌then◌else◌, Option, Some, None, unwrap_or}
use Rattle.educe_attrs_values.specs.declared.choices.IdentOrBool.{IdentOrBool}
use Rattle.educe_attrs_values.specs.declared.choices.IdentOrBool.TheVariants as said
use Rattle.educe_attrs_rows.specs.declared.row.Row.{Row}
use Rattle.educe_attrs_rows.specs.Rows.{empty_row}
use Rattle.educe_attrs_rows.specs.declared.row.Equals.{Equals}
use Rattle.educe_attrs_rows.specs.declared.row.Equals.TheVariants as equals
use Rattle.educe_attrs_rows.specs.declared.row.NameKind.TheVariants as kind
use Rattle.educe_attrs_places.specs.declared.place.FieldSettings.{FieldSettings}
use Rattle.educe_attrs.specs.declared.debug.TypeName.{TypeName}
use Rattle.educe_attrs.specs.declared.debug.TypeName.TheVariants as type_name
use Rattle.educe_attrs.specs.declared.debug.FieldName.{FieldName}
use Rattle.educe_attrs.specs.declared.debug.FieldName.TheVariants as field_name
use Rattle.educe_attrs.specs.declared.debug.TypeAttribute.{TypeAttribute}
use Rattle.educe_attrs.specs.declared.debug.TypeAttributeBuilder.{TypeAttributeBuilder}
use Rattle.educe_attrs.specs.declared.debug.FieldAttribute.{FieldAttribute}
use Rattle.educe_attrs.specs.declared.debug.FieldAttributeBuilder.{FieldAttributeBuilder}
use Rattle.educe_attrs.specs.Bounds.{bound_of}

-- ---- types and variants

-- No name is shown.
abbrev pub is_disabled : TypeName → Bool
is_disabled type_name.Disable = true
is_disabled type_name.Default = false
is_disabled (type_name.Custom name) = false

-- The name that is set: `true` means the own name, `false` none; without one, the given name.
abbrev pub type_name_of : TypeName → Option IdentOrBool → TypeName
type_name_of own None = own
type_name_of own (Some (said.Ident name)) = type_name.Custom name
type_name_of own (Some (said.Bool true)) = type_name.Default
type_name_of own (Some (said.Bool false)) = type_name.Disable

-- The row that allows the trait alone, a name, also after `=`, `named_field` and `bound`; its usage lines show what
-- changes the builder's own.
abbrev pub type_row : TypeAttributeBuilder → Row
type_row builder = record empty_row {
  flag = builder.enable_flag;
  equals = if builder.enable_name then equals.Ident else equals.Nothing;
  name = if builder.enable_name then Some (kind.Name (is_disabled builder.name)) else None;
  named_field = if builder.enable_named_field then Some (not builder.named_field) else None;
  bound = builder.enable_bound;
}

-- The attribute of a type or a variant, of these settings.
abbrev pub type_attribute : TypeAttributeBuilder → FieldSettings → TypeAttribute
type_attribute builder settings = record {
  name = type_name_of builder.name settings.values.name;
  named_field = unwrap_or settings.values.named_field builder.named_field;
  bound = bound_of settings.values.bound;
}

-- The attribute of a type or a variant is the one of these settings.
abbrev pub IsTyped : TypeAttributeBuilder → FieldSettings → TypeAttribute → Type 0
IsTyped builder settings attribute = attribute ≡ type_attribute builder settings

-- ---- fields

-- The name that is set; without one, the given name.
abbrev pub field_name_of : FieldName → Option IdentOrBool → FieldName
field_name_of own None = own
field_name_of own (Some (said.Ident name)) = field_name.Custom name
field_name_of own (Some (said.Bool b)) = own

-- What may stand after `=`: a name, where one is shown, and whether the field is kept, where it may be ignored.
abbrev pub field_equals : Bool → Bool → Equals
field_equals true true = equals.Name
field_equals true false = equals.Ident
field_equals false true = equals.Truth
field_equals false false = equals.Nothing

-- The row that allows a name and `ignore`, both also after `=`, and `method`.
abbrev pub field_row : FieldAttributeBuilder → Row
field_row builder = record empty_row {
  equals = field_equals builder.enable_name builder.enable_ignore;
  name = if builder.enable_name then Some kind.Ident else None;
  ignore = builder.enable_ignore;
  method = builder.enable_method;
}

-- The attribute of a field, of these settings.
abbrev pub field_attribute : FieldAttributeBuilder → FieldSettings → FieldAttribute
field_attribute builder settings = record {
  name = field_name_of builder.name settings.values.name;
  ignore = unwrap_or settings.values.ignore false;
  method = settings.values.method;
}

-- The attribute of a field is the one of these settings.
abbrev pub IsField : FieldAttributeBuilder → FieldSettings → FieldAttribute → Type 0
IsField builder settings attribute = attribute ≡ field_attribute builder settings
