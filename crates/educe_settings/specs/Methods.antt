-- Which fields have methods.
use Rattle.std.specs.Prelude.{Bool, not, is_none}
use Rattle.educe_attrs.specs.FieldSettings.{FieldSettings}

-- A field with these settings has a method.
abbrev pub has_method : FieldSettings → Bool
has_method settings = not (is_none settings.values.method)
