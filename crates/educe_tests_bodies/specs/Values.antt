-- Values of structs whose fields have one type.
use Rattle.std.specs.Prelude.{ℤ}
use Rattle.educe_body_values.specs.declared.value.FieldValue.{FieldValue}

-- The value of this number, of a field of the first type.
abbrev pub numbered : ℤ → FieldValue
numbered number = record { ty = 0; number = number }
