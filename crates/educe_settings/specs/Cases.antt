-- The fields that a value of a definition can have: a struct is one case, an enum has one for each variant.
use Rattle.std.specs.Prelude.{Bool, true, false, not, ◌&&◌, ◌==◌, List, [], ◌∷◌, length, map}
use Rattle.educe_syntax.specs.Attribute.{Attribute}
use Rattle.educe_syntax.specs.DeriveInput.{DeriveInput}
use Rattle.educe_syntax.specs.Few.{variants_of, all_fields}
use Rattle.educe_syntax.specs.Field.{Field}
use Rattle.educe_syntax.specs.FieldForm.{FieldForm}
use Rattle.educe_syntax.specs.FieldForm.TheVariants.{Named, Unnamed, Unit as NoFields}
use Rattle.educe_syntax.specs.Shape.{Shape}
use Rattle.educe_syntax.specs.Shape.TheVariants.{Struct, Enum}
use Rattle.educe_syntax.specs.Variant.{Variant}

-- The shape is a struct, of any form.
abbrev pub is_struct : Shape → Bool
is_struct (Struct shape) = true
is_struct (Enum variants) = false

-- The shape is an enum.
abbrev pub is_enum : Shape → Bool
is_enum (Struct shape) = false
is_enum (Enum variants) = true

-- The fields of a variant, in written order.
abbrev pub fields_in : Variant → List Field
fields_in variant = variant.fields.fields

-- Whether a pattern of this form has brackets.
abbrev pub has_brackets : FieldForm → Bool
has_brackets Named = true
has_brackets Unnamed = true
has_brackets NoFields = false

-- Whether a variant has neither brackets nor fields.
abbrev pub is_unit : Variant → Bool
is_unit variant = not (has_brackets variant.fields.form) && (length (fields_in variant) == 0)

-- The fields of each case: those of a struct, or those of each variant of an enum.
abbrev pub shape_cases : Shape → List (List Field)
shape_cases (Struct shape) = shape.fields ∷ []
shape_cases (Enum variants) = map fields_in variants

-- The fields of each case of a definition, in written order.
abbrev pub cases_of : DeriveInput → List (List Field)
cases_of definition = shape_cases definition.shape

-- The attributes of each variant.
abbrev pub variant_attributes : DeriveInput → List (List Attribute)
variant_attributes definition = map (λ (v : Variant). v.attrs) (variants_of definition)

-- The attributes of each field, those of all variants together.
abbrev pub field_attributes : DeriveInput → List (List Attribute)
field_attributes definition = map (λ (f : Field). f.attrs) (all_fields definition)
