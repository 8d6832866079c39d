-- What each trait does with fields, and the forms of the attributes that it has at a type, at a variant and at a field.
use Rattle.std.specs.Prelude.{Bool, true, false}
use Rattle.educe_syntax.specs.DeriveInput.{DeriveInput}
use Rattle.educe_syntax.specs.FieldForm.{FieldForm}
use Rattle.educe_syntax.specs.FieldForm.TheVariants.{Named, Unnamed, Unit as NoFields}
use Rattle.educe_syntax.specs.Shape.{Shape}
use Rattle.educe_syntax.specs.Shape.TheVariants.{Struct, Enum}
use Rattle.educe_bound_traits.specs.declared.traits.Trait.{Trait}
use Rattle.educe_bound_traits.specs.declared.traits.Trait.TheVariants as trait
use Rattle.educe_attrs.specs.Row.{Row}
use Rattle.educe_attrs.specs.Bounds.{bound_row}
use Rattle.educe_attrs.specs.Cloned.{clone_row}
use Rattle.educe_attrs.specs.Compared.{compared_row}
use Rattle.educe_attrs.specs.Debug as debug
use Rattle.educe_attrs.specs.declared.debug.TypeName.{TypeName}
use Rattle.educe_attrs.specs.declared.debug.TypeName.TheVariants as type_name
use Rattle.educe_attrs.specs.Default as default

-- The trait is one of the two orders.
abbrev pub is_order : Trait → Bool
is_order trait.PartialOrd = true
is_order trait.Ord = true
is_order _ = false

-- What the trait allows at variants and at fields is the same in all definitions, so that its attributes are read field by field.
abbrev pub is_fieldwise : Trait → Bool
is_fieldwise trait.Clone = true
is_fieldwise trait.Copy = true
is_fieldwise trait.PartialEq = true
is_fieldwise trait.Eq = true
is_fieldwise trait.PartialOrd = true
is_fieldwise trait.Ord = true
is_fieldwise trait.Hash = true
is_fieldwise _ = false

-- The functions of the trait read fields, in a packed struct by copies: all but those of `Copy`, `Eq` and `Default`.
abbrev pub reads_fields : Trait → Bool
reads_fields trait.Copy = false
reads_fields trait.Eq = false
reads_fields trait.Default = false
reads_fields _ = true

-- Whether the names of the fields of a struct are shown, where nothing is said of that: in all but one with round brackets.
abbrev pub struct_names : FieldForm → Bool
struct_names Named = true
struct_names Unnamed = false
struct_names NoFields = true

-- Whether the names of the fields of a variant are shown, where nothing is said of that: where its fields have names.
abbrev pub variant_names : FieldForm → Bool
variant_names Named = true
variant_names Unnamed = false
variant_names NoFields = false

-- The name of the type that is shown, where nothing is said of that: of a struct its own, of an enum none.
abbrev pub own_type_name : Shape → TypeName
own_type_name (Struct shape) = type_name.Default
own_type_name (Enum variants) = type_name.Disable

-- The forms of the attribute of `Debug` at a type: the trait alone, a name, also behind `=`, and `bound`; and at a struct whether the
-- names of fields are shown.
abbrev pub debug_row : Shape → Row
debug_row (Struct shape) =
    debug.type_row (record { enable_flag = true; enable_name = true; enable_named_field = true; enable_bound = true; name = own_type_name (Struct shape); named_field = struct_names shape.form })
debug_row (Enum variants) =
    debug.type_row (record { enable_flag = true; enable_name = true; enable_named_field = false; enable_bound = true; name = own_type_name (Enum variants); named_field = false })

-- The forms of the attribute of a trait at a type: those of `Debug`; for any other trait the trait alone, and `bound`, and for `Default`
-- also `new` and a value.
abbrev pub type_row : Trait → DeriveInput → Row
type_row trait.Debug definition = debug_row definition.shape
type_row trait.Default definition = default.type_row (record { enable_flag = true; enable_new = true; enable_expression = true; enable_bound = true })
type_row _ definition = bound_row true true

-- At a variant of a trait that is read field by field nothing may be said.
abbrev pub variant_row : Trait → Row
variant_row which = bound_row false false

-- At a field of such a trait: `ignore` and `method`, for the orders also `rank` and `reverse`; for `Clone` `method` alone, for `Copy`
-- and `Eq` nothing.
abbrev pub field_row : Trait → Row
field_row trait.Clone = clone_row true
field_row trait.PartialEq = compared_row true true false false
field_row trait.PartialOrd = compared_row true true true true
field_row trait.Ord = compared_row true true true true
field_row trait.Hash = compared_row true true false false
field_row _ = bound_row false false
