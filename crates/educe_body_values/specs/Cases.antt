-- What is built of fields: a struct, or a variant of an enum (Rust Reference, Struct expressions).
use Rattle.std.specs.Prelude.{ℕ, ◌+◌, ◌^◌, nat_lt, List, [], ◌∷◌, Option, Some, None, if◌then◌else◌}
use Rattle.std.specs.Str.{bytes_eq}
use Rattle.educe_tree.specs.declared.data.Field.{Field}
use Rattle.educe_tree.specs.declared.data.Variant.{Variant}
use Rattle.educe_tree.specs.declared.derive.DeriveInput.{DeriveInput}
use Rattle.educe_tree.specs.declared.derive.Shape.{Shape}
use Rattle.educe_tree.specs.declared.derive.Shape.TheVariants.{Struct, Enum}
use Rattle.educe_tree.specs.declared.ident.Ident.{Ident}

-- The variant at a place, with its fields; a value has a place below 2^32.
abbrev pub case_at : ℕ → List Field → Option (ℕ × List Field)
case_at place fields = if nat_lt place (2 ^ 32) then Some (place, fields) else None

-- The first variant of this name, of those that begin at a place.
abbrev pub variant_named : ℕ → List Variant → List ℕ → Option (ℕ × List Field)
variant_named place [] name = None
variant_named place (v ∷ vs) name = if bytes_eq v.ident.text name then case_at place v.fields.fields else variant_named (place + 1) vs name

-- The fields of a struct, or with a name those of the enum's variant, and the place of that.
abbrev pub case_of_shape : Shape → Option Ident → Option (ℕ × List Field)
case_of_shape (Struct shape) None = Some (0, shape.fields)
case_of_shape (Struct shape) (Some name) = None
case_of_shape (Enum variants) None = None
case_of_shape (Enum variants) (Some name) = variant_named 0 variants name.text

-- What is built of a definition: `Self`, or with a name a variant.
abbrev pub case_named : DeriveInput → Option Ident → Option (ℕ × List Field)
case_named definition name = case_of_shape definition.shape name
