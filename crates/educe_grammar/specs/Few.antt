-- The numbers of parameters, variants and fields of a definition.
use Rattle.std.specs.Prelude.{ℕ, ◌≤◌, List, [], length}
use Rattle.std.specs.List.{flat_map}
use Rattle.educe_tree.specs.declared.data.Field.{Field}
use Rattle.educe_tree.specs.declared.data.Variant.{Variant}
use Rattle.educe_tree.specs.declared.derive.DeriveInput.{DeriveInput}
use Rattle.educe_tree.specs.declared.derive.Shape.{Shape}
use Rattle.educe_tree.specs.declared.derive.Shape.TheVariants.{Struct, Enum}

-- The variants of an enum; a struct has none.
abbrev pub shape_variants : Shape → List Variant
shape_variants (Struct shape) = []
shape_variants (Enum variants) = variants

-- The fields of a struct, or those of all variants of an enum in sequence.
abbrev pub shape_fields : Shape → List Field
shape_fields (Struct shape) = shape.fields
shape_fields (Enum variants) = flat_map (λ v. v.fields.fields) variants

-- The variants of a definition; a struct has none.
abbrev pub variants_of : DeriveInput → List Variant
variants_of definition = shape_variants definition.shape

-- The fields of a definition, of all variants together.
abbrev pub all_fields : DeriveInput → List Field
all_fields definition = shape_fields definition.shape

-- The definition has at most so many generic parameters, variants and fields.
pub record IsFew (count : ℕ) (definition : DeriveInput) : Type 0 where
  -- The generic parameters are at most `count`.
  pub params : length definition.generics.params ≤ count
  -- The variants are at most `count`.
  pub variants : length (variants_of definition) ≤ count
  -- The fields of all variants together are at most `count`.
  pub fields : length (all_fields definition) ≤ count
