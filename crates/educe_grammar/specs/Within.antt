-- The tokens inside of attributes and discriminants: predicates on each of them, and the law that they are tokens of
-- the whole.
use Rattle.std.specs.Prelude.{◌≡◌, List, Option, Some, None}
use Rattle.std.specs.List.{AllByRecursion, Contains}
use Rattle.educe_tokens.specs.declared.token.Token.{Token}
use Rattle.educe_tree.specs.declared.attr.Attribute.{Attribute}
use Rattle.educe_tree.specs.declared.attr.Meta.{Meta}
use Rattle.educe_tree.specs.declared.attr.Meta.TheVariants as said
use Rattle.educe_tree.specs.declared.data.Field.{Field}
use Rattle.educe_tree.specs.declared.data.Variant.{Variant}
use Rattle.educe_tree.specs.declared.derive.DeriveInput.{DeriveInput}
use Rattle.educe_tree.specs.declared.derive.Shape.{Shape}
use Rattle.educe_tree.specs.declared.derive.Shape.TheVariants.{Struct, Enum}
use Rattle.educe_tree.specs.declared.expr.Expr.{Expr}
use Rattle.educe_tree.specs.declared.expr.ExprPath.{ExprPath}
use Rattle.educe_grammar.specs.Attributes as attributes
use Rattle.educe_grammar.specs.Definitions as definitions
use Rattle.educe_grammar.specs.Expressions as expressions
use Rattle.educe_grammar.specs.Parsed.{IsWhole}
use Rattle.educe_grammar.specs.Steps.{Tokens}

-- ---- predicates on each token

-- P holds of each token of the meta's list or value; nothing is said of its path, of documentation and of a value that
-- isn't parsed.
abbrev pub MetaWithin : (Token → Type 0) → Meta → Type 0
MetaWithin P (said.Word path) = Unit {0}
MetaWithin P (said.List path tokens place) = AllByRecursion P tokens.tokens
MetaWithin P (said.NameValue path value place) = AllByRecursion P value.written.tokens
MetaWithin P (said.Doc t) = Unit {0}
MetaWithin P (said.Unread path tokens place) = Unit {0}

-- P holds of the tokens of each attribute's list or value.
abbrev pub AttributesWithin : (Token → Type 0) → List Attribute → Type 0
AttributesWithin P attrs = AllByRecursion (λ (a : Attribute). MetaWithin P a.meta) attrs

-- P holds of the tokens in the attributes of the field.
abbrev pub FieldWithin : (Token → Type 0) → Field → Type 0
FieldWithin P field = AttributesWithin P field.attrs

-- P holds of the tokens of an explicit discriminant, if there is one.
abbrev pub WrittenWithin : (Token → Type 0) → Option Expr → Type 0
WrittenWithin P None = Unit {0}
WrittenWithin P (Some value) = AllByRecursion P value.written.tokens

-- P holds of the tokens in the attributes of the variant and of its fields, and in its discriminant.
abbrev pub VariantWithin : (Token → Type 0) → Variant → Type 0
VariantWithin P variant = AttributesWithin P variant.attrs × AllByRecursion (FieldWithin P) variant.fields.fields × WrittenWithin P variant.discriminant

-- P holds of the tokens in each field of a struct, or of each variant of an enum.
abbrev pub ShapeWithin : (Token → Type 0) → Shape → Type 0
ShapeWithin P (Struct shape) = AllByRecursion (FieldWithin P) shape.fields
ShapeWithin P (Enum variants) = AllByRecursion (VariantWithin P) variants

-- ---- laws of parts

-- The tokens of a part are tokens of the whole: in what is read as a definition, those of attributes and discriminants are tokens
-- of the definition; in metas that are read from a list, those of brackets and values are tokens of the list; and a definition
-- and a path keep exactly the tokens that they are read from.
pub record PartLaws : Type 0 where
  -- The tokens in the attributes of fields and variants, and in discriminants, are tokens of the definition.
  pub definition : (tokens : Tokens) (d : DeriveInput) → IsWhole definitions.definition tokens d → ShapeWithin (λ t. Contains tokens t) d.shape
  -- The tokens in the definition's own attributes are tokens of the definition.
  pub attrs : (tokens : Tokens) (d : DeriveInput) → IsWhole definitions.definition tokens d → AttributesWithin (λ t. Contains tokens t) d.attrs
  -- A definition keeps the tokens that it is parsed from.
  pub definition_tokens : (tokens : Tokens) (d : DeriveInput) → IsWhole definitions.definition tokens d → d.tokens ≡ tokens
  -- The tokens in metas that are parsed from tokens of a list are tokens of that list.
  pub metas : (all tokens : Tokens) (found : List Meta) → AllByRecursion (λ t. Contains all t) tokens → IsWhole attributes.metas tokens found
      → AllByRecursion (MetaWithin (λ t. Contains all t)) found
  -- A path keeps the tokens that it is parsed from.
  pub path : (tokens : Tokens) (path : ExprPath) → IsWhole expressions.expr_path tokens path → path.written.tokens ≡ tokens
