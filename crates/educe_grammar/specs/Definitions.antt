-- Definitions of structs and enums (Rust Reference, Structs; Enumerations; Visibility and privacy).
use Rattle.std.specs.Prelude.{List, [], ◌∷◌, Option, Some, None}
use Rattle.educe_tokens.specs.Bracket.TheVariants.{Round, Curly}
use Rattle.educe_tree.specs.declared.attr.Attribute.{Attribute}
use Rattle.educe_tree.specs.declared.data.Field.{Field}
use Rattle.educe_tree.specs.declared.data.FieldForm.TheVariants.{Named, Unnamed, Unit as UnitForm}
use Rattle.educe_tree.specs.declared.data.FieldShape.{FieldShape}
use Rattle.educe_tree.specs.declared.data.Variant.{Variant}
use Rattle.educe_tree.specs.declared.derive.DeriveInput.{DeriveInput}
use Rattle.educe_tree.specs.declared.derive.Shape.{Shape}
use Rattle.educe_tree.specs.declared.derive.Shape.TheVariants.{Struct, Enum}
use Rattle.educe_tree.specs.declared.expr.Expr.{Expr}
use Rattle.educe_tree.specs.declared.generics.GenericParam.{GenericParam}
use Rattle.educe_tree.specs.declared.generics.WherePredicate.{WherePredicate}
use Rattle.educe_tree.specs.declared.ident.Ident.{Ident}
use Rattle.educe_tree.specs.declared.ty.Ty.{Ty}
use Rattle.educe_grammar.specs.declared.terminal.Keyword.TheVariants as keyword
use Rattle.educe_grammar.specs.declared.terminal.Terminal.TheVariants as terminal
use Rattle.educe_grammar.specs.Steps.{Tokens}
use Rattle.educe_grammar.specs.Ahead.{one, start, stop, Look}
use Rattle.educe_grammar.specs.Rules.{Rule, token, empty, both, made, either, nest, sliced, part, types, exprs}
use Rattle.educe_grammar.specs.Combining.{at, at_sign, at_word, unit, skipping, leaving, optional, flag, sign, word, behind_colon, in_round, in_curly}
use Rattle.educe_grammar.specs.Names.{name, simple_path}
use Rattle.educe_grammar.specs.Generics.{generic_params, where_clause}
use Rattle.educe_grammar.specs.Attributes.{attributes, span_of}

-- ---- visibility

-- Rule for a path of names, as in `pub(in a::b)`.
unfoldable pub mod_path : Rule (Unit {0})
mod_path = unit (simple_path terminal.PathSegment)

-- Lookahead that distinguishes the scope of a visibility from a type in brackets.
abbrev pub at_scope : Look
at_scope = (start Round ∷ one terminal.Scope ∷ stop Round ∷ []) ∷ (start Round ∷ one (terminal.Word keyword.In) ∷ []) ∷ []

-- Rule for the scope of a visibility: `crate`, `self`, `super`, or `in` and a path.
unfoldable pub scope : Rule (Unit {0})
scope = either (at_word keyword.In) (unit (both (word keyword.In) mod_path)) (unit (token terminal.Scope))

-- Rule for an optional visibility.
unfoldable pub visibility : Rule (Unit {0})
visibility = unit (flag (at_word keyword.Pub) (both (word keyword.Pub) (flag at_scope (nest Round scope))))

-- ---- fields

-- The field of attributes, a name and a type.
abbrev pub named_field_of : (List Attribute × Ident × Ty) × Tokens → Field
named_field_of p = record { attrs = p.0.0; ident = Some p.0.1; ty = p.0.2; span = span_of p.1 }

-- These three as one triple.
abbrev pub flat : List Attribute × (Ident × Ty) → List Attribute × Ident × Ty
flat p = (p.0, p.1.0, p.1.1)

-- Rule for a field with a name.
unfoldable pub named_field : Rule Field
named_field = made named_field_of (sliced (made flat (both attributes (skipping visibility (both name (behind_colon (part types)))))))

-- The field of attributes and a type.
abbrev pub tuple_field_of : (List Attribute × Ty) × Tokens → Field
tuple_field_of p = record { attrs = p.0.0; ident = None; ty = p.0.1; span = span_of p.1 }

-- Rule for a field of a tuple struct or variant.
unfoldable pub tuple_field : Rule Field
tuple_field = made tuple_field_of (sliced (both attributes (skipping visibility (part types))))

-- Fields in curly brackets.
abbrev pub named_shape : List Field → FieldShape
named_shape found = record { form = Named; fields = found }

-- Fields in round brackets.
abbrev pub tuple_shape : List Field → FieldShape
tuple_shape found = record { form = Unnamed; fields = found }

-- No fields.
abbrev pub unit_shape : FieldShape
unit_shape = record { form = UnitForm; fields = [] }

-- Fields in curly brackets.
unfoldable pub named_fields : Rule FieldShape
named_fields = made named_shape (in_curly named_field)

-- Fields in round brackets.
unfoldable pub tuple_fields : Rule FieldShape
tuple_fields = made tuple_shape (in_round tuple_field)

-- ---- enums

-- The fields of a variant, in brackets of either form, or none.
unfoldable pub variant_fields : Rule FieldShape
variant_fields = either (at (start Curly)) named_fields (either (at (start Round)) tuple_fields (empty unit_shape))

-- The variant of its parts.
abbrev pub variant_of : (List Attribute × (Ident × (FieldShape × Option Expr))) × Tokens → Variant
variant_of p = record { attrs = p.0.0; ident = p.0.1.0; fields = p.0.1.1.0; discriminant = p.0.1.1.1; span = span_of p.1 }

-- Rule for a variant of an enum.
unfoldable pub variant : Rule Variant
variant = made variant_of (sliced (both attributes (both name (both variant_fields (optional (at_sign 61) (skipping (sign 61) (part exprs)))))))

-- ---- definitions

-- What follows the name and the parameters of a definition.
abbrev pub Body : Type 0
Body = Shape × List WherePredicate

-- The body of a struct: its fields and predicates.
abbrev pub struct_body_of : FieldShape × List WherePredicate → Body
struct_body_of p = (Struct p.0, p.1)

-- Two parts in the other order.
abbrev pub swapped : List WherePredicate × FieldShape → FieldShape × List WherePredicate
swapped p = (p.1, p.0)

-- Rule for the body of a struct.
unfoldable pub struct_body : Rule Body
struct_body = made struct_body_of
    (either (at (start Round)) (leaving (both tuple_fields where_clause) (sign 59))
    (made swapped (both where_clause (either (at (start Curly)) named_fields (made (λ _. unit_shape) (sign 59))))))

-- The body of an enum: its variants and predicates.
abbrev pub enum_body_of : List WherePredicate × List Variant → Body
enum_body_of p = (Enum p.1, p.0)

-- Rule for the body of an enum.
unfoldable pub enum_body : Rule Body
enum_body = made enum_body_of (both where_clause (in_curly variant))

-- A definition without its attributes and visibility: its name, parameters and body.
abbrev pub Item : Type 0
Item = Ident × (List GenericParam × Body)

-- A struct: its name, its parameters and its body.
unfoldable pub struct_item : Rule Item
struct_item = skipping (word keyword.Struct) (both name (both generic_params struct_body))

-- An enum: its name, its parameters and its body.
unfoldable pub enum_item : Rule Item
enum_item = skipping (word keyword.Enum) (both name (both generic_params enum_body))

-- The definition of attributes, a name, parameters and a body.
abbrev pub definition_of : (List Attribute × Item) × Tokens → DeriveInput
definition_of p = record {
  attrs = p.0.0;
  ident = p.0.1.0;
  generics = record { params = p.0.1.1.0; predicates = p.0.1.1.1.1 };
  shape = p.0.1.1.1.0;
  tokens = p.1;
}

-- Rule for a definition.
unfoldable pub definition : Rule DeriveInput
definition = made definition_of (sliced (both attributes (skipping visibility (either (at_word keyword.Enum) enum_item struct_item))))
