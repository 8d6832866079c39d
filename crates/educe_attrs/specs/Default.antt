-- The attributes of `Default` at a type, a variant or a field (documentation of `educe`, Default).
use Rattle.std.specs.Prelude.{◌≡◌, false, if◌then◌else◌, Option, Some, None, unwrap_or}
use Rattle.educe_syntax.specs.Expr.{Expr}
use Rattle.educe_syntax.specs.Ty.{Ty}
use Rattle.educe_attrs_generated.specs.Adjusted as value
use Rattle.educe_attrs_rows.specs.declared.row.Row.{Row}
use Rattle.educe_attrs_rows.specs.Rows.{empty_row}
use Rattle.educe_attrs_rows.specs.declared.row.Equals.TheVariants as equals
use Rattle.educe_attrs_rows.specs.declared.values.Values.{Values}
use Rattle.educe_attrs_places.specs.declared.place.FieldSettings.{FieldSettings}
use Rattle.educe_attrs.specs.declared.default.TypeAttribute.{TypeAttribute}
use Rattle.educe_attrs.specs.declared.default.TypeAttributeBuilder.{TypeAttributeBuilder}
use Rattle.educe_attrs.specs.declared.default.FieldAttribute.{FieldAttribute}
use Rattle.educe_attrs.specs.declared.default.FieldAttributeBuilder.{FieldAttributeBuilder}
use Rattle.educe_attrs.specs.Bounds.{bound_of}

-- The second value is the first as it is written for a field of the type; where there is no first, there is no second.
abbrev pub IsAdjusted : Option Expr → Option Ty → Option Expr → Type 0
IsAdjusted None ty None = Unit {0}
IsAdjusted None ty (Some x) = ⊥
IsAdjusted (Some said) ty None = ⊥
IsAdjusted (Some said) ty (Some x) = value.IsAdjusted said ty x

-- ---- types and variants

-- The row that allows the trait alone, `new`, `expression` and `bound`.
abbrev pub type_row : TypeAttributeBuilder → Row
type_row builder = record empty_row {
  flag = builder.enable_flag;
  new = builder.enable_new;
  expression = builder.enable_expression;
  bound = builder.enable_bound;
}

-- The attribute of a type or a variant, of these settings.
pub record IsTyped (settings : FieldSettings) (attribute : TypeAttribute) : Type 0 where
  pub flag : attribute.flag ≡ settings.values.flag
  pub new : attribute.new ≡ unwrap_or settings.values.new false
  pub expression : IsAdjusted settings.values.expression None attribute.expression
  pub bound : attribute.bound ≡ bound_of settings.values.bound
  pub span : attribute.span ≡ settings.values.span

-- ---- fields

-- The row that allows the trait alone, and the value, also after `=`.
abbrev pub field_row : FieldAttributeBuilder → Row
field_row builder = record empty_row {
  flag = builder.enable_flag;
  equals = if builder.enable_expression then equals.Expr else equals.Nothing;
  expression = builder.enable_expression;
}

-- The attribute of a field of the type, of these values.
pub record IsField (ty : Ty) (values : Values) (attribute : FieldAttribute) : Type 0 where
  pub flag : attribute.flag ≡ values.flag
  pub expression : IsAdjusted values.expression (Some ty) attribute.expression
  pub span : attribute.span ≡ values.span
