-- The values that an attribute of a trait sets.
use Rattle.std.specs.Prelude.{ℤ, Bool, true, false, not, Option, Some, None, is_some, Result}
use Rattle.educe_tokens.specs.declared.span.Span.{Span}
use Rattle.educe_syntax.specs.Expr.{Expr}
use Rattle.educe_syntax.specs.ExprPath.{ExprPath}
use Rattle.educe_syntax.specs.Meta.{Meta}
use Rattle.educe_syntax.specs.MetaPath.{MetaPath}
use Rattle.educe_attrs_values.specs.declared.kind.ValueKind.{ValueKind}
use Rattle.educe_attrs_values.specs.declared.kind.ValueKind.TheVariants as value
use Rattle.educe_attrs_values.specs.declared.choices.IdentOrBool.{IdentOrBool}
use Rattle.educe_attrs_values.specs.declared.choices.IdentOrBool.TheVariants as shown
use Rattle.educe_attrs_values.specs.declared.choices.WherePredicatesOrBool.{WherePredicatesOrBool}
use Rattle.educe_attrs_values.specs.declared.stop.Stop.{Stop}
use Rattle.educe_attrs_values.specs.Chains.{map_ok}
use Rattle.educe_attrs_values.specs.Kinds.{ValueOf}
use Rattle.educe_attrs_values.specs.Readings.{value_of}
use Rattle.educe_attrs_values.specs.Words.{meta_place}
use Rattle.educe_attrs_rows.specs.declared.param.Param.{Param}
use Rattle.educe_attrs_rows.specs.declared.param.Param.TheVariants.{Name, NamedField, New, Expression, Ignore, Method, Rank, Reverse, Bound}
use Rattle.educe_attrs_rows.specs.declared.row.Equals.{Equals}
use Rattle.educe_attrs_rows.specs.declared.row.Equals.TheVariants as equals
use Rattle.educe_attrs_rows.specs.declared.row.NameKind.{NameKind}
use Rattle.educe_attrs_rows.specs.declared.row.NameKind.TheVariants as named
use Rattle.educe_attrs_rows.specs.declared.row.Row.{Row}
use Rattle.educe_attrs_rows.specs.declared.values.Rank.{Rank as Ranked}
use Rattle.educe_attrs_rows.specs.declared.values.Values.{Values}

-- ---- values of attributes

-- The values of an attribute with this span, none of which is set yet.
abbrev pub values_at : Span → Values
values_at place = record {
  name = None;
  named_field = None;
  new = None;
  expression = None;
  ignore = None;
  method = None;
  rank = None;
  reverse = None;
  bound = None;
  flag = false;
  span = place;
}

-- The values where there is no attribute.
abbrev pub no_values : Values
no_values = values_at (record { start = 0; end = 0 })

-- The values of the trait alone or of an empty list.
abbrev pub bare_values : Span → Values
bare_values place = record (values_at place) { flag = true }

-- The type of the value that a parameter gives.
abbrev pub Given : Param → Type 0
Given Name = IdentOrBool
Given NamedField = Bool
Given New = Bool
Given Expression = Expr
Given Ignore = Bool
Given Method = ExprPath
Given Rank = Ranked
Given Reverse = Bool
Given Bound = WherePredicatesOrBool

-- The setting of a parameter, if it is given.
abbrev pub given : (p : Param) → Values → Option (Given p)
given Name values = values.name
given NamedField values = values.named_field
given New values = values.new
given Expression values = values.expression
given Ignore values = values.ignore
given Method values = values.method
given Rank values = values.rank
given Reverse values = values.reverse
given Bound values = values.bound

-- The values with this one set for the parameter.
abbrev pub set : (p : Param) → Given p → Values → Values
set Name x values = record values { name = Some x }
set NamedField b values = record values { named_field = Some b }
set New b values = record values { new = Some b }
set Expression x values = record values { expression = Some x }
set Ignore b values = record values { ignore = Some b }
set Method x values = record values { method = Some x }
set Rank rank values = record values { rank = Some rank }
set Reverse b values = record values { reverse = Some b }
set Bound x values = record values { bound = Some x }

-- The parameter has a value.
abbrev pub has : Param → Values → Bool
has p values = is_some (given p values)

-- ---- values of parameters

-- The kind of the value of `name`.
abbrev pub name_kind : Option NameKind → ValueKind
name_kind None = value.Name
name_kind (Some named.Ident) = value.Ident
name_kind (Some (named.Name b)) = value.Name

-- The name or truth value that a value of `name` is.
abbrev pub name_as : (kind : Option NameKind) → ValueOf (name_kind kind) → IdentOrBool
name_as None x = x
name_as (Some named.Ident) ident = shown.Ident ident
name_as (Some (named.Name b)) x = x

-- The kind of a parameter's value, by the row.
abbrev pub kind_of : Row → Param → ValueKind
kind_of row Name = name_kind row.name
kind_of row NamedField = value.Truth
kind_of row New = value.Flag
kind_of row Expression = value.Expr
kind_of row Ignore = value.Flag
kind_of row Method = value.Path
kind_of row Rank = value.Integer
kind_of row Reverse = value.Flag
kind_of row Bound = value.Bound

-- The rank with the place of the parameter that gives it.
abbrev pub ranked : Meta → ℤ → Ranked
ranked meta n = record { number = n; span = meta_place meta }

-- What a parameter gives, computed from its value.
abbrev pub given_as : (row : Row) (p : Param) → Meta → ValueOf (kind_of row p) → Given p
given_as row Name meta x = name_as row.name x
given_as row NamedField meta b = b
given_as row New meta b = b
given_as row Expression meta x = x
given_as row Ignore meta b = b
given_as row Method meta x = x
given_as row Rank meta n = ranked meta n
given_as row Reverse meta b = b
given_as row Bound meta x = x

-- What a meta gives as this parameter, or its rejection.
abbrev pub give : (row : Row) (p : Param) → MetaPath → Meta → Result (Given p) Stop
give row p path meta = map_ok (given_as row p meta) (value_of (kind_of row p) path meta)

-- What the parameter `name` gives.
abbrev pub name_by : Option NameKind → MetaPath → Meta → Result IdentOrBool Stop
name_by None path meta = value_of value.Name path meta
name_by (Some named.Ident) path meta = map_ok shown.Ident (value_of value.Ident path meta)
name_by (Some (named.Name b)) path meta = value_of value.Name path meta

-- What the parameter `rank` gives.
abbrev pub rank_of : MetaPath → Meta → Result Ranked Stop
rank_of path meta = map_ok (ranked meta) (value_of value.Integer path meta)

-- ---- values with one more parameter set

-- The settings with a name.
abbrev pub with_name : Option NameKind → MetaPath → Meta → Values → Result Values Stop
with_name kind path meta values = map_ok (λ x. record values { name = Some x }) (name_by kind path meta)

-- The settings with `named_field`.
abbrev pub with_named_field : MetaPath → Meta → Values → Result Values Stop
with_named_field path meta values = map_ok (λ b. record values { named_field = Some b }) (value_of value.Truth path meta)

-- The settings with `new`.
abbrev pub with_new : MetaPath → Meta → Values → Result Values Stop
with_new path meta values = map_ok (λ b. record values { new = Some b }) (value_of value.Flag path meta)

-- The settings with a default value.
abbrev pub with_expression : MetaPath → Meta → Values → Result Values Stop
with_expression path meta values = map_ok (λ x. record values { expression = Some x }) (value_of value.Expr path meta)

-- The settings with `ignore`.
abbrev pub with_ignore : MetaPath → Meta → Values → Result Values Stop
with_ignore path meta values = map_ok (λ b. record values { ignore = Some b }) (value_of value.Flag path meta)

-- The settings with a method.
abbrev pub with_method : MetaPath → Meta → Values → Result Values Stop
with_method path meta values = map_ok (λ x. record values { method = Some x }) (value_of value.Path path meta)

-- The settings with a rank.
abbrev pub with_rank : MetaPath → Meta → Values → Result Values Stop
with_rank path meta values = map_ok (λ rank. record values { rank = Some rank }) (rank_of path meta)

-- The settings with `reverse`.
abbrev pub with_reverse : MetaPath → Meta → Values → Result Values Stop
with_reverse path meta values = map_ok (λ b. record values { reverse = Some b }) (value_of value.Flag path meta)

-- The settings with a bound.
abbrev pub with_bound : MetaPath → Meta → Values → Result Values Stop
with_bound path meta values = map_ok (λ x. record values { bound = Some x }) (value_of value.Bound path meta)

-- The settings with what this meta gives of the parameter.
abbrev pub with_param : Row → Param → MetaPath → Meta → Values → Result Values Stop
with_param row Name path meta values = with_name row.name path meta values
with_param row NamedField path meta values = with_named_field path meta values
with_param row New path meta values = with_new path meta values
with_param row Expression path meta values = with_expression path meta values
with_param row Ignore path meta values = with_ignore path meta values
with_param row Method path meta values = with_method path meta values
with_param row Rank path meta values = with_rank path meta values
with_param row Reverse path meta values = with_reverse path meta values
with_param row Bound path meta values = with_bound path meta values

-- ---- the value after `=`

-- A value that may stand after `=`: its kind, and the values that it sets.
pub record Behind : Type 0 where
  pub kind : ValueKind
  pub says : ValueOf kind → Values → Values

-- The values with the field kept or ignored.
abbrev pub with_kept : Bool → Values → Values
with_kept kept values = record values { ignore = Some (not kept) }

-- The values with the shown name set, or with the field kept or ignored.
abbrev pub with_shown_or_kept : IdentOrBool → Values → Values
with_shown_or_kept (shown.Ident ident) values = record values { name = Some (shown.Ident ident) }
with_shown_or_kept (shown.Bool kept) values = with_kept kept values

-- The value after `=` that says whether the field is kept.
abbrev pub kept : Behind
kept = record { kind = value.Truth; says = with_kept }

-- The value after `=` that is the shown name.
abbrev pub shown_name : Behind
shown_name = record { kind = value.Ident; says = λ ident values. record values { name = Some (shown.Ident ident) } }

-- The value after `=` that is the shown name, or says whether the field is kept.
abbrev pub shown_or_kept : Behind
shown_or_kept = record { kind = value.Name; says = with_shown_or_kept }

-- The value after `=` that is the default value.
abbrev pub default_value : Behind
default_value = record { kind = value.Expr; says = λ x values. record values { expression = Some x } }

-- The value that may stand after `=`, if one may.
abbrev pub behind : Equals → Option Behind
behind equals.Nothing = None
behind equals.Truth = Some kept
behind equals.Ident = Some shown_name
behind equals.Name = Some shown_or_kept
behind equals.Expr = Some default_value

-- The values that the value after `=` sets, or its rejection.
abbrev pub said_behind : Behind → MetaPath → Meta → Result Values Stop
said_behind b name meta = map_ok (λ x. b.says x (values_at (meta_place meta))) (value_of b.kind name meta)
