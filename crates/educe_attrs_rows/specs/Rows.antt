-- Rows: the forms of a trait's attribute that a place allows.
use Rattle.std.specs.Prelude.{Bool, true, false, ◌&&◌, ◌||◌, not, Option, None, is_some, is_none, find}
use Rattle.educe_syntax.specs.MetaPath.{MetaPath}
use Rattle.educe_bound_traits.specs.OneWord.{is_one_word}
use Rattle.educe_attrs_rows.specs.declared.param.Param.{Param}
use Rattle.educe_attrs_rows.specs.declared.param.Param.TheVariants as param
use Rattle.educe_attrs_rows.specs.declared.row.Row.{Row}
use Rattle.educe_attrs_rows.specs.declared.row.Equals.{Equals}
use Rattle.educe_attrs_rows.specs.declared.row.Equals.TheVariants as equals
use Rattle.educe_attrs_rows.specs.Params.{all_params, word_of, alias_of}

-- The row that allows no form.
abbrev pub empty_row : Row
empty_row = record {
  flag = false;
  equals = equals.Nothing;
  name = None;
  named_field = None;
  new = false;
  expression = false;
  ignore = false;
  method = false;
  rank = false;
  reverse = false;
  bound = false;
}

-- The parameter is allowed in the list.
abbrev pub allows : Row → Param → Bool
allows row param.Name = is_some row.name
allows row param.NamedField = is_some row.named_field
allows row param.New = row.new
allows row param.Expression = row.expression
allows row param.Ignore = row.ignore
allows row param.Method = row.method
allows row param.Rank = row.rank
allows row param.Reverse = row.reverse
allows row param.Bound = row.bound

-- No value is allowed after `=`.
abbrev pub is_nothing : Equals → Bool
is_nothing equals.Nothing = true
is_nothing equals.Truth = false
is_nothing equals.Ident = false
is_nothing equals.Name = false
is_nothing equals.Expr = false

-- Neither `name` nor `named_field` is allowed in the list.
abbrev pub has_no_name : Row → Bool
has_no_name row = is_none row.name && is_none row.named_field

-- No parameter but `name` and `named_field` is allowed in the list.
abbrev pub has_no_param : Row → Bool
has_no_param row = not row.new && not row.expression && not row.ignore && not row.method && not row.rank && not row.reverse && not row.bound

-- No form is allowed at the place.
abbrev pub is_empty : Row → Bool
is_empty row = not row.flag && is_nothing row.equals && has_no_name row && has_no_param row

-- The path is a word of the parameter, and the row allows the parameter.
abbrev pub names : Row → MetaPath → Param → Bool
names row path p = allows row p && (is_one_word (word_of p) path.written.tokens || is_one_word (alias_of p) path.written.tokens)

-- The parameter of the row that the path names.
abbrev pub param_of : Row → MetaPath → Option Param
param_of row path = find (names row path) all_params
