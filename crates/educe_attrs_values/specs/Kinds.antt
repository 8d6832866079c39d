-- The kinds of values, and the messages for missing and wrong values (documentation of `educe`, Traits).
use Rattle.std.specs.Prelude.{ℕ, ℤ, Bool, true, false, List, ◌++◌, codes, Option, Some, None}
use Rattle.educe_syntax.specs.Expr.{Expr}
use Rattle.educe_syntax.specs.ExprPath.{ExprPath}
use Rattle.educe_syntax.specs.Ident.{Ident}
use Rattle.educe_attrs_values.specs.declared.choices.IdentOrBool.{IdentOrBool}
use Rattle.educe_attrs_values.specs.declared.choices.WherePredicatesOrBool.{WherePredicatesOrBool}
use Rattle.educe_attrs_values.specs.declared.kind.ValueKind.{ValueKind}
use Rattle.educe_attrs_values.specs.declared.kind.ValueKind.TheVariants as kind

-- The type of the values of a kind.
abbrev pub ValueOf : ValueKind → Type 0
ValueOf kind.Ident = Ident
ValueOf kind.Name = IdentOrBool
ValueOf kind.Truth = Bool
ValueOf kind.Flag = Bool
ValueOf kind.Path = ExprPath
ValueOf kind.Integer = ℤ
ValueOf kind.Expr = Expr
ValueOf kind.Bound = WherePredicatesOrBool

-- The value that the parameter alone means, if the kind has one.
abbrev pub bare : (k : ValueKind) → Option (ValueOf k)
bare kind.Ident = None
bare kind.Name = None
bare kind.Truth = None
bare kind.Flag = Some true
bare kind.Path = None
bare kind.Integer = None
bare kind.Expr = None
bare kind.Bound = None

-- A string may stand for the value: its text is parsed as the value.
abbrev pub opens_strings : ValueKind → Bool
opens_strings kind.Ident = true
opens_strings kind.Name = true
opens_strings kind.Truth = false
opens_strings kind.Flag = false
opens_strings kind.Path = true
opens_strings kind.Integer = false
opens_strings kind.Expr = false
opens_strings kind.Bound = true

-- The sample of the kind that messages show.
abbrev pub sample : ValueKind → List ℕ
sample kind.Ident = codes "Ident"
sample kind.Name = codes "Ident"
sample kind.Truth = codes "false"
sample kind.Flag = codes "false"
sample kind.Path = codes "Path"
sample kind.Integer = codes "integer"
sample kind.Expr = codes "Expr"
sample kind.Bound = codes "false"

-- The message for a missing value, in bytes: it was expected after `=` or in brackets.
abbrev pub missing_one : List ℕ → List ℕ → List ℕ
missing_one name one = codes "expected `" ++ (name ++ (codes " = " ++ (one ++ (codes "` or `" ++ (name ++ (codes "(" ++ (one ++ codes ")`")))))))

-- The message for a missing value that is a name or `false`, in bytes.
abbrev pub missing_name : List ℕ → List ℕ
missing_name name =
    codes "expected `" ++ (name ++ (codes " = Ident`, `" ++ (name ++ (codes "(Ident)`, `" ++ (name ++ (codes " = false`, or `" ++ (name ++ codes "(false)`")))))))

-- The message for a missing value of the kind, in bytes.
abbrev pub missing_text : ValueKind → List ℕ → List ℕ
missing_text kind.Ident name = missing_one name (sample kind.Ident)
missing_text kind.Name name = missing_name name
missing_text kind.Truth name = missing_one name (sample kind.Truth)
missing_text kind.Flag name = missing_one name (sample kind.Flag)
missing_text kind.Path name = missing_one name (sample kind.Path)
missing_text kind.Integer name = missing_one name (sample kind.Integer)
missing_text kind.Expr name = missing_one name (sample kind.Expr)
missing_text kind.Bound name = codes "expected `bound = \"where_predicates\"`, `bound(where_predicates)`, `bound(*)`, `bound = false`, or `bound(false)`"

-- The message for a wrong value, in bytes: another was expected after `=`.
abbrev pub wrong_one : List ℕ → List ℕ → List ℕ
wrong_one name one = codes "expected `" ++ (name ++ (codes " = " ++ (one ++ codes "`")))

-- The message for a wrong value where a name or `false` was expected, in bytes.
abbrev pub wrong_name : List ℕ → List ℕ
wrong_name name = codes "expected `" ++ (name ++ (codes " = Ident` or `" ++ (name ++ codes " = false`")))

-- The message for a value that is not of the kind, in bytes.
abbrev pub wrong_text : ValueKind → List ℕ → List ℕ
wrong_text kind.Ident name = wrong_one name (sample kind.Ident)
wrong_text kind.Name name = wrong_name name
wrong_text kind.Truth name = wrong_one name (sample kind.Truth)
wrong_text kind.Flag name = wrong_one name (sample kind.Flag)
wrong_text kind.Path name = wrong_one name (sample kind.Path)
wrong_text kind.Integer name = wrong_one name (sample kind.Integer)
wrong_text kind.Expr name = wrong_one name (sample kind.Expr)
wrong_text kind.Bound name = codes "expected `bound = \"where_predicates\"` or `bound = false`"
