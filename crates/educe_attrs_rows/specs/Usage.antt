-- Usage lines: the forms that a row allows, as messages list them.
use Rattle.std.specs.Prelude.{ℕ, Bool, true, false, if◌then◌else◌, List, [], ◌∷◌, ◌++◌, codes, chars, Option, Some, None, is_some}
use Rattle.educe_attrs_rows.specs.declared.row.Row.{Row}
use Rattle.educe_attrs_rows.specs.declared.row.Equals.{Equals}
use Rattle.educe_attrs_rows.specs.declared.row.Equals.TheVariants as equals
use Rattle.educe_attrs_rows.specs.declared.row.NameKind.{NameKind}
use Rattle.educe_attrs_rows.specs.declared.row.NameKind.TheVariants as kind

-- A usage line: an attribute in full.
abbrev pub line : List ℕ → List ℕ → List ℕ
line name rest = chars (codes "#[educe(" ++ (name ++ (rest ++ codes ")]")))

-- The lines, followed by this one if the row allows its form.
abbrev pub with_line : List (List ℕ) → Bool → List ℕ → List ℕ → List (List ℕ)
with_line lines allowed name rest = if allowed then lines ++ line name rest ∷ [] else lines

-- ---- values after `=`

-- An identifier may stand after `=`.
abbrev pub takes_name : Equals → Bool
takes_name equals.Nothing = false
takes_name equals.Truth = false
takes_name equals.Ident = true
takes_name equals.Name = true
takes_name equals.Expr = false

-- An expression may stand after `=`.
abbrev pub takes_expression : Equals → Bool
takes_expression equals.Nothing = false
takes_expression equals.Truth = false
takes_expression equals.Ident = false
takes_expression equals.Name = false
takes_expression equals.Expr = true

-- A truth value may stand after `=`: whether the field is not ignored.
abbrev pub takes_truth : Equals → Bool
takes_truth equals.Nothing = false
takes_truth equals.Truth = true
takes_truth equals.Ident = false
takes_truth equals.Name = true
takes_truth equals.Expr = false

-- ---- truth values in usage lines

-- The lines show `false` as the value.
abbrev pub shows_false : Option Bool → Bool
shows_false None = false
shows_false (Some true) = false
shows_false (Some false) = true

-- The lines show `true` as the value.
abbrev pub shows_true : Option Bool → Bool
shows_true None = false
shows_true (Some true) = true
shows_true (Some false) = false

-- The truth value that the line for `name` shows, if there is one.
abbrev pub shown : Option NameKind → Option Bool
shown None = None
shown (Some kind.Ident) = None
shown (Some (kind.Name b)) = Some b

-- ---- the lines of a row

-- The lines, followed by those for the trait alone, and for a name and an expression after `=`.
abbrev pub with_heads : List (List ℕ) → List ℕ → Row → List (List ℕ)
with_heads lines name row =
    with_line (with_line (with_line lines row.flag name [])
    (takes_name row.equals) name (codes " = NewName"))
    (takes_expression row.equals) name (codes " = expr")

-- The lines, followed by those for `name` and `named_field`.
abbrev pub with_names : List (List ℕ) → List ℕ → Row → List (List ℕ)
with_names lines name row =
    with_line (with_line (with_line (with_line (with_line lines (is_some row.name) name (codes "(name(NewName))"))
    (shows_false (shown row.name)) name (codes "(name = false)"))
    (shows_true (shown row.name)) name (codes "(name = true)"))
    (shows_false row.named_field) name (codes "(named_field = false)"))
    (shows_true row.named_field) name (codes "(named_field = true)")

-- The lines, followed by those for a truth value after `=` and for the other parameters.
abbrev pub with_params : List (List ℕ) → List ℕ → Row → List (List ℕ)
with_params lines name row =
    with_line (with_line (with_line (with_line (with_line (with_line (with_line (with_line lines row.new name (codes "(new)"))
    row.expression name (codes "(expression = expr)"))
    (takes_truth row.equals) name (codes " = false"))
    row.ignore name (codes "(ignore)"))
    row.method name (codes "(method(path_to_method))"))
    row.rank name (codes "(rank = integer)"))
    row.reverse name (codes "(reverse)"))
    row.bound name (codes "(bound(where_predicates))")

-- The words, followed by a line for each form of the row.
abbrev pub with_usage : List (List ℕ) → List ℕ → Row → List (List ℕ)
with_usage words name row = with_line (with_params (with_names (with_heads words name row) name row) name row) row.bound name (codes "(bound = false)")
