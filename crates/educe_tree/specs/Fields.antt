-- The names of fields.
use Rattle.std.specs.Prelude.{ℕ, List, [], Some, None}
use Rattle.educe_tree.specs.declared.data.Field.{Field}

-- The name of a field as it was written, empty where it has none.
abbrev pub name_of : Field → List ℕ
name_of field = elim field.ident [ None ↦ [] | Some ident ↦ ident.text ]
