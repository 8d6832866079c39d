-- The attributes of fields that allow no form.
use Rattle.std.specs.Prelude.{◌≡◌, ◌⊎◌, Some}
use Rattle.educe_tokens.specs.declared.error.EduceError.{EduceError}
use Rattle.educe_tokens.specs.declared.error.Kind.TheVariants.{Alloc}
use Rattle.educe_tokens.specs.Refusals.{placeless}
use Rattle.educe_syntax.specs.Meta.{Meta}
use Rattle.educe_syntax.specs.MetaPath.{MetaPath}
use Rattle.educe_attrs_values.specs.Words.{path_of}
use Rattle.educe_attrs_rows.specs.Refusals.{incorrect_place}
use Rattle.educe_attrs_rows.specs.declared.row.Row.{Row}
use Rattle.educe_attrs_rows.specs.Rows.{empty_row}
use Rattle.educe_attrs_places.specs.declared.place.FieldSettings.{FieldSettings}
use Rattle.educe_attrs.specs.declared.no_field.FieldAttribute.{FieldAttribute}

-- The row that allows no form.
abbrev pub no_row : Row
no_row = empty_row

-- The attribute of a field that allows no form: there is only one.
abbrev pub IsOfNothing : FieldSettings → FieldAttribute → Type 0
IsOfNothing settings attribute = Unit {0}

-- The error rejects the place of the meta, or is out of memory.
abbrev pub IsOutOfPlace : Meta → EduceError → Type 0
IsOutOfPlace meta e = (e ≡ placeless Alloc) ⊎ ((name : MetaPath) × (path_of meta ≡ Some name) × (e ≡ incorrect_place name))
