-- What an attribute says, by the row of its place, computed.
use Rattle.std.specs.Prelude.{if◌then◌else◌, List, [], ◌∷◌, Option, Some, None, Result, Ok, Err}
use Rattle.educe_tokens.specs.declared.span.Span.{Span}
use Rattle.educe_tokens.specs.declared.token.Token.{Token}
use Rattle.educe_syntax.specs.Meta.{Meta}
use Rattle.educe_syntax.specs.Meta.TheVariants as said
use Rattle.educe_syntax.specs.MetaPath.{MetaPath}
use Rattle.educe_attrs_values.specs.declared.stop.Stop.{Stop}
use Rattle.educe_attrs_values.specs.declared.stop.Stop.TheVariants.{Memory, Refused}
use Rattle.educe_attrs_values.specs.Chains.{and_then}
use Rattle.educe_attrs_values.specs.Words.{path_of, place_of}
use Rattle.educe_attrs_rows.specs.declared.param.Param.{Param}
use Rattle.educe_attrs_rows.specs.declared.row.Row.{Row}
use Rattle.educe_attrs_rows.specs.declared.values.Values.{Values}
use Rattle.educe_attrs_rows.specs.Metas.{metas_in}
use Rattle.educe_attrs_rows.specs.Refusals.{incorrect_place, incorrect_format, parameter_reset}
use Rattle.educe_attrs_rows.specs.Rows.{param_of, is_empty}
use Rattle.educe_attrs_rows.specs.Settings.{values_at, bare_values, has, with_param, Behind, behind, said_behind}

-- ---- the list

-- The values with the parameter that the meta gives, if the row allows it and it is not set yet.
abbrev pub add_param : Row → MetaPath → MetaPath → Meta → Values → Option Param → Result Values Stop
add_param row name path meta values None = Err (Refused (incorrect_format row name))
add_param row name path meta values (Some p) = if has p values then Err (Refused (parameter_reset path)) else with_param row p path meta values

-- The values with the parameter that the path of the meta names; a meta without a path is a wrong form.
abbrev pub add_named : Row → MetaPath → Meta → Values → Option MetaPath → Result Values Stop
add_named row name meta values None = Err (Refused (incorrect_format row name))
add_named row name meta values (Some path) = add_param row name path meta values (param_of row path)

-- The values after one more meta of the list.
abbrev pub next_param : Row → MetaPath → Meta → Values → Result Values Stop
next_param row name meta values = add_named row name meta values (path_of meta)

-- The values after the metas of the list, one by one.
abbrev pub read_params : Row → MetaPath → List Meta → Values → Result Values Stop
read_params row name [] values = Ok values
read_params row name (m ∷ ms) values = and_then (read_params row name ms) (next_param row name m values)

-- ---- the meta

-- The values of the trait alone or of an empty list, if the row allows that.
abbrev pub read_bare : Row → MetaPath → Span → Result Values Stop
read_bare row name place = if row.flag then Ok (bare_values place) else Err (Refused (incorrect_format row name))

-- The values of the trait alone, whose span is that of its path.
abbrev pub read_word : Row → MetaPath → Result Values Stop
read_word row path = read_bare row path (place_of path.written.tokens)

-- The values of the value after `=`, if the row allows one.
abbrev pub equals_as : Row → MetaPath → Meta → Option Behind → Result Values Stop
equals_as row name meta None = Err (Refused (incorrect_format row name))
equals_as row name meta (Some b) = said_behind b name meta

-- What a value behind `=` says, by the row.
abbrev pub read_equals : Row → MetaPath → Meta → Result Values Stop
read_equals row name meta = equals_as row name meta (behind row.equals)

-- The values of the metas of a list.
abbrev pub read_metas : Row → MetaPath → Span → List Meta → Result Values Stop
read_metas row name place [] = read_bare row name place
read_metas row name place (m ∷ ms) = read_params row name (m ∷ ms) (values_at place)

-- The values of a list, given its bracket pair.
abbrev pub read_list : Row → MetaPath → List Token → Span → Result Values Stop
read_list row name tokens place = and_then (read_metas row name place) (metas_in tokens)

-- The values, if any form may stand at the place.
abbrev pub placed : Row → MetaPath → Result Values Stop → Result Values Stop
placed row name form = if is_empty row then Err (Refused (incorrect_place name)) else form

-- The values of an attribute, by the row of its place.
abbrev pub read_meta : Row → Meta → Result Values Stop
read_meta row (said.Word path) = placed row path (read_word row path)
read_meta row (said.List path tokens place) = placed row path (read_list row path tokens.tokens place)
read_meta row (said.NameValue path value place) = placed row path (read_equals row path (said.NameValue path value place))
read_meta row (said.Doc t) = Err Memory
read_meta row (said.Unread path tokens place) = Err Memory
