-- The rejections of attributes that their row does not allow.
use Rattle.std.specs.Prelude.{[], ◌∷◌, encode_utf8_all}
use Rattle.educe_tokens.specs.declared.error.EduceError.{EduceError}
use Rattle.educe_tokens.specs.declared.error.Kind.TheVariants.{AttributeIncorrectPlace, AttributeIncorrectFormat, ParameterReset}
use Rattle.educe_syntax.specs.MetaPath.{MetaPath}
use Rattle.educe_attrs_values.specs.Refusals.{refusal, at_name}
use Rattle.educe_attrs_values.specs.Words.{place_of, text_of}
use Rattle.educe_attrs_rows.specs.declared.row.Row.{Row}
use Rattle.educe_attrs_rows.specs.Usage.{with_usage}

-- The rejection of a trait's attribute where no form of it is allowed.
abbrev pub incorrect_place : MetaPath → EduceError
incorrect_place path = at_name AttributeIncorrectPlace path

-- The rejection of a parameter that is given twice.
abbrev pub parameter_reset : MetaPath → EduceError
parameter_reset path = at_name ParameterReset path

-- The rejection of a form that is not in the row; the words list the forms of the row.
abbrev pub incorrect_format : Row → MetaPath → EduceError
incorrect_format row path =
    refusal AttributeIncorrectFormat (place_of path.written.tokens) (with_usage (text_of path ∷ []) (encode_utf8_all (text_of path)) row)
