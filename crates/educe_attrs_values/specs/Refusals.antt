-- The rejections of metas, with their places and words.
use Rattle.std.specs.Prelude.{ℕ, List, [], ◌∷◌, chars, encode_utf8_all}
use Rattle.educe_tokens.specs.declared.error.EduceError.{EduceError}
use Rattle.educe_tokens.specs.declared.error.Kind.{Kind}
use Rattle.educe_tokens.specs.declared.error.Kind.TheVariants.{ExpectedValue, NotCarried, Alloc}
use Rattle.educe_tokens.specs.declared.span.Span.{Span}
use Rattle.educe_tokens.specs.Refusals.{placeless}
use Rattle.educe_syntax.specs.MetaPath.{MetaPath}
use Rattle.educe_attrs_values.specs.declared.kind.ValueKind.{ValueKind}
use Rattle.educe_attrs_values.specs.declared.stop.Stop.{Stop}
use Rattle.educe_attrs_values.specs.declared.stop.Stop.TheVariants.{Memory, Refused}
use Rattle.educe_attrs_values.specs.Kinds.{missing_text, wrong_text}
use Rattle.educe_attrs_values.specs.Words.{place_of, text_of}

-- An error of a kind, with its place and words.
abbrev pub refusal : Kind → Span → List (List ℕ) → EduceError
refusal kind place words = record { kind = kind; span = place; words = words }

-- The rejection at the name of a meta, which is the word.
abbrev pub at_name : Kind → MetaPath → EduceError
at_name kind path = refusal kind (place_of path.written.tokens) (text_of path ∷ [])

-- The rejection of a value at this place, with this message.
abbrev pub expected : Span → List ℕ → EduceError
expected place text = refusal ExpectedValue place (text ∷ [])

-- The rejection of a parameter whose value is missing.
abbrev pub missing : ValueKind → MetaPath → EduceError
missing k path = expected (place_of path.written.tokens) (chars (missing_text k (encode_utf8_all (text_of path))))

-- The rejection of a value at this place that is not of the kind.
abbrev pub wrong : ValueKind → MetaPath → Span → EduceError
wrong k path place = expected place (chars (wrong_text k (encode_utf8_all (text_of path))))

-- The rejection of the string at this place, whose text has an unsupported literal with these words.
abbrev pub not_carried : Span → List (List ℕ) → EduceError
not_carried place words = refusal NotCarried place words

-- The error of a stop: its rejection, or the error for out of memory.
abbrev pub error_of : Stop → EduceError
error_of Memory = placeless Alloc
error_of (Refused e) = e
