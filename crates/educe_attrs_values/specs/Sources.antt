-- The tokens of a parameter's value.
use Rattle.std.specs.Prelude.{◌-◌, true, false, List, [], ◌∷◌, length, take, drop, Option, Some, None}
use Rattle.educe_tokens.specs.declared.span.Span.{Span}
use Rattle.educe_tokens.specs.declared.token.Token.{Token}
use Rattle.educe_syntax.specs.Meta.{Meta}
use Rattle.educe_syntax.specs.Meta.TheVariants as said
use Rattle.educe_attrs_values.specs.declared.source.Source.{Source}
use Rattle.educe_attrs_values.specs.Words.{place_of}

-- The tokens without the first and the last.
abbrev pub inside : List Token → List Token
inside tokens = take (length tokens - 2) (drop 1 tokens)

-- The tokens of the value, after `=` or in brackets; none where the meta has neither.
abbrev pub value_source : Meta → Option Source
value_source (said.Word path) = None
value_source (said.List path tokens place) = Some (record { tokens = inside tokens.tokens; enclosed = true })
value_source (said.NameValue path value place) = Some (record { tokens = value.written.tokens; enclosed = false })
value_source (said.Doc t) = None
value_source (said.Unread path tokens place) = None

-- The first tokens, or the second where the first are none.
abbrev pub or_else : List Token → List Token → List Token
or_else others [] = others
or_else others (t ∷ ts) = t ∷ ts

-- The tokens at which a wrong value in brackets is reported: its own, or the empty brackets.
abbrev pub shown : List Token → List Token
shown tokens = or_else tokens (inside tokens)

-- The place at which a wrong value is reported.
abbrev pub value_place : Meta → Span
value_place (said.Word path) = record { start = 0; end = 0 }
value_place (said.List path tokens place) = place_of (shown tokens.tokens)
value_place (said.NameValue path value place) = place_of value.written.tokens
value_place (said.Doc t) = record { start = 0; end = 0 }
value_place (said.Unread path tokens place) = record { start = 0; end = 0 }
