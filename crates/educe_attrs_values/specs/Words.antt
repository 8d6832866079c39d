-- The words of truth values, and the names and places of metas.
use Rattle.std.specs.Prelude.{ℕ, ◌-◌, Bool, true, false, List, length, slice_get, codes, Option, Some, None}
use Rattle.std.specs.List.{flat_map}
use Rattle.educe_tokens.specs.declared.span.Span.{Span}
use Rattle.educe_tokens.specs.declared.token.Token.{Token}
use Rattle.educe_syntax.specs.Meta.{Meta}
use Rattle.educe_syntax.specs.Meta.TheVariants as said
use Rattle.educe_syntax.specs.MetaPath.{MetaPath}
use Rattle.educe_syntax.specs.Attributes.{between}

-- The word of a truth value.
abbrev pub truth_word : Bool → List ℕ
truth_word true = codes "true"
truth_word false = codes "false"

-- The span from the first of the tokens to the last.
abbrev pub place_of : List Token → Span
place_of tokens = between (slice_get tokens 0) (slice_get tokens (length tokens - 1))

-- The text of a path, without white space.
abbrev pub text_of : MetaPath → List ℕ
text_of path = flat_map (λ (t : Token). t.spelling) path.written.tokens

-- The path of a meta; documentation has none.
abbrev pub path_of : Meta → Option MetaPath
path_of (said.Word path) = Some path
path_of (said.List path tokens place) = Some path
path_of (said.NameValue path value place) = Some path
path_of (said.Doc t) = None
path_of (said.Unread path tokens place) = Some path

-- The span of a meta.
abbrev pub meta_place : Meta → Span
meta_place (said.Word path) = place_of path.written.tokens
meta_place (said.List path tokens place) = place
meta_place (said.NameValue path value place) = place
meta_place (said.Doc t) = t.span
meta_place (said.Unread path tokens place) = place
