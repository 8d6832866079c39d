-- The attributes of generated items (Rust Reference, Lint check attributes; the `automatically_derived` attribute).
use Rattle.std.specs.Prelude.{Bool, ◌||◌, if◌then◌else◌, List, [], ◌++◌, codes}
use Rattle.std.specs.List.{flat_map}
use Rattle.educe_tokens.specs.declared.token.Token.{Token}
use Rattle.educe_tokens.specs.declared.written.Written.{Written}
use Rattle.educe_tokens.specs.Copied.{copied, may_be_copied}
use Rattle.educe_tokens.specs.Lexes.{Lexeme, lexemes}
use Rattle.educe_tokens.specs.Quote.{quoted}
use Rattle.educe_tokens.specs.WrittenLexemes.{written_lexemes}
use Rattle.educe_syntax.specs.Attribute.{Attribute}
use Rattle.educe_syntax.specs.Meta.{Meta}
use Rattle.educe_syntax.specs.Meta.TheVariants as said
use Rattle.educe_syntax.specs.MetaPath.{MetaPath}
use Rattle.educe_attrs_values.specs.Sources.{inside}
use Rattle.educe_bound_traits.specs.OneWord.{is_one_word}

-- ---- one attribute

-- The path is `allow`, `warn` or `deny`, which set the level of lints.
abbrev pub sets_level : MetaPath → Bool
sets_level path = is_one_word (codes "allow") path.written.tokens || is_one_word (codes "warn") path.written.tokens || is_one_word (codes "deny") path.written.tokens

-- The path is `expect`.
abbrev pub expects : MetaPath → Bool
expects path = is_one_word (codes "expect") path.written.tokens

-- The tokens of an attribute, given its path and what follows it.
abbrev pub attribute : MetaPath → List Lexeme → List Lexeme
attribute path behind = quoted (codes "# [") ++ (written_lexemes path.written ++ (behind ++ quoted (codes "]")))

-- The tokens of `#[allow(..)]` for these lints.
abbrev pub allowing : List Lexeme → List Lexeme
allowing lints = quoted (codes "# [ allow (") ++ (copied lints ++ quoted (codes ") ]"))

-- The tokens of `#[allow(..)]` for the content of a bracket pair; none unless the brackets in it close in order.
abbrev pub allowed : List Token → List Lexeme
allowed tokens = if may_be_copied (lexemes (inside tokens)) then allowing (lexemes (inside tokens)) else []

-- The lint attribute that a list of the type becomes.
abbrev pub lint_of_list : MetaPath → Written → List Lexeme
lint_of_list path list =
    if sets_level path then attribute path (written_lexemes list) else
    if expects path then allowed list.tokens else []

-- The lint attribute that an attribute of the type becomes: one that sets a level stays as it was written; an `expect`
-- list becomes `allow`, since generated code need not cause the expected warning.
abbrev pub lint_of : Meta → List Lexeme
lint_of (said.Word path) = if sets_level path then attribute path [] else []
lint_of (said.List path list place) = lint_of_list path list
lint_of (said.NameValue path value place) = if sets_level path then attribute path (quoted (codes "=") ++ written_lexemes value.written) else []
lint_of (said.Doc t) = []
lint_of (said.Unread path behind place) = if sets_level path then attribute path (written_lexemes behind) else []

-- ---- attributes of items

-- The lint attributes of the type, in order.
abbrev pub lints : List Attribute → List Lexeme
lints attributes = flat_map (λ (a : Attribute). lint_of a.meta) attributes

-- The attributes of an impl: `#[automatically_derived]`, and the lint attributes of the type.
abbrev pub impl_attributes : List Attribute → List Lexeme
impl_attributes attributes = quoted (codes "# [ automatically_derived ]") ++ lints attributes
