-- Which attributes are documentation (Rust Reference, Doc comments).
use Rattle.std.specs.Prelude.{Bool, true, false}
use Rattle.educe_syntax.specs.Attribute.{Attribute}
use Rattle.educe_syntax.specs.Meta.{Meta}
use Rattle.educe_syntax.specs.Meta.TheVariants as said

-- The meta is a comment of documentation.
abbrev pub is_doc : Meta → Bool
is_doc (said.Word path) = false
is_doc (said.List path tokens place) = false
is_doc (said.NameValue path value place) = false
is_doc (said.Doc token) = true
is_doc (said.Unread path tokens place) = false

-- The attribute is a comment of documentation.
abbrev pub is_documentation : Attribute → Bool
is_documentation attribute = is_doc attribute.meta
