-- Metas that have a name.
use Rattle.educe_syntax.specs.Meta.{Meta}
use Rattle.educe_syntax.specs.Meta.TheVariants as said

-- The meta has a name: it is a path alone, a list, or a path with a value.
abbrev pub IsNamed : Meta → Type 0
IsNamed (said.Word path) = Unit {0}
IsNamed (said.List path tokens place) = Unit {0}
IsNamed (said.NameValue path value place) = Unit {0}
IsNamed (said.Doc t) = ⊥
IsNamed (said.Unread path tokens place) = ⊥
