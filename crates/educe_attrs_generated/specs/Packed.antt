-- Whether a type is packed (Rust Reference, The alignment modifiers).
use Rattle.std.specs.Prelude.{Bool, false, IsTrue, List, codes}
use Rattle.std.specs.List.{list_any}
use Rattle.educe_syntax.specs.Attribute.{Attribute}
use Rattle.educe_syntax.specs.Meta.{Meta}
use Rattle.educe_syntax.specs.Meta.TheVariants as said
use Rattle.educe_syntax.specs.MetaPath.{MetaPath}
use Rattle.educe_bound_traits.specs.OneWord.{is_one_word}
use Rattle.educe_attrs_generated.specs.Represented.{AreHeld}

-- The path is `packed`.
abbrev pub is_packed_path : MetaPath → Bool
is_packed_path path = is_one_word (codes "packed") path.written.tokens

-- The meta has the path `packed`, as `packed` and `packed(2)` do.
abbrev pub says_packed : Meta → Bool
says_packed (said.Word path) = is_packed_path path
says_packed (said.List path tokens place) = is_packed_path path
says_packed (said.NameValue path value place) = is_packed_path path
says_packed (said.Doc t) = false
says_packed (said.Unread path tokens place) = is_packed_path path

-- One of the metas in the `repr` lists has the path `packed`.
pub record IsPacked (attributes : List Attribute) : Type 0 where
  pub held : List Meta
  pub are_held : AreHeld attributes held
  pub says : IsTrue (list_any says_packed held)
