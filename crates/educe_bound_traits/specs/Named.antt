-- The traits that paths name.
use Rattle.std.specs.Prelude.{Bool, find, Option}
use Rattle.educe_tree.specs.declared.attr.MetaPath.{MetaPath}
use Rattle.educe_bound_traits.specs.declared.traits.Trait.{Trait}
use Rattle.educe_bound_traits.specs.Traits.{text_of, variants}
use Rattle.educe_bound_traits.specs.OneWord.{is_one_word}

-- The path is the name of the trait, as it is spelled.
abbrev pub names_trait : MetaPath → Trait → Bool
names_trait path which = is_one_word (text_of which) path.written.tokens

-- The trait whose name the path is, if there is one.
abbrev pub trait_named : MetaPath → Option Trait
trait_named path = find (names_trait path) variants
