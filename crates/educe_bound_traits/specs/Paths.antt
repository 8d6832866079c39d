-- The paths of the traits, as generated code writes them.
use Rattle.std.specs.Prelude.{ℕ, List, codes}
use Rattle.educe_bound_traits.specs.declared.traits.Trait.{Trait}
use Rattle.educe_bound_traits.specs.declared.traits.Trait.TheVariants as trait

-- The path of the trait, as generated code writes it.
abbrev pub trait_path : Trait → List ℕ
trait_path trait.Debug = codes ":: core :: fmt :: Debug"
trait_path trait.Clone = codes ":: core :: clone :: Clone"
trait_path trait.Copy = codes ":: core :: marker :: Copy"
trait_path trait.PartialEq = codes ":: core :: cmp :: PartialEq"
trait_path trait.Eq = codes ":: core :: cmp :: Eq"
trait_path trait.PartialOrd = codes ":: core :: cmp :: PartialOrd"
trait_path trait.Ord = codes ":: core :: cmp :: Ord"
trait_path trait.Hash = codes ":: core :: hash :: Hash"
trait_path trait.Default = codes ":: core :: default :: Default"
