-- The blocks of `clone` and of `clone_from`.
use Rattle.educe_syntax.specs.DeriveInput.{DeriveInput}
use Rattle.educe_meaning.specs.CloneBodies.{CloneNames, IsCloneBlockFor, IsFromBlockFor}
use Rattle.educe_make_clone.specs.declared.clone_cases.CloneBlocks.{CloneBlocks}

-- The blocks of `clone` and of `clone_from` are those for the struct, or for the variants.
pub record AreBlocks (definition : DeriveInput) (names : CloneNames) (blocks : CloneBlocks) : Type 0 where
  pub clone_is : IsCloneBlockFor definition names definition.shape blocks.clone
  pub clone_from_is : IsFromBlockFor definition names definition.shape blocks.clone_from
