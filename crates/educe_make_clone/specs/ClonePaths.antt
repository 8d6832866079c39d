-- The functions of the core library that the functions of `Clone` call.
use Rattle.educe_body_values.specs.BuiltIn.{IsBuiltIn}
use Rattle.educe_body_values.specs.declared.callee.BuiltIn.TheVariants.{Clone, CloneFrom}
use Rattle.educe_make_clone.specs.declared.clone_paths.ClonePaths.{ClonePaths}

-- The paths are those of `Clone::clone` and of `Clone::clone_from`.
pub record AreClonePaths (paths : ClonePaths) : Type 0 where
  pub clone_is : IsBuiltIn Clone paths.clone
  pub clone_from_is : IsBuiltIn CloneFrom paths.clone_from
