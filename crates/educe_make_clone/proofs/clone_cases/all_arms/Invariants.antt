use Rattle.std.proofs.Common.{take}
use Rattle.std.specs.List.{AllZip}
use Rattle.educe_meaning.specs.CloneBodies.{IsCloneArm, IsFromArm}
use Rattle.educe_make_clone.specs.CloneNames.{names_of}
use Rattle.educe_make_clone.proofs.clone_cases.all_arms.Given as goal

abbrev pub invariant-loop-place : goal.invariant-loop-place
invariant-loop-place l = record {
  own : AllZip (IsCloneArm l.task.ast.now (names_of l.names)) (take l.place l.variants) l.clone;
  from : AllZip (IsFromArm l.task.ast.now (names_of l.names)) (take l.place l.variants) l.clone_from;
}
