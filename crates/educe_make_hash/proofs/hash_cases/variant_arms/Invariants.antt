use Rattle.std.proofs.Common.{take}
use Rattle.std.specs.List.{AllByRecursion}
use Rattle.educe_attrs.specs.Causes.{NoCause}
use Rattle.educe_meaning.specs.Arms.{AreArms}
use Rattle.educe_settings.specs.Handled.{OfVariant}
use Rattle.educe_meaning.specs.HashBodies.{IsHashArm}
use Rattle.educe_make_hash.specs.HashNames.{names_of}
use Rattle.educe_make_hash.proofs.hash_cases.variant_arms.Given as goal

abbrev pub invariant-loop-place : goal.invariant-loop-place
invariant-loop-place l = record {
  arms : AreArms (IsHashArm l.task.ast.now (names_of l.names)) 0 (take l.place l.variants) l.arms;
  uncaused : AllByRecursion (λ variant. NoCause (OfVariant l.task.trait_ l.task.ast.now variant)) (take l.place l.variants);
}
