use Rattle.std.proofs.Common.{take}
use Rattle.std.specs.List.{AllZip, AllByRecursion}
use Rattle.educe_attrs.specs.Causes.{NoCause}
use Rattle.educe_meaning.specs.Arms.{IsArm}
use Rattle.educe_settings.specs.Handled.{OfVariant}
use Rattle.educe_cmp.specs.Names.{names_of}
use Rattle.educe_cmp.proofs.cases.variant_arms.Given as goal

abbrev pub invariant-loop-variant : goal.invariant-loop-variant
invariant-loop-variant l = record {
  arms : AllZip (IsArm l.which l.task.ast.now (names_of l.names)) (take l.variant-index l.variants) l.arms;
  uncaused : AllByRecursion (λ variant. NoCause (OfVariant l.task.trait_ l.task.ast.now variant)) (take l.variant-index l.variants);
}
