use Rattle.std.proofs.Common.{◌≡◌, map, take}
use Rattle.std.specs.List.{AllByRecursion}
use Rattle.educe_attrs.specs.Causes.{NoCause}
use Rattle.educe_settings.specs.CaseSettings.{settings_in}
use Rattle.educe_settings.specs.Cases.{fields_in}
use Rattle.educe_settings.specs.Handled.{OfVariant}
use Rattle.educe_settings.proofs.cases.settings_of_variants.Given as goal

abbrev pub invariant-loop-variant : goal.invariant-loop-variant
invariant-loop-variant l = record {
  are : l.all ≡ settings_in l.task.trait_ l.task.ast.now (map fields_in (take l.variant-index l.variants));
  uncaused : AllByRecursion (λ variant. NoCause (OfVariant l.task.trait_ l.task.ast.now variant)) (take l.variant-index l.variants);
}
