use Rattle.std.proofs.Common.{take}
use Rattle.educe_make_debug.specs.Cases.{AreVariantCases}
use Rattle.educe_settings_types.specs.Read.{AreVariantsRead}
use Rattle.educe_make_debug.proofs.debug_cases.variant_cases.Given as goal

abbrev pub invariant-loop-variant : goal.invariant-loop-variant
invariant-loop-variant l = record {
  are : AreVariantCases l.task.ast.now (take l.variant-index l.variants) l.cases;
  read : AreVariantsRead l.task.ast.now (take l.variant-index l.variants);
}
