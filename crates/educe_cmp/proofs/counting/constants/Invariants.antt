use Rattle.educe_cmp.proofs.Counted.{IsCounted}
use Rattle.educe_cmp.proofs.counting.constants.Given as goal

abbrev pub invariant-loop-variant : goal.invariant-loop-variant
invariant-loop-variant l = IsCounted l.ty l.base.text l.variants l.variant-index l.value l.steps l.found
