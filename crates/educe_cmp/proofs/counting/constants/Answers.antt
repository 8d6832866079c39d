use Rattle.std.proofs.Common.{arith}
use Rattle.educe_cmp.proofs.Counted.{counted_next, counted_all}
use Rattle.educe_cmp.proofs.counting.constants.Goals as goal

pub loop-variant-preserved : goal.loop-variant-preserved
loop-variant-preserved c =
    counted_next c.args.ty c.args.base.now.text c.args.variants.now c.loop-variant.variant-index c.loop-variant.value c.loop-variant.steps _ c.variant-item.result c.loop-variant.found
    c.push.new.self _ _ _ c.loop-variant-test.true c.variant-item.is c.loop-variant.invariant c.in_ok-near.ensures.written c.in_ok-near.ensures.unwritten
    c.in_ok-push.ensures.ok c.in_ok-constant.ensures.value c.in_ok-constant.ensures.distance

pub returns : goal.returns
returns c =
    counted_all c.args.ty c.args.base.now.text c.args.variants.now c.loop-variant.variant-index c.loop-variant.value c.loop-variant.steps c.loop-variant.found
    (omega arith) c.loop-variant.invariant
