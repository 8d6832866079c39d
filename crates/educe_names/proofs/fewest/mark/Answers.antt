use Rattle.std.proofs.Common.{Bool, ◌<◌, length, ap, set, arith}
use Rattle.educe_names.proofs.Marks.{marked-more, marked-end}
use Rattle.educe_names.proofs.fewest.mark.Goals as goal

pub returns-in-None : goal.returns-in-None
returns-in-None c =
    let inside : c.loop-k.k < length c.loop-k.taken = omega arith in
    marked-end c.args.how c.args.word.now c.args.name.now c.loop-k.rest.now c.loop-k.k c.args.taken.now c.loop-k.taken _ inside c.loop-k.invariant
    (ap (λ (b : Bool). set c.loop-k.taken c.loop-k.k b) c.clashes_or.ensures) c.in-None.ensures.none

pub loop-k-preserved : goal.loop-k-preserved
loop-k-preserved c =
    let inside : c.loop-k.k < length c.loop-k.taken = omega arith in
    marked-more c.args.how c.args.word.now c.args.name.now c.loop-k.rest.now c.loop-k.k c.args.taken.now c.loop-k.taken _ inside c.loop-k.invariant
    (ap (λ (b : Bool). set c.loop-k.taken c.loop-k.k b) c.clashes_or.ensures) c.in-Some.more.now c.in-Some.ensures.some
