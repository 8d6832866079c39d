use Rattle.educe_names.proofs.Marks.{IsMarked}
use Rattle.educe_names.proofs.fewest.mark.Given as goal

abbrev pub invariant-loop-k : goal.invariant-loop-k
invariant-loop-k l = IsMarked l.how l.word l.name l.rest l.k l.fn.taken l.taken
