use Rattle.std.proofs.Common.{◌≡◌, ◌++◌, take}
use Rattle.educe_body_values.proofs.value.with_values.Given as goal

abbrev pub invariant-loop-x : goal.invariant-loop-x
invariant-loop-x l = l.all ≡ l.fn.values ++ take l.x-index l.more
