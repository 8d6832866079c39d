use Rattle.std.proofs.Common.{◌≡◌, ◌≤◌, count_by, take}
use Rattle.educe_bound_classes.specs.Classes.{is_plain}
use Rattle.educe_bound_classes.proofs.arguments.plain_count.Given as goal

abbrev pub invariant-loop-arg : goal.invariant-loop-arg
invariant-loop-arg l = (l.count ≡ count_by is_plain (take l.arg-index l.arg-items)) × (l.count ≤ l.arg-index)
