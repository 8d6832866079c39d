use Rattle.std.proofs.Common.{◌≡◌, ◌≤◌, count_by, take}
use Rattle.educe_core.specs.Sample.{is_impl}
use Rattle.educe_core.proofs.sample.impl_count.Given as goal

abbrev pub invariant-loop-item : goal.invariant-loop-item
invariant-loop-item l = (l.count ≡ count_by is_impl (take l.item-index l.items)) × (l.count ≤ l.item-index)
