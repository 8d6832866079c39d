use Rattle.std.proofs.Common.{◌≡◌, take}
use Rattle.educe_tests_bodies.proofs.values.table.Given as goal

abbrev pub invariant-loop-row : goal.invariant-loop-row
invariant-loop-row l = l.found ≡ take l.row-index l.rows
