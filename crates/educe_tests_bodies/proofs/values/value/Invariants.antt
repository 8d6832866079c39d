use Rattle.std.proofs.Common.{◌≡◌, map, take}
use Rattle.educe_tests_bodies.specs.Values.{numbered}
use Rattle.educe_tests_bodies.proofs.values.value.Given as goal

abbrev pub invariant-loop-number : goal.invariant-loop-number
invariant-loop-number l = l.fields ≡ map numbered (take l.number-index l.numbers)
