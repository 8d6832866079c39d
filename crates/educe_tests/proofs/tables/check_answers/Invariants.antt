use Rattle.std.proofs.Common.{Ok, IsTrue, take}
use Rattle.std.specs.List.{AllByRecursion}
use Rattle.educe_tests.proofs.tables.check_answers.Given as goal

abbrev pub invariant-loop-input : goal.invariant-loop-input
invariant-loop-input g l =
    goal.F-IsAlwaysCallable g l.answer
    × AllByRecursion (λ row. (found : _) × goal.F-post g l.answer l.alloc row.0 (Ok found) × IsTrue (g.Answer.PartialEq.eq found row.1)) (take l.input-index l.table)
