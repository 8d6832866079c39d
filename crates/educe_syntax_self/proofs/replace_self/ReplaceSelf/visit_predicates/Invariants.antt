use Rattle.std.proofs.Common.{take}
use Rattle.std.specs.List.{AllZip}
use Rattle.educe_syntax_self.specs.Visits.{IsVisitedPredicate}
use Rattle.educe_syntax_self.proofs.replace_self.ReplaceSelf.visit_predicates.Given as goal

abbrev pub invariant-loop-predicate : goal.invariant-loop-predicate
invariant-loop-predicate l = AllZip (IsVisitedPredicate l.self.head) (take l.predicate-index l.predicates) l.found
