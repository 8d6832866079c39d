use Rattle.std.proofs.Common.{take}
use Rattle.std.specs.List.{AllZip}
use Rattle.educe_syntax_self.specs.Visits.{IsVisitedParam}
use Rattle.educe_syntax_self.proofs.replace_self.ReplaceSelf.visit_params.Given as goal

abbrev pub invariant-loop-param : goal.invariant-loop-param
invariant-loop-param l = AllZip (IsVisitedParam l.self.head) (take l.param-index l.params) l.found
