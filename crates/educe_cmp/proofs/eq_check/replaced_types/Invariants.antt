use Rattle.std.proofs.Common.{take}
use Rattle.std.specs.Borrow.{Bor}
use Rattle.std.specs.List.{AllZip}
use Rattle.educe_syntax.specs.Ty.{Ty}
use Rattle.educe_syntax_self.specs.Visits.{IsVisitedType}
use Rattle.educe_cmp.proofs.eq_check.replaced_types.Given as goal

abbrev pub invariant-loop-own : goal.invariant-loop-own
invariant-loop-own l = AllZip (λ (t : Bor Ty) (new : Ty). IsVisitedType l.replace.head t.now new) (take l.own-index l.own-items) l.found
