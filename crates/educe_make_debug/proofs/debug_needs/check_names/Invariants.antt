use Rattle.std.proofs.Common.{◌≡◌, true, take}
use Rattle.std.specs.List.{AllByRecursion}
use Rattle.educe_make_debug.specs.Needs.{shows}
use Rattle.educe_make_debug.proofs.debug_needs.check_names.Given as goal

abbrev pub invariant-loop-case : goal.invariant-loop-case
invariant-loop-case l = AllByRecursion (λ case. shows case ≡ true) (take l.case-index l.case-items)
