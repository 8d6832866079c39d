use Rattle.educe_settings.proofs.Earliest.{EarliestBefore}
use Rattle.educe_settings.proofs.ranks.repeat_at.Given as goal

abbrev pub invariant-loop-i : goal.invariant-loop-i
invariant-loop-i l = EarliestBefore l.sorted l.i l.found
