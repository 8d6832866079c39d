use Rattle.std.proofs.Common.{take}
use Rattle.educe_syntax.proofs.Seen.{Seen}
use Rattle.educe_syntax.proofs.duplicate_names.first_repeat.Given as goal

abbrev pub invariant-loop-name : goal.invariant-loop-name
invariant-loop-name l = Seen l.seen (take l.name-index l.names)
