use Rattle.std.proofs.Common.{◌≡◌, ◌≤◌, ◌++◌, length, zero}
use Rattle.educe_syntax_self.specs.Splicing.{note_at, walk, spliced}
use Rattle.educe_syntax_self.proofs.splice.spliced.Given as goal

abbrev pub invariant-loop-rest : goal.invariant-loop-rest
invariant-loop-rest l = (l.out ++ walk l.head (note_at l.tokens l.notes) zero l.rest ≡ spliced l.head l.tokens l.notes) × (length l.rest ≤ length l.tokens)

abbrev pub decreases-loop-rest : goal.decreases-loop-rest
decreases-loop-rest l = length l.rest
