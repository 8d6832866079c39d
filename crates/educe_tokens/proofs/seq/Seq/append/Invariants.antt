use Rattle.std.proofs.Common.{◌≡◌, ◌++◌}
use Rattle.educe_tokens.proofs.seq.Seq.append.Given as goal

abbrev pub invariant-loop-item : goal.invariant-loop-item
invariant-loop-item g l = l.self-inside.items.items ≡ l.initial.self-inside.items.items ++ l.yielded
