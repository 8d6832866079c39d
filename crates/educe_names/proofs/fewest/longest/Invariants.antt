use Rattle.std.proofs.Common.{ℕ, List, ◌<◌, ◌≤◌, ◌^◌, length, take}
use Rattle.std.specs.List.{All}
use Rattle.educe_names.proofs.fewest.longest.Given as goal

abbrev pub invariant-loop-word : goal.invariant-loop-word
invariant-loop-word l = All (λ (word : List ℕ). length word ≤ l.most) (take l.word-index l.words) × (l.most < 2 ^ 63)
