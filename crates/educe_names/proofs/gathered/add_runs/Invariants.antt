use Rattle.std.proofs.Common.{◌≡◌, [], ◌++◌, drop}
use Rattle.educe_names.proofs.TextRuns.{runs_behind}
use Rattle.educe_names.proofs.gathered.add_runs.Given as goal

abbrev pub invariant-loop-c : goal.invariant-loop-c
invariant-loop-c l = l.words ++ runs_behind l.run.items (drop l.c-index l.text) ≡ l.fn.words ++ runs_behind [] l.text
