use Rattle.std.proofs.Common.{arith}
use Rattle.std.proofs.lemmas.Result.{on_ok_weaker}
use Rattle.educe_names.proofs.Gaining.{runs_end}
use Rattle.educe_names.proofs.gathered.add_runs.Goals as goal

pub returns : goal.returns
returns c =
    on_ok_weaker c.add_run-2.result
    (λ adds. runs_end c.args.text.now c.loop-c.c-index c.loop-c.run.items c.args.words.now c.loop-c.words c.add_run-2.new.words (omega arith) c.loop-c.invariant adds) c.add_run-2.ensures
