use Rattle.std.proofs.Common.{inl, inr, refl}
use Rattle.educe_core.specs.Status.TheVariants.{NoMemory}
use Rattle.educe_cli.proofs.ending.run_program.Goals as goal

-- memory did not suffice for the words, and no device was touched
pub returns-in_default-words-clause-ended : goal.returns-in_default-words-clause-ended
returns-in_default-words-clause-ended g c =
    rw c.in-Ok.is (record {
      status = NoMemory;
      answers = inr (record { status_is = refl; source_kept = record { bytes = refl; faults = refl }; sink_kept = record { bytes = refl; faults = refl }; notes_kept = record { bytes = refl; faults = refl } });
      coded = c.code.ensures;
    })

-- the words are the arguments behind the first one, and the status is that of the run's answer
pub returns-clause-ended : goal.returns-clause-ended
returns-clause-ended g c =
    rw c.in-Ok.is (record {
      status = c.run-status.result;
      answers = inl (rw c.in-Ok-words.ensures at c.run-status.ensures.answer);
      coded = cc;
    })
