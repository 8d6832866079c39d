-- The laws of commands hold.
use Rattle.std.proofs.Common.{ℕ, List}
use Rattle.educe_core_devices.specs.declared.status.Status.{Status}
use Rattle.educe_core_devices.specs.Devices.{Change}
use Rattle.educe_core_commands.specs.Commands.{Meaning, RunAnswers}
use Rattle.educe_core_commands.specs.Outcomes.{Outcomes, IsSpokenOnce}
use Rattle.educe_core_commands.specs.StageLaws.{StageLaws}
use Rattle.educe_core_commands.proofs.Outcomes as outcome
use Rattle.educe_core_commands.proofs.Staged as staged

-- stages have them
pub lawful_stages : StageLaws
lawful_stages = record { none_first = staged.none_first; none_each = staged.none_each; first_behind = staged.first_behind; none_within = staged.none_within }

-- the answer of a run implies what is stated of it, where words are at most one command
pub outcomes : {C : Type 0} (spoken : C → List (List ℕ) → Type 0) (meaning : C → Meaning) (usage : List ℕ) → IsSpokenOnce spoken → (words : List (List ℕ)) (source sink notes : Change)
    (status : Status) → RunAnswers spoken meaning usage words source sink notes status → Outcomes spoken meaning words source sink notes status
outcomes spoken meaning usage once words source sink notes status answer = record {
  usage = outcome.Usage-from_words spoken meaning usage once words source sink notes status answer;
  too_long = outcome.TooLong-from_length spoken meaning usage once words source sink notes status answer;
  not_utf8 = outcome.NotUtf8-from_bytes spoken meaning usage once words source sink notes status answer;
  valid = outcome.Done-from_valid spoken meaning usage once words source sink notes status answer;
  caused = outcome.Done-without_cause spoken meaning usage once words source sink notes status answer;
  read_fault = outcome.ReadFault-fails spoken meaning usage once words source sink notes status answer;
  source_faults = outcome.ReadFault-from_faults spoken meaning usage once words source sink notes status answer;
  write_fault = outcome.WriteFault-fails spoken meaning usage once words source sink notes status answer;
  sink_faults = outcome.WriteFault-from_sink spoken meaning usage once words source sink notes status answer;
  notes_faults = outcome.WriteFault-from_notes spoken meaning usage once words source sink notes status answer;
}
