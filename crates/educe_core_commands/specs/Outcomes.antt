-- What the answer of a run implies, whatever the commands are.
use Rattle.std.specs.Prelude.{◌≡◌, ◌≢◌, ◌⊎◌, ℕ, ◌≤◌, ◌<◌, List, IfSome, IsUtf8, length}
use Rattle.educe_tokens.specs.declared.error.EduceError.{EduceError}
use Rattle.educe_tokens.specs.declared.error.Kind.TheVariants.{Alloc}
use Rattle.educe_core_devices.specs.declared.status.Status.{Status}
use Rattle.educe_core_devices.specs.declared.status.Status.TheVariants.{Done, Usage, ReadFault, WriteFault, TooLong, NotUtf8}
use Rattle.educe_core_devices.specs.Devices.{Change, Fails}
use Rattle.educe_core_devices.specs.Status.{IsUnlessStopped}
use Rattle.educe_core_commands.specs.Commands.{Meaning, OfInput, read}

-- Words are at most one command.
abbrev pub IsSpokenOnce : {C : Type 0} → (C → List (List ℕ) → Type 0) → Type 0
IsSpokenOnce {C} spoken = (words : List (List ℕ)) (c d : C) → spoken c words → spoken d words → c ≡ d

-- Where a condition holds, no other answer comes but a fault or out of memory. A fault is the answer only where a device failed that
-- might, and wherever its count is greater after the run.
pub record Outcomes {C : Type 0} (spoken : C → List (List ℕ) → Type 0) (meaning : C → Meaning) (words : List (List ℕ)) (source sink notes : Change) (status : Status) : Type 0 where
  pub usage : ((c : C) → spoken c words → ⊥) → IsUnlessStopped Usage status
  pub too_long : (c : C) → spoken c words → (meaning c).origin ≡ read → IfSome source.before (λ input.
      131_072 < length input → IsUnlessStopped TooLong status)
  pub not_utf8 : (c : C) → spoken c words → (meaning c).origin ≡ read → IfSome source.before (λ input.
      length input ≤ 131_072 → (IsUtf8 input → ⊥) → IsUnlessStopped NotUtf8 status)
  pub valid : (c : C) → spoken c words → OfInput (meaning c).origin source.before (λ input.
      (meaning c).IsValid input → IsUnlessStopped Done status)
  pub caused : (c : C) → spoken c words → OfInput (meaning c).origin source.before (λ input.
      (e : EduceError) → e.kind ≢ Alloc → (meaning c).IsCause input e → status ≢ Done)
  pub read_fault : status ≡ ReadFault → Fails source
  pub source_faults : source.faults_before < source.faults_after → status ≡ ReadFault
  pub write_fault : status ≡ WriteFault → Fails sink ⊎ Fails notes
  pub sink_faults : sink.faults_before < sink.faults_after → status ≡ WriteFault
  pub notes_faults : notes.faults_before < notes.faults_after → status ≡ WriteFault
