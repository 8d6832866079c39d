-- How the program ends.
use Rattle.std.specs.Prelude.{◌≡◌, ◌⊎◌, ℕ, List}
use Rattle.educe_core.specs.Commands.{RunAnswers}
use Rattle.educe_core.specs.Devices.{Change, IsUnchanged}
use Rattle.educe_core.specs.Spoken.{IsSpoken, meaning, usage_line}
use Rattle.educe_core.specs.Status.{Status}
use Rattle.educe_core.specs.Status.TheVariants.{NoMemory}
use Rattle.educe_core.specs.Statuses.{code_of}

-- Memory does not suffice for the words, and no device is touched.
pub record LacksWords (source sink notes : Change) (status : Status) : Type 0 where
  pub status_is : status ≡ NoMemory
  pub source_kept : IsUnchanged source
  pub sink_kept : IsUnchanged sink
  pub notes_kept : IsUnchanged notes

-- The program ran over these words, or lacked memory for them, and its exit status is that of the answer.
pub record EndsAsRun (words : List (List ℕ)) (source sink notes : Change) (code : ℕ) : Type 0 where
  pub status : Status
  pub answers : RunAnswers IsSpoken meaning usage_line words source sink notes status ⊎ LacksWords source sink notes status
  pub coded : code ≡ code_of status

-- The program did not run: its exit status is 8, and no device was touched.
pub record EndsUnrun (source sink notes : Change) (code : ℕ) : Type 0 where
  pub coded : code ≡ 8
  pub source_kept : IsUnchanged source
  pub sink_kept : IsUnchanged sink
  pub notes_kept : IsUnchanged notes
