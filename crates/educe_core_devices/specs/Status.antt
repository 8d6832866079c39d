-- The answers of a run.
use Rattle.std.specs.Prelude.{◌≡◌, ◌⊎◌, ℕ, List}
use Rattle.educe_core_devices.specs.Devices.{Change, Gains, FailsWithin, RunsShortWithin}
use Rattle.educe_core_devices.specs.declared.status.Status.{Status}
use Rattle.educe_core_devices.specs.declared.status.Status.TheVariants.{Done, Refused, Usage, ReadFault, WriteFault, TooLong, NotUtf8, NoMemory}

-- The exit status of an answer.
abbrev pub code_of : Status → ℕ
code_of Done = 0
code_of (Refused error) = 1
code_of Usage = 2
code_of ReadFault = 3
code_of WriteFault = 4
code_of TooLong = 5
code_of NotUtf8 = 6
code_of NoMemory = 7

-- A fault or out of memory, which stop a run anywhere.
abbrev pub IsStop : Status → Type 0
IsStop ReadFault = Unit {0}
IsStop WriteFault = Unit {0}
IsStop NoMemory = Unit {0}
IsStop Done = ⊥
IsStop (Refused error) = ⊥
IsStop Usage = ⊥
IsStop TooLong = ⊥
IsStop NotUtf8 = ⊥

-- The answer is the expected one, where nothing stops the run.
abbrev pub IsUnlessStopped : Status → Status → Type 0
IsUnlessStopped expected status = (status ≡ expected) ⊎ IsStop status

-- A text goes to a device: all of it with this answer, or a prefix with the answer that the write failed or memory ran out.
pub data Delivers (device : Change) (text : List ℕ) (status : Status) : Status → Type 0 where
  whole : Gains device text → Delivers device text status status
  fault : FailsWithin device text → Delivers device text status WriteFault
  short : RunsShortWithin device text → Delivers device text status NoMemory
