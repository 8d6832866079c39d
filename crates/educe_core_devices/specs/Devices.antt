-- What calls do to the bytes and the count of faults of a device.
use Rattle.std.specs.Prelude.{◌≡◌, ℕ, ◌+◌, ◌-◌, ◌^◌, ◌<◌, ◌≤◌, min, List, [], ◌++◌, length, take, Option, Some, None, IfSome, Bool, IsTrue}

-- The count of faults rose, or stands at its largest value.
abbrev pub Rose : ℕ → ℕ → Type 0
Rose before now = min (before + 1) (2 ^ 64 - 1) ≤ now

-- These bytes before the contents, and none if these are not modelled.
abbrev pub ahead : List ℕ → Option (List ℕ) → Option (List ℕ)
ahead bytes None = None
ahead bytes (Some told) = Some (bytes ++ told)

-- These bytes behind the contents, and none if these are not modelled.
abbrev pub behind : Option (List ℕ) → List ℕ → Option (List ℕ)
behind None bytes = None
behind (Some told) bytes = Some (told ++ bytes)

-- No byte is left, if the contents are modelled.
abbrev pub IsAtEnd : Option (List ℕ) → Type 0
IsAtEnd told = IfSome told (λ bytes. bytes ≡ [])

-- Where nothing came into nonempty room, nothing is left.
abbrev pub EndsOnNothing : ℕ → List ℕ → Option (List ℕ) → Type 0
EndsOnNothing count room left = count ≡ 0 → 0 < length room → IsAtEnd left

-- At least one byte of a nonempty piece is taken.
abbrev pub TakesSome : ℕ → List ℕ → Type 0
TakesSome count piece = 0 < length piece → 0 < count

-- At most so many bytes went from the front of what was left.
pub record TakesAtMost (most : ℕ) (before after : Option (List ℕ)) : Type 0 where
  pub bytes : List ℕ
  pub front : before ≡ ahead bytes after
  pub bound : length bytes ≤ most

-- A device before and after: its bytes, its count of faults, and whether it might fail.
pub record Change : Type 0 where
  pub before : Option (List ℕ)
  pub after : Option (List ℕ)
  pub faults_before : ℕ
  pub faults_after : ℕ
  pub may_fail : Bool

-- The change of a device that is made of these five.
abbrev pub change : Option (List ℕ) → Option (List ℕ) → ℕ → ℕ → Bool → Change
change before after faults_before faults_after may_fail =
    record { before = before; after = after; faults_before = faults_before; faults_after = faults_after; may_fail = may_fail }

-- Contents and count of faults are the same.
pub record IsUnchanged (device : Change) : Type 0 where
  pub bytes : device.after ≡ device.before
  pub faults : device.faults_after ≡ device.faults_before

-- A device that may fail has failed.
pub record Fails (device : Change) : Type 0 where
  pub rose : Rose device.faults_before device.faults_after
  pub might : IsTrue device.may_fail

-- The whole text was appended, and no call failed.
pub record Gains (device : Change) (text : List ℕ) : Type 0 where
  pub bytes : device.after ≡ behind device.before text
  pub faults : device.faults_after ≡ device.faults_before

-- A front of the text was appended, and then a call failed.
pub record FailsWithin (device : Change) (text : List ℕ) : Type 0 where
  pub count : ℕ
  pub bytes : device.after ≡ behind device.before (take count text)
  pub fails : Fails device

-- A prefix of the text was appended, no call failed, and memory ran out.
pub record RunsShortWithin (device : Change) (text : List ℕ) : Type 0 where
  pub count : ℕ
  pub bytes : device.after ≡ behind device.before (take count text)
  pub faults : device.faults_after ≡ device.faults_before
