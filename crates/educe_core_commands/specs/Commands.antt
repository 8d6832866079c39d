-- What a command is, and the table of its answers: when each comes, and what the sink and the notes gain.
use Rattle.std.specs.Prelude.{◌≡◌, ◌≢◌, ◌⊎◌, ℕ, ◌≤◌, List, ◌++◌, Option, Some, None, IfSome, length, codes, decimal, IsUtf8}
use Rattle.educe_tokens.specs.declared.error.EduceError.{EduceError}
use Rattle.educe_tokens.specs.declared.error.Kind.TheVariants.{Alloc}
use Rattle.educe_tokens.specs.Span.{line_of, column_of}
use Rattle.educe_tokens.specs.Message.{message_of}
use Rattle.educe_core_devices.specs.declared.status.Status.{Status}
use Rattle.educe_core_devices.specs.declared.status.Status.TheVariants.{Done, Refused, Usage, ReadFault, WriteFault, TooLong, NotUtf8, NoMemory}
use Rattle.educe_core_devices.specs.Devices.{Change, ahead, IsAtEnd, IsUnchanged, Fails, Gains, FailsWithin, RunsShortWithin}
use Rattle.educe_core_devices.specs.Status.{Delivers}

-- ---- commands

-- Where an input comes from: the source, which is read to its end; or the words alone, and the source is not touched.
pub data Origin : Type 0 where
  read : Origin
  given : List ℕ → Origin

-- What a command does: where its input comes from, the bytes that it writes for an input, why it rejects one, and which inputs
-- are valid.
pub record Meaning : Type 1 where
  pub origin : Origin
  pub IsOutput : List ℕ → List ℕ → Type 0
  pub IsCause : List ℕ → EduceError → Type 0
  pub IsValid : List ℕ → Type 0

-- ---- inputs

-- The input is the whole of what the source held, within the limit of 131,072 bytes, and no read failed.
pub record ReadsAll (source : Change) (input : List ℕ) : Type 0 where
  pub taken : source.before ≡ ahead input source.after
  pub end : IsAtEnd source.after
  pub limit : length input ≤ 131_072
  pub faults : source.faults_after ≡ source.faults_before

-- The input has more bytes than the limit, no read failed, and reading stopped behind the first byte that is too many.
pub record ReadsTooMuch (source : Change) : Type 0 where
  pub input : List ℕ
  pub taken : source.before ≡ ahead input source.after
  pub limit : length input ≡ 131_073
  pub faults : source.faults_after ≡ source.faults_before

-- The whole input is not UTF-8.
pub record ReadsNoText (source : Change) : Type 0 where
  pub input : List ℕ
  pub whole : ReadsAll source input
  pub not_utf8 : IsUtf8 input → ⊥

-- The bytes are the input of a command, which is UTF-8.
abbrev pub IsInput : Origin → Change → List ℕ → Type 0
IsInput read source input = ReadsAll source input × IsUtf8 input
IsInput (given text) source input = IsUnchanged source × (input ≡ text)

-- A fact holds of the input of a command: of what the source holds, if its contents are modelled, within the limit and UTF-8; or of
-- what the words have.
abbrev pub OfInput : Origin → Option (List ℕ) → (List ℕ → Type 0) → Type 0
OfInput read told P = IfSome told (λ input. length input ≤ 131_072 → IsUtf8 input → P input)
OfInput (given text) told P = P text

-- The words have no input past the limit.
abbrev pub IsWithinLimit : Origin → Type 0
IsWithinLimit read = Unit {0}
IsWithinLimit (given text) = length text ≤ 131_072

-- What the words have as the input: a text, or nothing where the input is read.
abbrev pub IsGiven : Origin → Option (List ℕ) → Type 0
IsGiven read text = text ≡ None
IsGiven (given text) found = found ≡ Some text

-- ---- the table

-- The line of an input past the limit.
abbrev pub too_long_line : List ℕ
too_long_line = codes "the input is longer than 131072 bytes\n"

-- The line of an input that is not UTF-8.
abbrev pub not_utf8_line : List ℕ
not_utf8_line = codes "the input is not UTF-8\n"

-- Line, column and message of a rejection.
abbrev pub refusal_line : List ℕ → EduceError → List ℕ
refusal_line source error =
    decimal (line_of source error.span.start) ++ codes ":" ++ decimal (column_of source error.span.start) ++ codes ": "
    ++ message_of error.kind error.words ++ codes "\n"

-- What the command writes for its input, which has no cause of rejection.
pub record IsText (m : Meaning) (source : Change) (text : List ℕ) : Type 0 where
  pub input : List ℕ
  pub is_input : IsInput m.origin source input
  pub output : m.IsOutput input text
  pub uncaused : (e : EduceError) → e.kind ≢ Alloc → m.IsCause input e → ⊥

-- The line of a rejection whose cause is in the input, which is not valid.
pub record IsRefusal (m : Meaning) (source : Change) (error : EduceError) (line : List ℕ) : Type 0 where
  pub input : List ℕ
  pub is_input : IsInput m.origin source input
  pub kind : error.kind ≢ Alloc
  pub cause : m.IsCause input error
  pub invalid : m.IsValid input → ⊥
  pub is : line ≡ refusal_line input error

-- The answer's condition holds, and this is its line for the notes.
abbrev pub IsLine : Meaning → Change → Status → List ℕ → Type 0
IsLine m source (Refused error) line = IsRefusal m source error line
IsLine m source TooLong line = (m.origin ≡ read) × ReadsTooMuch source × (line ≡ too_long_line)
IsLine m source NotUtf8 line = (m.origin ≡ read) × ReadsNoText source × (line ≡ not_utf8_line)
IsLine m source Usage line = ⊥
IsLine m source Done line = ⊥
IsLine m source ReadFault line = ⊥
IsLine m source WriteFault line = ⊥
IsLine m source NoMemory line = ⊥

-- The output goes to the sink, all of it or a prefix, and the notes are unchanged.
pub record WritesText (becomes : Change → List ℕ → Type 0) (m : Meaning) (source sink notes : Change) : Type 0 where
  pub text : List ℕ
  pub stands : IsText m source text
  pub gained : becomes sink text
  pub kept : IsUnchanged notes

-- The line of an answer goes to the notes, all of it or a prefix, and the sink is unchanged.
pub record WritesLine (becomes : Change → List ℕ → Type 0) (m : Meaning) (source sink notes : Change) (status : Status) : Type 0 where
  pub line : List ℕ
  pub stands : IsLine m source status line
  pub gained : becomes notes line
  pub kept : IsUnchanged sink

-- Neither the sink nor the notes are touched.
pub record WritesNothing (sink notes : Change) : Type 0 where
  pub sink_kept : IsUnchanged sink
  pub notes_kept : IsUnchanged notes

-- The table of a command's answers: when each comes, and what the sink and the notes gain. No command answers `Usage`.
abbrev pub Answers : Meaning → Change → Change → Change → Status → Type 0
Answers m source sink notes Done = WritesText Gains m source sink notes
Answers m source sink notes (Refused error) = WritesLine Gains m source sink notes (Refused error)
Answers m source sink notes TooLong = WritesLine Gains m source sink notes TooLong
Answers m source sink notes NotUtf8 = WritesLine Gains m source sink notes NotUtf8
Answers m source sink notes Usage = ⊥
Answers m source sink notes ReadFault = (m.origin ≡ read) × Fails source × WritesNothing sink notes
Answers m source sink notes WriteFault =
    WritesText FailsWithin m source sink notes ⊎ ((status : Status) × WritesLine FailsWithin m source sink notes status)
Answers m source sink notes NoMemory =
    ((source.faults_after ≡ source.faults_before) × WritesNothing sink notes)
    ⊎ (WritesText RunsShortWithin m source sink notes ⊎ ((status : Status) × WritesLine RunsShortWithin m source sink notes status))

-- The line of a rejection goes to the notes, or memory does not suffice for the rejection or its line.
abbrev pub Refuses : Change → List ℕ → EduceError → Status → Type 0
Refuses notes source error status =
    ((error.kind ≢ Alloc) × Delivers notes (refusal_line source error) (Refused error) status) ⊎ (IsUnchanged notes × (status ≡ NoMemory))

-- What a command answers to an input: its output goes to the sink, or the line of a rejection to the notes.
pub data AnswersInput (m : Meaning) (input : List ℕ) (sink notes : Change) (status : Status) : Type 0 where
  writes : (text : List ℕ) → m.IsOutput input text → ((e : EduceError) → e.kind ≢ Alloc → m.IsCause input e → ⊥)
      → Delivers sink text Done status → IsUnchanged notes → AnswersInput m input sink notes status
  refuses : (error : EduceError) → m.IsCause input error → (m.IsValid input → error.kind ≡ Alloc)
      → Refuses notes input error status → IsUnchanged sink → AnswersInput m input sink notes status

-- ---- runs

-- The words are no command, and the notes gain the usage line.
pub record AnswersUsage {C : Type 0} (spoken : C → List (List ℕ) → Type 0) (usage : List ℕ) (words : List (List ℕ)) (source sink notes : Change) (status : Status) : Type 0 where
  pub unknown : (command : C) → spoken command words → ⊥
  pub source_kept : IsUnchanged source
  pub sink_kept : IsUnchanged sink
  pub line : Delivers notes usage Usage status

-- The words are a command, and it answers.
pub record AnswersCommand {C : Type 0} (spoken : C → List (List ℕ) → Type 0) (meaning : C → Meaning) (words : List (List ℕ)) (source sink notes : Change) (status : Status) : Type 0 where
  pub command : C
  pub is : spoken command words
  pub answer : Answers (meaning command) source sink notes status

-- What a run answers: the words are no command, or a command answers. `spoken` says which words a command is, `meaning` what it does.
abbrev pub RunAnswers : {C : Type 0} → (C → List (List ℕ) → Type 0) → (C → Meaning) → List ℕ → List (List ℕ)
    → Change → Change → Change → Status → Type 0
RunAnswers spoken meaning usage words source sink notes status =
    AnswersUsage spoken usage words source sink notes status ⊎ AnswersCommand spoken meaning words source sink notes status
