-- How the rows of the table of answers come about.
use Rattle.std.proofs.Common.{◌≡◌, ◌≤◌, ℕ, List, length, Some, None, inl, inr, refl, sym, subst}
use Rattle.educe_tokens.specs.declared.error.EduceError.{EduceError}
use Rattle.educe_tokens.specs.declared.error.Kind.TheVariants.{Alloc}
use Rattle.educe_core_devices.specs.declared.status.Status.{Status}
use Rattle.educe_core_devices.specs.declared.status.Status.TheVariants.{Done, Refused, Usage, ReadFault, WriteFault, TooLong, NotUtf8, NoMemory}
use Rattle.educe_core_devices.specs.Devices.{Change, IsUnchanged}
use Rattle.educe_core_devices.specs.Status.{Delivers, whole, fault, short}
use Rattle.educe_core_commands.specs.Commands.{Meaning, Answers, AnswersInput, writes, refuses, Origin, IsInput, IsGiven, IsWithinLimit, read, given, IsLine, IsText, Refuses, refusal_line}

-- the count of the source's faults is the same where there is an input
pub input_faults : (origin : Origin) (source : Change) (input : List ℕ) → IsInput origin source input → source.faults_after ≡ source.faults_before
input_faults read source input is = is.0.faults
input_faults (given text) source input is = is.0.faults

-- an output that goes to the sink
pub Answers-text : (m : Meaning) (source sink notes : Change) (text : List ℕ) (status : Status) → IsText m source text → Delivers sink text Done status → IsUnchanged notes → Answers m source sink notes status
Answers-text m source sink notes text status stands (whole gains) kept = record { text = text; stands = stands; gained = gains; kept = kept }
Answers-text m source sink notes text status stands (fault fails) kept = inl (record { text = text; stands = stands; gained = fails; kept = kept })
Answers-text m source sink notes text status stands (short runs) kept = inr (inl (record { text = text; stands = stands; gained = runs; kept = kept }))

-- a line that goes to the notes
pub Answers-line :
    (m : Meaning) (source sink notes : Change) (answer : Status) (line : List ℕ) (status : Status) → IsLine m source answer line
    → Delivers notes line answer status → IsUnchanged sink → Answers m source sink notes status
Answers-line m source sink notes (Refused error) line status stands (whole gains) kept = record { line = line; stands = stands; gained = gains; kept = kept }
Answers-line m source sink notes TooLong line status stands (whole gains) kept = record { line = line; stands = stands; gained = gains; kept = kept }
Answers-line m source sink notes NotUtf8 line status stands (whole gains) kept = record { line = line; stands = stands; gained = gains; kept = kept }
Answers-line m source sink notes Usage line status stands (whole gains) kept = absurd stands
Answers-line m source sink notes Done line status stands (whole gains) kept = absurd stands
Answers-line m source sink notes ReadFault line status stands (whole gains) kept = absurd stands
Answers-line m source sink notes WriteFault line status stands (whole gains) kept = absurd stands
Answers-line m source sink notes NoMemory line status stands (whole gains) kept = absurd stands
Answers-line m source sink notes answer line status stands (fault fails) kept = inr (answer, record { line = line; stands = stands; gained = fails; kept = kept })
Answers-line m source sink notes answer line status stands (short runs) kept = inr (inr (answer, record { line = line; stands = stands; gained = runs; kept = kept }))

-- a rejection of the input
Answers-refusal :
    (m : Meaning) (source sink notes : Change) (input : List ℕ) (error : EduceError) (status : Status) → IsInput m.origin source input → m.IsCause input error
    → (m.IsValid input → error.kind ≡ Alloc) → Refuses notes input error status → IsUnchanged sink → Answers m source sink notes status
Answers-refusal m source sink notes input error status is cause valid (inl (kind, delivers)) kept =
    Answers-line m source sink notes (Refused error) (refusal_line input error) status
    (record { input = input; is_input = is; kind = kind; cause = cause; invalid = λ v. kind (valid v); is = refl })
    delivers kept
Answers-refusal m source sink notes input error status is cause valid (inr (notes_kept, stopped)) kept =
    subst (λ s. Answers m source sink notes s) (sym stopped) (inl (input_faults m.origin source input is, record { sink_kept = kept; notes_kept = notes_kept }))

-- what is answered to the input
pub Answers-input : (m : Meaning) (source sink notes : Change) (input : List ℕ) (status : Status) → IsInput m.origin source input → AnswersInput m input sink notes status → Answers m source sink notes status
Answers-input m source sink notes input status is (writes text output uncaused delivers kept) =
    Answers-text m source sink notes text status (record { input = input; is_input = is; output = output; uncaused = uncaused }) delivers kept
Answers-input m source sink notes input status is (refuses error cause valid refusal kept) = Answers-refusal m source sink notes input error status is cause valid refusal kept

-- the text that the words have is the input
pub given_input : (origin : Origin) (source : Change) (text : List ℕ) → IsUnchanged source → IsGiven origin (Some text) → IsInput origin source text
given_input read source text unchanged is = absurd cc
given_input (given own) source text unchanged is = (unchanged, cc)

-- without such a text the source is read
pub reads_of : (origin : Origin) → IsGiven origin None → origin ≡ read
reads_of read is = refl
reads_of (given own) is = absurd cc

-- the text that the words have is within the limit
pub given_limit : (origin : Origin) (text : List ℕ) → IsGiven origin (Some text) → IsWithinLimit origin → length text ≤ 131_072
given_limit read text is within = absurd cc
given_limit (given own) text is within = let same : text ≡ own = cc in subst (λ l. length l ≤ 131_072) (sym same) within
