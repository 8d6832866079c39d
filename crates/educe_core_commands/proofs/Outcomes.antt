-- What the table of answers implies.
use Rattle.std.proofs.Common.{◌≡◌, ◌≢◌, ◌⊎◌, ℕ, ◌<◌, ◌≤◌, List, [], ◌++◌, length, Option, Some, None, IfSome, inl, inr, refl, sym, ap, subst, ◌∙◌, arith, append-nil, length-append}
use Rattle.std.specs.Prelude.{IsUtf8}
use Rattle.educe_tokens.specs.declared.error.EduceError.{EduceError}
use Rattle.educe_tokens.specs.declared.error.Kind.TheVariants.{Alloc}
use Rattle.educe_core_devices.specs.declared.status.Status.{Status}
use Rattle.educe_core_devices.specs.declared.status.Status.TheVariants.{Done, Refused, Usage, ReadFault, WriteFault, TooLong, NotUtf8, NoMemory}
use Rattle.educe_core_devices.specs.Devices.{Change, Fails, ahead, IsAtEnd, TakesAtMost}
use Rattle.educe_core_devices.specs.Status.{IsUnlessStopped, Delivers, whole, fault, short}
use Rattle.educe_core_commands.specs.Commands.{Origin, read, given, Meaning, IsInput, OfInput, ReadsAll, ReadsTooMuch, IsLine, Answers, RunAnswers}
use Rattle.educe_core_commands.proofs.Table.{input_faults}

-- ---- inputs

-- what holds of every value holds of one that is told
told-any : {A : Type 0} {P : A → Type 0} (told : Option A) → ((x : A) → P x) → IfSome told P
told-any None every = tt
told-any (Some x) every = every x

-- what follows from being the whole input holds of the told bytes
told-whole : {P : List ℕ → Type 0} (before after : Option (List ℕ)) (input : List ℕ) → before ≡ ahead input after → IsAtEnd after → ((x : List ℕ) → x ≡ input → P x) → IfSome before P
told-whole None after input taken end follows = tt
told-whole (Some x) None input taken end follows = cc
told-whole (Some x) (Some rest) input taken end follows =
    let same : x ≡ input ++ rest = cc in
    follows x (same ∙ ap (λ r. input ++ r) end ∙ append-nil input)

whole-is : {P : List ℕ → Type 0} (source : Change) (input : List ℕ) → ReadsAll source input → ((x : List ℕ) → x ≡ input → P x) → IfSome source.before P
whole-is source input reads follows = told-whole source.before source.after input reads.taken reads.end follows

-- what follows from having more bytes than the limit holds of the told bytes
told-long : {P : List ℕ → Type 0} (before after : Option (List ℕ)) (input : List ℕ) → before ≡ ahead input after → length input ≡ 131_073 → ((x : List ℕ) → 131_072 < length x → P x)
    → IfSome before P
told-long None after input taken long follows = tt
told-long (Some x) None input taken long follows = cc
told-long (Some x) (Some rest) input taken long follows =
    let same : x ≡ input ++ rest = cc in
    follows x (omega (arith, ap length same, length-append input rest))

long-is : {P : List ℕ → Type 0} (source : Change) → ReadsTooMuch source → ((x : List ℕ) → 131_072 < length x → P x) → IfSome source.before P
long-is source reads follows = told-long source.before source.after reads.input reads.taken reads.limit follows

-- what holds of each text holds of the input
any-input : {P : List ℕ → Type 0} (origin : Origin) (told : Option (List ℕ)) → ((x : List ℕ) → P x) → OfInput origin told P
any-input read told every = told-any told (λ x few utf8. every x)
any-input (given text) told every = every text

-- what follows from being the input holds of it
input-is : {P : List ℕ → Type 0} (origin : Origin) (source : Change) (input : List ℕ) → IsInput origin source input → ((x : List ℕ) → x ≡ input → P x) → OfInput origin source.before P
input-is read source input is follows = whole-is source input is.0 (λ x same few utf8. follows x same)
input-is (given text) source input is follows = follows text (sym is.1)

-- anything holds of an input past the limit, and of one that is no text
long-input : (P : List ℕ → Type 0) (origin : Origin) (source : Change) → origin ≡ read → ReadsTooMuch source → OfInput origin source.before P
long-input P origin source is reads = subst (λ o. OfInput o source.before P) (sym is) (long-is source reads (λ x long few utf8. absurd (omega arith)))

textless-input : (P : List ℕ → Type 0) (origin : Origin) (source : Change) (input : List ℕ) → origin ≡ read → ReadsAll source input → (IsUtf8 input → ⊥) → OfInput origin source.before P
textless-input P origin source input is reads not =
    subst (λ o. OfInput o source.before P) (sym is) (whole-is source input reads (λ x same few utf8. absurd (not (subst IsUtf8 same utf8))))

-- ---- One command.

-- an input past the limit answers TooLong
TooLong-of : (m : Meaning) (source sink notes : Change) (status : Status) → Answers m source sink notes status → m.origin ≡ read
    → IfSome source.before (λ input. 131_072 < length input → IsUnlessStopped TooLong status)
TooLong-of m source sink notes Done a reads =
    let is : IsInput read source a.stands.input = subst (λ o. IsInput o source a.stands.input) reads a.stands.is_input in
    whole-is source a.stands.input is.0 (λ x same long. absurd (omega (arith, ap length same, is.0.limit)))
TooLong-of m source sink notes (Refused error) a reads =
    let is : IsInput read source a.stands.input = subst (λ o. IsInput o source a.stands.input) reads a.stands.is_input in
    whole-is source a.stands.input is.0 (λ x same long. absurd (omega (arith, ap length same, is.0.limit)))
TooLong-of m source sink notes Usage a reads = absurd a
TooLong-of m source sink notes TooLong a reads = told-any source.before (λ x long. inl refl)
TooLong-of m source sink notes NotUtf8 a reads = whole-is source a.stands.1.input a.stands.1.whole (λ x same long. absurd (omega (arith, ap length same, a.stands.1.whole.limit)))
TooLong-of m source sink notes ReadFault a reads = told-any source.before (λ x long. inr tt)
TooLong-of m source sink notes WriteFault a reads = told-any source.before (λ x long. inr tt)
TooLong-of m source sink notes NoMemory a reads = told-any source.before (λ x long. inr tt)

-- an input that is not UTF-8 answers NotUtf8
NotUtf8-of : (m : Meaning) (source sink notes : Change) (status : Status) → Answers m source sink notes status → m.origin ≡ read
    → IfSome source.before (λ input. length input ≤ 131_072 → (IsUtf8 input → ⊥) → IsUnlessStopped NotUtf8 status)
NotUtf8-of m source sink notes Done a reads =
    let is : IsInput read source a.stands.input = subst (λ o. IsInput o source a.stands.input) reads a.stands.is_input in
    whole-is source a.stands.input is.0 (λ x same few not. absurd (not (subst IsUtf8 (sym same) is.1)))
NotUtf8-of m source sink notes (Refused error) a reads =
    let is : IsInput read source a.stands.input = subst (λ o. IsInput o source a.stands.input) reads a.stands.is_input in
    whole-is source a.stands.input is.0 (λ x same few not. absurd (not (subst IsUtf8 (sym same) is.1)))
NotUtf8-of m source sink notes Usage a reads = absurd a
NotUtf8-of m source sink notes TooLong a reads = long-is source a.stands.1 (λ x long few not. absurd (omega arith))
NotUtf8-of m source sink notes NotUtf8 a reads = told-any source.before (λ x few not. inl refl)
NotUtf8-of m source sink notes ReadFault a reads = told-any source.before (λ x few not. inr tt)
NotUtf8-of m source sink notes WriteFault a reads = told-any source.before (λ x few not. inr tt)
NotUtf8-of m source sink notes NoMemory a reads = told-any source.before (λ x few not. inr tt)

-- a valid input answers Done
Done-of : (m : Meaning) (source sink notes : Change) (status : Status) → Answers m source sink notes status
    → OfInput m.origin source.before (λ input. m.IsValid input → IsUnlessStopped Done status)
Done-of m source sink notes Done a = any-input m.origin source.before (λ x valid. inl refl)
Done-of m source sink notes (Refused error) a = input-is m.origin source a.stands.input a.stands.is_input (λ x same valid. absurd (a.stands.invalid (subst m.IsValid same valid)))
Done-of m source sink notes Usage a = absurd a
Done-of m source sink notes TooLong a = long-input _ m.origin source a.stands.0 a.stands.1
Done-of m source sink notes NotUtf8 a = textless-input _ m.origin source a.stands.1.input a.stands.0 a.stands.1.whole a.stands.1.not_utf8
Done-of m source sink notes ReadFault a = any-input m.origin source.before (λ x valid. inr tt)
Done-of m source sink notes WriteFault a = any-input m.origin source.before (λ x valid. inr tt)
Done-of m source sink notes NoMemory a = any-input m.origin source.before (λ x valid. inr tt)

-- an input in which a cause stands never answers Done
NotDone-of : (m : Meaning) (source sink notes : Change) (status : Status) → Answers m source sink notes status
    → OfInput m.origin source.before (λ input. (e : EduceError) → e.kind ≢ Alloc → m.IsCause input e → status ≢ Done)
NotDone-of m source sink notes Done a = input-is m.origin source a.stands.input a.stands.is_input (λ x same e kind cause done. a.stands.uncaused e kind (subst (λ y. m.IsCause y e) same cause))
NotDone-of m source sink notes (Refused error) a = any-input m.origin source.before (λ x e kind cause done. cc)
NotDone-of m source sink notes Usage a = absurd a
NotDone-of m source sink notes TooLong a = any-input m.origin source.before (λ x e kind cause done. cc)
NotDone-of m source sink notes NotUtf8 a = any-input m.origin source.before (λ x e kind cause done. cc)
NotDone-of m source sink notes ReadFault a = any-input m.origin source.before (λ x e kind cause done. cc)
NotDone-of m source sink notes WriteFault a = any-input m.origin source.before (λ x e kind cause done. cc)
NotDone-of m source sink notes NoMemory a = any-input m.origin source.before (λ x e kind cause done. cc)

-- an answer whose condition holds leaves the source's count
line_faults : (m : Meaning) (source : Change) (status : Status) (line : List ℕ) → IsLine m source status line → source.faults_after ≡ source.faults_before
line_faults m source (Refused error) line stands = input_faults m.origin source stands.input stands.is_input
line_faults m source TooLong line stands = stands.1.faults
line_faults m source NotUtf8 line stands = stands.1.whole.faults
line_faults m source Usage line stands = absurd stands
line_faults m source Done line stands = absurd stands
line_faults m source ReadFault line stands = absurd stands
line_faults m source WriteFault line stands = absurd stands
line_faults m source NoMemory line stands = absurd stands

-- with a greater count of the source the answer is ReadFault
source-of : (m : Meaning) (source sink notes : Change) (status : Status) → Answers m source sink notes status → source.faults_before < source.faults_after → status ≡ ReadFault
source-of m source sink notes Done a more = absurd (omega (arith, input_faults m.origin source a.stands.input a.stands.is_input))
source-of m source sink notes (Refused error) a more = absurd (omega (arith, input_faults m.origin source a.stands.input a.stands.is_input))
source-of m source sink notes Usage a more = absurd a
source-of m source sink notes TooLong a more = absurd (omega (arith, a.stands.1.faults))
source-of m source sink notes NotUtf8 a more = absurd (omega (arith, a.stands.1.whole.faults))
source-of m source sink notes ReadFault a more = refl
source-of m source sink notes WriteFault (inl text) more = absurd (omega (arith, input_faults m.origin source text.stands.input text.stands.is_input))
source-of m source sink notes WriteFault (inr (answer, line)) more = absurd (omega (arith, line_faults m source answer line.line line.stands))
source-of m source sink notes NoMemory (inl nothing) more = absurd (omega (arith, nothing.0))
source-of m source sink notes NoMemory (inr (inl text)) more = absurd (omega (arith, input_faults m.origin source text.stands.input text.stands.is_input))
source-of m source sink notes NoMemory (inr (inr (answer, line))) more = absurd (omega (arith, line_faults m source answer line.line line.stands))

-- with a greater count of the sink the answer is WriteFault
sink-of : (m : Meaning) (source sink notes : Change) (status : Status) → Answers m source sink notes status → sink.faults_before < sink.faults_after → status ≡ WriteFault
sink-of m source sink notes Done a more = absurd (omega (arith, a.gained.faults))
sink-of m source sink notes (Refused error) a more = absurd (omega (arith, a.kept.faults))
sink-of m source sink notes Usage a more = absurd a
sink-of m source sink notes TooLong a more = absurd (omega (arith, a.kept.faults))
sink-of m source sink notes NotUtf8 a more = absurd (omega (arith, a.kept.faults))
sink-of m source sink notes ReadFault a more = absurd (omega (arith, a.2.sink_kept.faults))
sink-of m source sink notes WriteFault a more = refl
sink-of m source sink notes NoMemory (inl nothing) more = absurd (omega (arith, nothing.1.sink_kept.faults))
sink-of m source sink notes NoMemory (inr (inl text)) more = absurd (omega (arith, text.gained.faults))
sink-of m source sink notes NoMemory (inr (inr (answer, line))) more = absurd (omega (arith, line.kept.faults))

-- with a greater count of the notes the answer is WriteFault
notes-of : (m : Meaning) (source sink notes : Change) (status : Status) → Answers m source sink notes status → notes.faults_before < notes.faults_after → status ≡ WriteFault
notes-of m source sink notes Done a more = absurd (omega (arith, a.kept.faults))
notes-of m source sink notes (Refused error) a more = absurd (omega (arith, a.gained.faults))
notes-of m source sink notes Usage a more = absurd a
notes-of m source sink notes TooLong a more = absurd (omega (arith, a.gained.faults))
notes-of m source sink notes NotUtf8 a more = absurd (omega (arith, a.gained.faults))
notes-of m source sink notes ReadFault a more = absurd (omega (arith, a.2.notes_kept.faults))
notes-of m source sink notes WriteFault a more = refl
notes-of m source sink notes NoMemory (inl nothing) more = absurd (omega (arith, nothing.1.notes_kept.faults))
notes-of m source sink notes NoMemory (inr (inl text)) more = absurd (omega (arith, text.kept.faults))
notes-of m source sink notes NoMemory (inr (inr (answer, line))) more = absurd (omega (arith, line.gained.faults))

-- ---- a run

-- the usage's line ends in Usage, unless writing it stops
usage_ends : (notes : Change) (usage : List ℕ) (status : Status) → Delivers notes usage Usage status → IsUnlessStopped Usage status
usage_ends notes usage status (whole gains) = inl refl
usage_ends notes usage status (fault fails) = inr tt
usage_ends notes usage status (short runs) = inr tt

-- no fault of the source is answered
usage_read : (notes : Change) (usage : List ℕ) (status : Status) → Delivers notes usage Usage status → status ≡ ReadFault → ⊥
usage_read notes usage status (whole gains) is = cc
usage_read notes usage status (fault fails) is = cc
usage_read notes usage status (short runs) is = cc

-- WriteFault is answered only where the notes failed
usage_written : (notes : Change) (usage : List ℕ) (status : Status) → Delivers notes usage Usage status → status ≡ WriteFault → Fails notes
usage_written notes usage status (whole gains) is = absurd cc
usage_written notes usage status (fault fails) is = fails.fails
usage_written notes usage status (short runs) is = absurd cc

-- and where their count is greater
usage_faults : (notes : Change) (usage : List ℕ) (status : Status) → Delivers notes usage Usage status → notes.faults_before < notes.faults_after → status ≡ WriteFault
usage_faults notes usage status (whole gains) more = absurd (omega (arith, gains.faults))
usage_faults notes usage status (fault fails) more = refl
usage_faults notes usage status (short runs) more = absurd (omega (arith, runs.faults))

module _ {C : Type 0} (spoken : C → List (List ℕ) → Type 0) (meaning : C → Meaning) (usage : List ℕ) (once : (words : List (List ℕ)) (c d : C) → spoken c words → spoken d words → c ≡ d) where
  -- what follows from the answer of the command that the words are
  by_command : (P : Status → Type 0) (c : C) (words : List (List ℕ)) (source sink notes : Change) (status : Status) → RunAnswers spoken meaning usage words source sink notes status → spoken c words
      → (Answers (meaning c) source sink notes status → P status) → P status
  by_command P c words source sink notes status (inl a) is follows = absurd (a.unknown c is)
  by_command P c words source sink notes status (inr a) is follows = follows (subst (λ d. Answers (meaning d) source sink notes status) (once words a.command c a.is is) a.answer)

  -- words that are no command answer Usage
  pub Usage-from_words : (words : List (List ℕ)) (source sink notes : Change) (status : Status) → RunAnswers spoken meaning usage words source sink notes status
      → ((c : C) → spoken c words → ⊥) → IsUnlessStopped Usage status
  Usage-from_words words source sink notes status (inl a) wrong = usage_ends notes usage status a.line
  Usage-from_words words source sink notes status (inr a) wrong = absurd (wrong a.command a.is)

  pub TooLong-from_length : (words : List (List ℕ)) (source sink notes : Change) (status : Status) → RunAnswers spoken meaning usage words source sink notes status
      → (c : C) → spoken c words → (meaning c).origin ≡ read → IfSome source.before (λ input. 131_072 < length input → IsUnlessStopped TooLong status)
  TooLong-from_length words source sink notes status a c is reads =
      by_command (λ s. IfSome source.before (λ input. 131_072 < length input → IsUnlessStopped TooLong s)) c words source sink notes status a is (λ b. TooLong-of (meaning c) source sink notes status b reads)

  pub NotUtf8-from_bytes : (words : List (List ℕ)) (source sink notes : Change) (status : Status) → RunAnswers spoken meaning usage words source sink notes status
      → (c : C) → spoken c words → (meaning c).origin ≡ read → IfSome source.before (λ input. length input ≤ 131_072 → (IsUtf8 input → ⊥) → IsUnlessStopped NotUtf8 status)
  NotUtf8-from_bytes words source sink notes status a c is reads =
      by_command (λ s. IfSome source.before (λ input. length input ≤ 131_072 → (IsUtf8 input → ⊥) → IsUnlessStopped NotUtf8 s)) c words source sink notes status a is (λ b. NotUtf8-of (meaning c) source sink notes status b reads)

  pub Done-from_valid : (words : List (List ℕ)) (source sink notes : Change) (status : Status) → RunAnswers spoken meaning usage words source sink notes status
      → (c : C) → spoken c words → OfInput (meaning c).origin source.before (λ input. (meaning c).IsValid input → IsUnlessStopped Done status)
  Done-from_valid words source sink notes status a c is =
      by_command (λ s. OfInput (meaning c).origin source.before (λ input. (meaning c).IsValid input → IsUnlessStopped Done s)) c words source sink notes status a is (Done-of (meaning c) source sink notes status)

  pub Done-without_cause : (words : List (List ℕ)) (source sink notes : Change) (status : Status) → RunAnswers spoken meaning usage words source sink notes status
      → (c : C) → spoken c words → OfInput (meaning c).origin source.before (λ input. (e : EduceError) → e.kind ≢ Alloc → (meaning c).IsCause input e → status ≢ Done)
  Done-without_cause words source sink notes status a c is =
      by_command (λ s. OfInput (meaning c).origin source.before (λ input. (e : EduceError) → e.kind ≢ Alloc → (meaning c).IsCause input e → s ≢ Done)) c words source sink notes status a is (NotDone-of (meaning c) source sink notes status)

  -- ReadFault comes only where the source failed
  pub ReadFault-fails : (words : List (List ℕ)) (source sink notes : Change) (status : Status) → RunAnswers spoken meaning usage words source sink notes status → status ≡ ReadFault → Fails source
  ReadFault-fails words source sink notes status (inl a) is = absurd (usage_read notes usage status a.line is)
  ReadFault-fails words source sink notes status (inr a) is = (subst (Answers (meaning a.command) source sink notes) is a.answer).1

  -- WriteFault comes only where the sink or the notes failed
  pub WriteFault-fails : (words : List (List ℕ)) (source sink notes : Change) (status : Status) → RunAnswers spoken meaning usage words source sink notes status → status ≡ WriteFault → Fails sink ⊎ Fails notes
  WriteFault-fails words source sink notes status (inl a) is = inr (usage_written notes usage status a.line is)
  WriteFault-fails words source sink notes status (inr a) is =
      elim (subst (Answers (meaning a.command) source sink notes) is a.answer) [ inl text ↦ inl text.gained.fails | inr line ↦ inr line.1.gained.fails ]

  -- with a greater count of a device its fault is the answer
  pub ReadFault-from_faults : (words : List (List ℕ)) (source sink notes : Change) (status : Status) → RunAnswers spoken meaning usage words source sink notes status → source.faults_before < source.faults_after → status ≡ ReadFault
  ReadFault-from_faults words source sink notes status (inl a) more = absurd (omega (arith, a.source_kept.faults))
  ReadFault-from_faults words source sink notes status (inr a) more = source-of (meaning a.command) source sink notes status a.answer more

  pub WriteFault-from_sink : (words : List (List ℕ)) (source sink notes : Change) (status : Status) → RunAnswers spoken meaning usage words source sink notes status → sink.faults_before < sink.faults_after → status ≡ WriteFault
  WriteFault-from_sink words source sink notes status (inl a) more = absurd (omega (arith, a.sink_kept.faults))
  WriteFault-from_sink words source sink notes status (inr a) more = sink-of (meaning a.command) source sink notes status a.answer more

  pub WriteFault-from_notes : (words : List (List ℕ)) (source sink notes : Change) (status : Status) → RunAnswers spoken meaning usage words source sink notes status → notes.faults_before < notes.faults_after → status ≡ WriteFault
  WriteFault-from_notes words source sink notes status (inl a) more = usage_faults notes usage status a.line more
  WriteFault-from_notes words source sink notes status (inr a) more = notes-of (meaning a.command) source sink notes status a.answer more

-- nothing at all is within any bound
pub TakesAtMost-none : (most : ℕ) (told : Option (List ℕ)) → TakesAtMost most told told
TakesAtMost-none most None = record { bytes = []; front = refl; bound = omega arith }
TakesAtMost-none most (Some x) = record { bytes = []; front = refl; bound = omega arith }
