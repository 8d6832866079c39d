-- Properties of causes of errors, for any relation of causes.
use Rattle.std.specs.Prelude.{◌≡◌, ◌≢◌, ◌⊎◌, ℕ}
use Rattle.educe_tokens.specs.declared.error.EduceError.{EduceError}
use Rattle.educe_tokens.specs.declared.error.Kind.TheVariants.{Alloc}
use Rattle.educe_tokens.specs.Causes.{HasCause}
use Rattle.educe_tokens.specs.Message.{HasWords}
use Rattle.educe_tokens.specs.Refusals.{placeless}
use Rattle.educe_grammar.specs.Parsed.{depth_limit, IsCauseWithin}
use Rattle.educe_grammar.specs.Placed.{IsPlace}
use Rattle.educe_grammar.specs.Reads.{Reads}
use Rattle.educe_grammar.specs.Rules.{Rule}
use Rattle.educe_grammar.specs.Steps.{Tokens}

-- There is no cause but out of memory.
abbrev pub IsUncaused : (EduceError → Type 0) → Type 0
IsUncaused cause = (e : EduceError) → cause e → e.kind ≡ Alloc

-- All causes but out of memory are equal.
abbrev pub IsSingle : (EduceError → Type 0) → Type 0
IsSingle cause = (e f : EduceError) → cause e → cause f → e.kind ≢ Alloc → f.kind ≢ Alloc → e ≡ f

-- The error has the words that its message cites, and its place is that of a token or the end of the list; or it is out
-- of memory.
pub record IsReported (tokens : Tokens) (e : EduceError) : Type 0 where
  pub words : HasWords e.kind e.words
  pub place : IsPlace tokens e.span ⊎ (e ≡ placeless Alloc)

-- The whole list has a value by the rule with this budget, or it has a cause of rejection that is not out of memory.
abbrev pub IsDecidedWithin : {A : Type 0} → ℕ → Rule A → Tokens → Type 0
IsDecidedWithin {A = A} budget g tokens = ((x : A) × Reads budget g tokens x) ⊎ HasCause (IsCauseWithin budget g tokens)

-- The whole list has a value by the rule, or it has a cause of rejection that is not out of memory.
abbrev pub IsDecided : {A : Type 0} → Rule A → Tokens → Type 0
IsDecided g tokens = IsDecidedWithin depth_limit g tokens
