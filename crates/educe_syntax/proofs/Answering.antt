-- What a call answers, by the laws of the grammar.
use Rattle.std.proofs.Common.{◌≡◌, ℕ, [], ◌∷◌, length, true, false, ap, sym, subst, ◌∙◌, inl, inr, Some, Result, Ok, Err}
use Rattle.std.specs.Prelude.{IfOk, IfErr}
use Rattle.educe_tokens.specs.declared.error.EduceError.{EduceError}
use Rattle.educe_grammar.specs.declared.parse_error.ParseError.TheVariants.{Syntax}
use Rattle.educe_grammar.specs.Ahead.{at_end}
use Rattle.educe_grammar.specs.Causes.{IsUncaused, IsReported}
use Rattle.educe_grammar.specs.Parsed.{IsCauseWithin, IsOnly, stop_of}
use Rattle.educe_grammar.specs.Reads.{Reads, read}
use Rattle.educe_grammar.specs.Rules.{Rule}
use Rattle.educe_grammar.specs.Steps.{Tokens, Outcome}
use Rattle.educe_grammar.proofs.Decided.{whole_if_read, stops, stop_cause}
use Rattle.educe_grammar.proofs.Opening.{is_ready}
use Rattle.educe_grammar.proofs.ReadsAgain.{ReadsAgain}
use Rattle.educe_grammar.proofs.Refusals.{whole_uncaused}
use Rattle.educe_grammar.proofs.Reported.{cause_reported}
use Rattle.educe_grammar.proofs.Steps.{ok_pair}
use Rattle.educe_syntax.specs.Answers.{IsAnswer}

-- ---- programs

-- where nothing is left, what was read is the answer
pub answered : {A : Type 0} (outcome : Outcome A) (rest : Tokens) (x : A) → outcome ≡ Ok (x, rest) → at_end rest ≡ true → outcome ≡ Ok (x, [])
unfolding at_end
answered outcome [] x is ended = is
answered outcome (t ∷ rest) x is ended = absurd (cc)

-- where something is left, the program stops there
pub stopped : {A : Type 0} (outcome : Outcome A) (rest : Tokens) (x : A) → outcome ≡ Ok (x, rest) → at_end rest ≡ false → stop_of outcome ≡ Some (Syntax (length rest))
unfolding at_end
stopped outcome [] x is ended = absurd (cc)
stopped outcome (t ∷ rest) x is ended = ap stop_of is

-- ---- the clauses of a call

-- What a call says of its answer, by a rule and with a budget.
pub record Clauses {A : Type 0} (budget : ℕ) (g : Rule A) (tokens : Tokens) (result : Result A EduceError) : Type 0 where
  pub found : IfOk result (λ x. Reads budget g tokens x)
  pub only : (x : A) → Reads budget g tokens x → IsOnly x result
  pub uncaused : IfOk result (λ _. IsUncaused (IsCauseWithin budget g tokens))
  pub err : IfErr result (IsCauseWithin budget g tokens)
  pub reported : IfErr result (IsReported tokens)

module _ {A : Type 0} (g : Rule A) (again : ReadsAgain g) (ready : is_ready g ≡ true) (budget : ℕ) where
  -- an error that has a cause, of a list that has no reading but where memory fails
  by_cause : (tokens : Tokens) (e : EduceError) → ((x : A) → Reads budget g tokens x → IsOnly x (Err e)) → IsCauseWithin budget g tokens e → Clauses budget g tokens (Err e)
  by_cause tokens e only cause = record { found = tt; only = only; uncaused = tt; err = cause; reported = cause_reported budget g tokens e cause }

  -- the answer of the rule's program has them
  pub answer_clauses : (tokens : Tokens) (result : Result A EduceError) → IsAnswer (read budget g) tokens result → Clauses budget g tokens result
  answer_clauses tokens (Ok found) is =
      let whole = whole_if_read g again budget tokens found is in record {
        found = whole;
        only = λ x other. (ok_pair (sym is ∙ again budget tokens x other)).0;
        uncaused = whole_uncaused budget g tokens found whole;
        err = tt;
        reported = tt;
      }
  answer_clauses tokens (Err e) (inl short) =
      by_cause tokens e (λ x whole. ap (λ (e : EduceError). e.kind) short) (subst (IsCauseWithin budget g tokens) (sym short) IsCauseWithin.memory)
  answer_clauses tokens (Err e) (inr stop) =
      by_cause tokens e (λ x whole. absurd (stops g again budget tokens stop.0 stop.1 x whole))
      (subst (IsCauseWithin budget g tokens) (sym stop.2) (stop_cause g again budget ready tokens stop.0 stop.1))
