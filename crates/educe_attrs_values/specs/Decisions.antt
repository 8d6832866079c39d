-- Results that the laws of lexing and of rules decide.
use Rattle.std.specs.Prelude.{◌≡◌, ◌⊎◌, ℕ, List, Result, Ok, Err}
use Rattle.std.proofs.Common.{inl, inr}
use Rattle.educe_tokens.specs.declared.error.EduceError.{EduceError}
use Rattle.educe_tokens.specs.declared.token.Token.{Token}
use Rattle.educe_tokens.specs.Causes.{HasCause, IsLexicalCause}
use Rattle.educe_tokens.specs.Steps.{IsReading}
use Rattle.educe_syntax.specs.Causes.{IsUncaused, IsSingle}
use Rattle.educe_syntax.specs.Laws.{RuleLaws}
use Rattle.educe_syntax.specs.Parsed.{IsWhole, IsParseCause}
use Rattle.educe_syntax.specs.Rules.{Rule}
use Rattle.educe_syntax.specs.Steps.{Tokens}
use Rattle.educe_syntax.specs.TokenLaws.{lawful_lexing}

-- Exactly one of a value and a cause exists, and at most one of each; out of memory aside.
pub record Decision {A : Type 0} (Is : A → Type 0) (IsCause : EduceError → Type 0) : Type 0 where
  pub decided : ((x : A) × Is x) ⊎ HasCause IsCause
  pub one : (x y : A) → Is x → Is y → x ≡ y
  pub uncaused : (x : A) → Is x → IsUncaused IsCause
  pub single : IsSingle IsCause

-- What a decision says, as a result.
abbrev pub answer_of : {A : Type 0} {Is : A → Type 0} {IsCause : EduceError → Type 0} → ((x : A) × Is x) ⊎ HasCause IsCause → Result A EduceError
answer_of (inl found) = Ok found.0
answer_of (inr cause) = Err cause.error

-- The decision between the tokens of a text and its lexical cause.
abbrev pub of_text : (text : List ℕ) → Decision (IsReading text) (IsLexicalCause text)
of_text text = record {
  decided = lawful_lexing.decided text;
  one = λ ts us r s. lawful_lexing.one_list text ts us r.lexes s.lexes;
  uncaused = lawful_lexing.uncaused text;
  single = lawful_lexing.one_cause text;
}

-- The decision between the value of tokens by a rule and the cause why they have none.
abbrev pub by_rule : {A : Type 0} {g : Rule A} → RuleLaws g → (tokens : Tokens) → Decision (IsWhole g tokens) (IsParseCause g tokens)
by_rule laws tokens = record {
  decided = laws.decided tokens;
  one = laws.one_reading tokens;
  uncaused = laws.uncaused tokens;
  single = laws.one_cause tokens;
}

-- The tokens of a text, or its lexical cause.
unfoldable pub lexed : List ℕ → Result (List Token) EduceError
lexed text = answer_of (of_text text).decided

-- The value of tokens by a rule, or the cause why they have none.
unfoldable pub parsed : {A : Type 0} {g : Rule A} → RuleLaws g → Tokens → Result A EduceError
parsed laws tokens = answer_of (by_rule laws tokens).decided
