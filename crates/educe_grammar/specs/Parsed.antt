-- The results of parsing a whole list of tokens by a rule.
use Rattle.std.specs.Prelude.{◌≡◌, ℕ, ◌-◌, ◌<◌, min, [], ◌∷◌, ◌++◌, length, slice_get, Option, Some, None, Result, Ok, Err}
use Rattle.educe_tokens.specs.declared.brackets.TheConstants.{NESTING}
use Rattle.educe_tokens.specs.declared.span.Span.{Span}
use Rattle.educe_tokens.specs.declared.token.Token.{Token}
use Rattle.educe_tokens.specs.declared.error.EduceError.{EduceError}
use Rattle.educe_tokens.specs.declared.error.Kind.TheVariants.{Syntax, TooDeep, Alloc}
use Rattle.educe_tokens.specs.Refusals.{placeless, syntax_at, too_deep_at}
use Rattle.educe_grammar.specs.declared.parse_error.ParseError.{ParseError}
use Rattle.educe_grammar.specs.declared.parse_error.ParseError.TheVariants.{Memory, Syntax as SyntaxAt, TooDeep as TooDeepAt}
use Rattle.educe_grammar.specs.Steps.{Tokens, Outcome}
use Rattle.educe_grammar.specs.Depth.{counted}
use Rattle.educe_grammar.specs.Reads.{Reads, read}
use Rattle.educe_grammar.specs.Rules.{Rule}

-- The limit on the nesting of brackets, angle lists, `&`, `*`, `dyn` and `->`.
abbrev pub depth_limit : ℕ
depth_limit = NESTING

-- The whole list has this value by the rule, within the limits.
abbrev pub IsWhole : {A : Type 0} → Rule A → Tokens → A → Type 0
IsWhole g tokens x = Reads depth_limit g tokens x

-- The whole list has no value by the rule, with this budget.
abbrev pub HasNoReading : {A : Type 0} → ℕ → Rule A → Tokens → Type 0
HasNoReading {A = A} budget g tokens = (x : A) → Reads budget g tokens x → ⊥

-- ---- places

-- The end of the last token, or 0 for the empty list.
abbrev pub end_of : Tokens → ℕ
end_of tokens = end_of_last (slice_get tokens (length tokens - 1))
  where
    end_of_last : Option Token → ℕ
    end_of_last None = 0
    end_of_last (Some t) = t.span.end

-- The empty span at the end of the tokens.
abbrev pub end_place : Tokens → Span
end_place tokens = record { start = end_of tokens; end = end_of tokens }

-- The span of the token at which this many are left; the empty span at the end where none is left.
abbrev pub place_at : Tokens → ℕ → Span
place_at tokens left = place_of (slice_get tokens (length tokens - left))
  where
    place_of : Option Token → Span
    place_of None = end_place tokens
    place_of (Some t) = t.span

-- ---- rejections

-- The error of a program, where it fails or leaves tokens unread.
abbrev pub stop_of : {A : Type 0} → Outcome A → Option ParseError
stop_of (Ok (x, [])) = None
stop_of (Ok (x, t ∷ rest)) = Some (SyntaxAt (length (t ∷ rest)))
stop_of (Err e) = Some e

-- The rejection of the tokens that an error becomes.
abbrev pub refusal_of : Tokens → ParseError → EduceError
refusal_of tokens Memory = placeless Alloc
refusal_of tokens (SyntaxAt left) = syntax_at (place_at tokens left)
refusal_of tokens (TooDeepAt left) = too_deep_at (place_at tokens left)

-- How many openers may count where a list is read with this budget: no more than the budget, and no more than the limit,
-- which holds for the links of a chain whatever the budget.
abbrev pub depth_within : ℕ → ℕ
depth_within budget = min budget depth_limit

-- The causes of rejection of a whole list with this budget: it has no reading; or it has none, and at the place, a token,
-- more openers count than may. The place is where the parser stops. Out of memory may end any call.
pub data IsCauseWithin {A : Type 0} (budget : ℕ) (g : Rule A) (tokens : Tokens) : EduceError → Type 0 where
  syntax : (left : ℕ) → HasNoReading budget g tokens → stop_of (read budget g tokens) ≡ Some (SyntaxAt left)
      → IsCauseWithin budget g tokens (record { kind = Syntax; span = place_at tokens left; words = [] })
  too_deep : (front rest : Tokens) (t : Token) → HasNoReading budget g tokens → stop_of (read budget g tokens) ≡ Some (TooDeepAt (length (t ∷ rest)))
      → tokens ≡ front ++ t ∷ rest → depth_within budget < counted (front ++ t ∷ []) → IsCauseWithin budget g tokens (record { kind = TooDeep; span = t.span; words = [] })
  memory : IsCauseWithin budget g tokens (placeless Alloc)

-- The causes of rejection of a whole list, within the limits.
abbrev pub IsParseCause : {A : Type 0} → Rule A → Tokens → EduceError → Type 0
IsParseCause g tokens = IsCauseWithin depth_limit g tokens

-- The result is this value or out of memory.
abbrev pub IsOnly : {A : Type 0} → A → Result A EduceError → Type 0
IsOnly x (Ok found) = found ≡ x
IsOnly x (Err e) = e.kind ≡ Alloc
