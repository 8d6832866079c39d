-- Rules: the productions of a grammar, made of tokens, brackets, lists and parts.
use Rattle.std.specs.Prelude.{ℕ, Bool, List}
use Rattle.educe_tokens.specs.Bracket.{Bracket}
use Rattle.educe_tokens.specs.declared.written.Written.{Written}
use Rattle.educe_tree.specs.declared.ty.Ty.{Ty}
use Rattle.educe_tree.specs.declared.expr.Expr.{Expr}
use Rattle.educe_grammar.specs.declared.ending.Ending.{Ending}
use Rattle.educe_grammar.specs.declared.operator.Operator.{Operator}
use Rattle.educe_grammar.specs.declared.terminal.Terminal.{Terminal}
use Rattle.educe_grammar.specs.Terminals.{accepts}
use Rattle.educe_grammar.specs.Steps.{Tokens, Found}
use Rattle.educe_grammar.specs.Ahead.{Look, documents}

-- A type with its ending, which decides what may follow it.
abbrev pub Typed : Type 0
Typed = Ty × Ending

-- The four parts, which are mutually recursive.
pub data Part : Type 0 where
  types : Part
  plains : Part
  exprs : Part
  trees : Part

-- The value of each part.
abbrev pub TreeOf : Part → Type 0
TreeOf types = Ty
TreeOf plains = Typed
TreeOf exprs = Expr
TreeOf trees = Unit {0}

-- A rule: the token lists that it allows, with their values. The lookaheads guide the parser only; what a rule allows
-- doesn't depend on them.
pub data Rule : Type 0 → Type 1 where
  -- One token of the terminal.
  token : (asked : Terminal) → Rule (Found (accepts asked))
  -- One documentation comment.
  documentation : Rule (Found documents)
  -- No token, with this value.
  empty : {A : Type 0} → A → Rule A
  -- Both rules in sequence.
  both : {A B : Type 0} → Rule A → Rule B → Rule (A × B)
  -- The rule with its value mapped.
  made : {A B : Type 0} → (A → B) → Rule A → Rule B
  -- The rule where its value passes the test.
  checked : {A : Type 0} → (A → Bool) → Rule A → Rule A
  -- One of two rules; the parser takes the first where the lookahead accepts the tokens.
  either : {A : Type 0} → Look → Rule A → Rule A → Rule A
  -- One of two rules, the second of which doesn't begin with a token of the terminal.
  prefer : {A : Type 0} → Terminal → Rule A → Rule A → Rule A
  -- An operator of two puncts, such as `::`.
  operator : (c d : ℕ) → Rule (Unit {0})
  -- The punct `c`, which isn't the first half of the operator `cd`, followed by the rule.
  lone : {A : Type 0} → (c d : ℕ) → Rule A → Rule A
  -- The longest binary operator at the start of the tokens, followed by the rule.
  binary : {A : Type 0} → Rule A → Rule (Operator × A)
  -- A bracket pair around the rule, which has one less of the budget.
  nest : {A : Type 0} → Bracket → Rule A → Rule A
  -- `<` (not half of `<=`), the rule with one less of the budget, and `>`.
  angles : {A : Type 0} → Rule A → Rule A
  -- A token of the terminal, followed by the rule with one less of the budget.
  under : {A : Type 0} → Terminal → Rule A → Rule A
  -- `->`, followed by the rule with one less of the budget.
  arrow : {A : Type 0} → Rule A → Rule A
  -- Separated items with an optional trailing separator, up to what the lookahead accepts.
  list : {A : Type 0} → Terminal → Look → Rule A → Rule (List A)
  -- A sequence of items, as long as the lookahead accepts the tokens.
  many : {A : Type 0} → Look → Rule A → Rule (List A)
  -- A sequence of at most 128 items, as long as the lookahead accepts the tokens.
  chain : {A : Type 0} → Look → Rule A → Rule (List A)
  -- At least one item, with `::` between items.
  path : {A : Type 0} → Rule A → Rule (List A)
  -- The value with the tokens of its reading.
  sliced : {A : Type 0} → Rule A → Rule (A × Tokens)
  written : {A : Type 0} → Rule A → Rule (A × Written)
  -- A part of the grammar.
  part : (p : Part) → Rule (TreeOf p)
