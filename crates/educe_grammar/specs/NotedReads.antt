-- The complete parser as a plain program that notes each path that begins with `Self`.
use Rattle.std.specs.Prelude.{ℕ, zero, suc, length, Err}
use Rattle.educe_grammar.specs.declared.parse_error.ParseError.TheVariants.{Syntax}
use Rattle.educe_grammar.specs.Reads.{rule_of}
use Rattle.educe_grammar.specs.Rules.{Rule}
use Rattle.educe_grammar.specs.Noting.{Noter, Noters, run}

-- The programs of the parts for budgets below the first number.
unfoldable pub readers_below : ℕ → Noters
readers_below zero budget p = λ s. Err (Syntax (length s.cursor))
readers_below (suc n) budget p = run (readers_below n) budget (rule_of p)

-- The programs of the parts, for any budget.
abbrev pub readers : Noters
readers budget = readers_below (suc budget) budget

-- The program of a rule, with this budget.
abbrev pub read : ℕ → {A : Type 0} → Rule A → Noter A
read budget g = run readers budget g
