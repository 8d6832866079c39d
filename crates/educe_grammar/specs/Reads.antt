-- The complete grammar: the readings of token lists, with a budget for nesting.
use Rattle.std.specs.Prelude.{ℕ, zero, suc}
use Rattle.educe_grammar.specs.Steps.{Parser, refuse}
use Rattle.educe_grammar.specs.Reading.{Grammar, Parts, Parses}
use Rattle.educe_grammar.specs.Running.{Readers, run}
use Rattle.educe_grammar.specs.Rules.{Rule, Part, TreeOf, types, plains, exprs, trees}
use Rattle.educe_grammar.specs.Types.{any_type, plain_type}
use Rattle.educe_grammar.specs.Expressions.{expression, tree}

-- The rule of each part.
abbrev pub rule_of : (p : Part) → Rule (TreeOf p)
rule_of types = any_type
rule_of plains = plain_type
rule_of exprs = expression
rule_of trees = tree

-- The relations of the parts for budgets below the first number; a part inside another has a smaller budget.
unfoldable pub parts_below : ℕ → Parts
parts_below zero budget p = λ tokens x. ⊥
parts_below (suc n) budget p = Parses (parts_below n) budget (rule_of p)

-- The relations of the parts, for any budget.
abbrev pub parts : Parts
parts budget = parts_below (suc budget) budget

-- The tokens have the value by the rule, with this budget.
abbrev pub Reads : ℕ → {A : Type 0} → Rule A → Grammar A
Reads budget g = Parses parts budget g

-- The programs of the parts with each budget below a number.
unfoldable pub readers_below : ℕ → Readers
readers_below zero budget p = refuse
readers_below (suc n) budget p = run (readers_below n) budget (rule_of p)

-- The programs of the parts with each budget.
abbrev pub readers : Readers
readers budget = readers_below (suc budget) budget

-- The program of a rule, with this budget.
abbrev pub read : ℕ → {A : Type 0} → Rule A → Parser A
read budget g = run readers budget g
