-- The laws of visits: their results exist.
use Rattle.std.specs.Prelude.{suc}
use Rattle.educe_grammar.specs.Parsed.{depth_limit, IsWhole}
use Rattle.educe_grammar.specs.Reads.{Reads}
use Rattle.educe_grammar.specs.Rules.{Rule}
use Rattle.educe_grammar.specs.Steps.{Tokens}
use Rattle.educe_syntax_self.specs.Heads.{IsHead}
use Rattle.educe_syntax_self.specs.Replacing.{Changed}
use Rattle.educe_syntax_self.specs.Splicing.{replaced_in}
use Rattle.educe_syntax_self.specs.Visits.{IsVisited}

-- Laws of a rule, for each head and each list of tokens.
pub record VisitLaws {A : Type 0} (g : Rule A) : Type 0 where
  -- The tokens after the replacement are by the rule, with one more of the budget.
  pub reads : (head tokens out : Tokens) (x y : A) → Changed head g tokens x out y → Reads (suc depth_limit) g out y
  -- Each parsed value has a visited value, whose tokens have the head in place of each `Self` that a path begins with.
  pub visited : (head tokens : Tokens) (x : A) → IsHead head → IsWhole g tokens x → (y : A) × IsVisited head g tokens x (replaced_in g head tokens) y
