-- Rules in which no path stands and no value is tested.
use Rattle.std.proofs.Common.{◌≡◌, ℕ, ◌-◌, ◌<◌, ◌≤◌, Bool, true, false, ◌&&◌, refl, arith}
use Rattle.std.proofs.lemmas.Bool.{and_parts, false≢true}
use Rattle.educe_grammar.specs.Rules.{Rule, token, documentation, empty, both, made, checked, either, prefer, operator, lone, binary, nest, angles, under, arrow, list, many, chain, path, sliced, written, part, Typed, types, plains, exprs, trees}
use Rattle.educe_grammar.proofs.Keeping.{has_no_documentation}
use Rattle.educe_syntax_self.proofs.Pieces.{Setting}
use Rattle.educe_syntax_self.proofs.Turns.{Any, Anywhere, Turns, turns_weaker, turns_token, turns_documentation, turns_nothing, turns_both, turns_made, turns_either, turns_operator, turns_lone, turns_binary, turns_nest, turns_angles, turns_under, turns_arrow, turns_written, turns_list, turns_many, turns_chain}

-- the rule is one of those; the truth value says that parts may stand here
unfoldable pub is_simple : Bool → {A : Type 0} → Rule A → Bool
unfolding has_no_documentation
is_simple here (token asked) = true
is_simple here documentation = true
is_simple here (empty x) = true
is_simple here (both g h) = is_simple here g && is_simple here h
is_simple here (made f g) = is_simple here g
is_simple here (checked test g) = false
is_simple here (either look g h) = is_simple here g && is_simple here h
is_simple here (prefer asked g h) = false
is_simple here (operator c d) = true
is_simple here (lone c d g) = is_simple here g
is_simple here (binary g) = is_simple here g
is_simple here (nest b g) = is_simple true g
is_simple here (angles g) = is_simple true g
is_simple here (under asked g) = is_simple true g
is_simple here (arrow g) = is_simple true g
is_simple here (list separator stop g) = is_simple here g
is_simple here (many look g) = is_simple here g
is_simple here (chain look g) = is_simple here g
is_simple here (path g) = false
is_simple here (sliced g) = false
is_simple here (written g) = has_no_documentation g && is_simple here g
is_simple here (part p) = here

-- What is known of the parts with a budget.
pub record PartTurns (c : Setting) (V : Typed → Typed → Type 0) (budget : ℕ) : Type 0 where
  pub a_type : Turns c Anywhere budget (part types) Any
  pub a_plain : Turns c Anywhere budget (part plains) V
  pub an_expression : Turns c Anywhere budget (part exprs) Any
  pub a_tree : Turns c Anywhere budget (part trees) Any

module _ (c : Setting) (V : Typed → Typed → Type 0) (bound : ℕ) (each : (budget : ℕ) → budget < bound → PartTurns c V budget) where
  pub simple : {A : Type 0} (g : Rule A) (here : Bool) (budget : ℕ) → budget ≤ bound → (here ≡ true → budget < bound) → is_simple here g ≡ true → Turns c Anywhere budget g Any
  unfolding is_simple
  simple (token asked) here budget room below h = turns_weaker c (turns_token c asked) (λ x y same. tt)
  simple documentation here budget room below h = turns_weaker c (turns_documentation c) (λ x y same. tt)
  simple (empty z) here budget room below h = turns_nothing c z tt
  simple (both g h) here budget room below is =
      let parts = and_parts (is_simple here g) (is_simple here h) is in
      turns_weaker c (turns_both c (simple g here budget room below parts.0) (simple h here budget room below parts.1)) (λ x y same. tt)
  simple (made f g) here budget room below h = turns_made c (simple g here budget room below h) (λ x y same. tt)
  simple (checked test g) here budget room below h = absurd (false≢true h)
  simple (either look g h) here budget room below is =
      let parts = and_parts (is_simple here g) (is_simple here h) is in
      turns_either c (simple g here budget room below parts.0) (simple h here budget room below parts.1)
  simple (prefer asked g h) here budget room below is = absurd (false≢true is)
  simple (operator c1 d) here budget room below h = turns_weaker c (turns_operator c c1 d) (λ x y same. tt)
  simple (lone c1 d g) here budget room below h = turns_lone c (simple g here budget room below h)
  simple (binary g) here budget room below h = turns_weaker c (turns_binary c (simple g here budget room below h)) (λ x y same. tt)
  simple (nest b g) here budget room below h = turns_nest c (λ some. simple g true (budget - 1) (omega arith) (λ _. omega arith) h)
  simple (angles g) here budget room below h = turns_angles c (λ some. simple g true (budget - 1) (omega arith) (λ _. omega arith) h)
  simple (under asked g) here budget room below h = turns_under c (λ some. simple g true (budget - 1) (omega arith) (λ _. omega arith) h)
  simple (arrow g) here budget room below h = turns_arrow c (λ some. simple g true (budget - 1) (omega arith) (λ _. omega arith) h)
  simple (list separator stop g) here budget room below h = turns_weaker c (turns_list c (simple g here budget room below h)) (λ x y same. tt)
  simple (many look g) here budget room below h = turns_weaker c (turns_many c (simple g here budget room below h)) (λ x y same. tt)
  simple (chain look g) here budget room below h = turns_weaker c (turns_chain c (simple g here budget room below h)) (λ x y same. tt)
  simple (path g) here budget room below h = absurd (false≢true h)
  simple (sliced g) here budget room below h = absurd (false≢true h)
  simple (written g) here budget room below is =
      let parts = and_parts (has_no_documentation g) (is_simple here g) is in
      turns_weaker c (turns_written c parts.0 (simple g here budget room below parts.1)) (λ x y same. tt)
  simple (part types) here budget room below h = (each budget (below h)).a_type
  simple (part plains) here budget room below h = turns_weaker c (each budget (below h)).a_plain (λ x y same. tt)
  simple (part exprs) here budget room below h = (each budget (below h)).an_expression
  simple (part trees) here budget room below h = (each budget (below h)).a_tree
