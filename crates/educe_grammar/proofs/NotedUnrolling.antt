-- A part is its rule, for the programs that note: more fuel changes nothing where the parts stand inside with less budget.
use Rattle.std.proofs.Common.{◌≡◌, ℕ, zero, suc, ◌-◌, ◌<◌, Bool, true, if◌then◌else◌, [], length, refl, inl, inr, arith, Ok, Err}
use Rattle.educe_tokens.specs.Lexes.{lexemes}
use Rattle.educe_tokens.specs.Copied.{may_be_copied}
use Rattle.educe_tokens.specs.declared.token.Token.{Token}
use Rattle.educe_grammar.specs.declared.parse_error.ParseError.TheVariants.{Syntax}
use Rattle.educe_grammar.specs.declared.parse_stream.ParseStream.{ParseStream}
use Rattle.educe_grammar.specs.declared.terminal.Terminal.TheVariants.{Sign}
use Rattle.educe_grammar.specs.Terminals.{accepts}
use Rattle.educe_grammar.specs.Steps.{expect, enter, since}
use Rattle.educe_grammar.specs.Ahead.{sees_any, sees, opens, closes, begins_pair, begins_lone}
use Rattle.educe_grammar.specs.Operators.{operator_at}
use Rattle.educe_grammar.specs.Reading.{chain_limit}
use Rattle.educe_grammar.specs.Running.{skip_if, written_if}
use Rattle.educe_grammar.specs.Rules.{Rule, token, documentation, empty, both, made, checked, either, prefer, operator, lone, binary, nest, angles, under, arrow, list, many, chain, path, sliced, written, part, Part}
use Rattle.educe_grammar.specs.Reads.{rule_of}
use Rattle.educe_grammar.specs.Noting.{Noter, Noters, and_then, plainly, items, repeat, links, segments, binary_with, run}
use Rattle.educe_grammar.specs.NotedReads.{readers_below, readers, read}
use Rattle.educe_grammar.proofs.Unrolling.{Meets, has_parts_inside, meets_left, meets_right, meets_inside, meets_part, part_inside}

-- what is read up to a token that ends it
abbrev ended : {A : Type 0} → (Token → Bool) → Noter A → Noter A
ended test p = λ s. and_then (p s) (λ x s. and_then (plainly (expect test) s) (λ _ s. Ok (x, s)))

-- what nests is read alike where what stands inside is
entered_alike : {A : Type 0} (budget left : ℕ) (p q : Noter A) → (0 < budget → (t : ParseStream) → p t ≡ q t) → (s : ParseStream)
    → and_then (plainly (enter budget left) s) (λ _. p) ≡ and_then (plainly (enter budget left) s) (λ _. q)
unfolding enter
entered_alike zero left p q same s = refl
entered_alike (suc budget) left p q same s = same (omega arith) s

-- what is read up to a token that ends it is read alike where the content is
ended_alike : {A : Type 0} (test : Token → Bool) (p q : Noter A) → ((s : ParseStream) → p s ≡ q s) → (s : ParseStream) → ended test p s ≡ ended test q s
ended_alike test p q same s = λ i. and_then (same s i) (λ x s. and_then (plainly (expect test) s) (λ _ s. Ok (x, s)))

module _ (bound : ℕ) (first second : Noters) (same : (budget : ℕ) → budget < bound → (p : Part) (s : ParseStream) → first budget p s ≡ second budget p s) where
  -- programs of the parts that agree below a bound make rules agree
  pub run_alike : {A : Type 0} (g : Rule A) (budget : ℕ) → Meets bound budget (has_parts_inside g) → (s : ParseStream) → run first budget g s ≡ run second budget g s
  unfolding run has_parts_inside
  run_alike (token asked) budget meets s = refl
  run_alike documentation budget meets s = refl
  run_alike (empty x) budget meets s = refl
  run_alike (both g h) budget meets s =
      let e = run_alike g budget (meets_left (has_parts_inside g) (has_parts_inside h) meets) in
      let f = run_alike h budget (meets_right (has_parts_inside g) (has_parts_inside h) meets) in
      λ i. and_then (e s i) (λ x s. and_then (f s i) (λ y s. Ok ((x, y), s)))
  run_alike (made f g) budget meets s = let e = run_alike g budget meets in λ i. and_then (e s i) (λ x s. Ok (f x, s))
  run_alike (checked test g) budget meets s =
      let e = run_alike g budget meets in λ i. and_then (e s i) (λ x s. if test x then Ok (x, s) else Err (Syntax (length s.cursor)))
  run_alike (either look g h) budget meets s =
      let e = run_alike g budget (meets_left (has_parts_inside g) (has_parts_inside h) meets) in
      let f = run_alike h budget (meets_right (has_parts_inside g) (has_parts_inside h) meets) in
      λ i. if sees_any look s.cursor then e s i else f s i
  run_alike (prefer asked g h) budget meets s =
      let e = run_alike g budget (meets_left (has_parts_inside g) (has_parts_inside h) meets) in
      let f = run_alike h budget (meets_right (has_parts_inside g) (has_parts_inside h) meets) in
      λ i. if sees (accepts asked) s.cursor then e s i else f s i
  run_alike (operator c d) budget meets s = refl
  run_alike (lone c d g) budget meets s = let e = run_alike g budget meets in λ i. and_then (plainly (λ ts. skip_if (begins_lone c d ts) 1 ts) s) (λ _ s. e s i)
  run_alike (binary g) budget meets s = let e = run_alike g budget meets in λ i. binary_with (operator_at s.cursor) (λ s. e s i) s
  run_alike (nest b g) budget meets s =
      let f = run_alike g (budget - 1) in
      let e = entered_alike budget (length s.cursor) (ended (closes b) (run first (budget - 1) g)) (ended (closes b) (run second (budget - 1) g)) (λ some.
      ended_alike (closes b) (run first (budget - 1) g) (run second (budget - 1) g) (f (meets_inside bound budget true (has_parts_inside g) meets some))) in
      λ i. and_then (plainly (expect (opens b)) s) (λ _ t. e t i)
  run_alike (angles g) budget meets s =
      let f = run_alike g (budget - 1) in
      let e = entered_alike budget (length s.cursor) (ended (accepts (Sign 62)) (run first (budget - 1) g)) (ended (accepts (Sign 62)) (run second (budget - 1) g)) (λ some.
      ended_alike (accepts (Sign 62)) (run first (budget - 1) g) (run second (budget - 1) g) (f (meets_inside bound budget true (has_parts_inside g) meets some))) in
      λ i. and_then (plainly (λ ts. skip_if (begins_lone 60 61 ts) 1 ts) s) (λ _ t. e t i)
  run_alike (under asked g) budget meets s =
      let e = entered_alike budget (length s.cursor) (run first (budget - 1) g) (run second (budget - 1) g) (λ some.
      run_alike g (budget - 1) (meets_inside bound budget true (has_parts_inside g) meets some)) in
      λ i. and_then (plainly (expect (accepts asked)) s) (λ _ t. e t i)
  run_alike (arrow g) budget meets s =
      let e = entered_alike budget (length s.cursor) (run first (budget - 1) g) (run second (budget - 1) g) (λ some.
      run_alike g (budget - 1) (meets_inside bound budget true (has_parts_inside g) meets some)) in
      λ i. and_then (plainly (λ ts. skip_if (begins_pair 45 62 ts) 2 ts) s) (λ _ t. e t i)
  run_alike (list separator stop g) budget meets s = let e = run_alike g budget meets in λ i. items (accepts separator) stop (λ s. e s i) (suc (length s.cursor)) [] s
  run_alike (many look g) budget meets s = let e = run_alike g budget meets in λ i. repeat look (λ s. e s i) (suc (length s.cursor)) [] s
  run_alike (chain look g) budget meets s = let e = run_alike g budget meets in λ i. links look (λ s. e s i) chain_limit [] s
  run_alike (path g) budget meets s = let e = run_alike g budget meets in λ i. segments (λ s. e s i) s
  run_alike (sliced g) budget meets s = let e = run_alike g budget meets in λ i. and_then (e s i) (λ x t. Ok ((x, since s.cursor t.cursor), t))
  run_alike (written g) budget meets s =
      let e = run_alike g budget meets in λ i. and_then (e s i) (λ x. plainly (λ rest. written_if x (since s.cursor rest) rest (may_be_copied (lexemes (since s.cursor rest))) refl))
  run_alike (part p) budget meets s = same budget (meets_part bound budget meets) p s

-- with more fuel than budget the program of a part is the same
readers_alike : (n m budget : ℕ) (p : Part) (s : ParseStream) → budget < n → budget < m → readers_below n budget p s ≡ readers_below m budget p s
unfolding readers_below
readers_alike zero m budget p s h k = absurd (omega arith)
readers_alike (suc n) zero budget p s h k = absurd (omega arith)
readers_alike (suc n) (suc m) budget p s h k =
    run_alike budget (readers_below n) (readers_below m) (λ b below q t. readers_alike n m b q t (omega arith) (omega arith)) (rule_of p) budget (inr (omega arith, part_inside p)) s

-- the program of a rule needs no more fuel than one above the budget
pub read_below : {A : Type 0} (budget : ℕ) (g : Rule A) (s : ParseStream) → read budget g s ≡ run (readers_below (suc budget)) budget g s
read_below budget g s =
    run_alike (suc budget) readers (readers_below (suc budget)) (λ b below q t. readers_alike (suc b) (suc budget) b q t (omega arith) (omega arith)) g budget (inl (omega arith)) s

-- the program of a part is that of its rule
pub readers_unroll : (budget : ℕ) (p : Part) (s : ParseStream) → readers budget p s ≡ read budget (rule_of p) s
unfolding readers_below
readers_unroll budget p s =
    run_alike budget (readers_below budget) readers (λ b below q t. readers_alike budget (suc b) b q t (omega arith) (omega arith)) (rule_of p) budget (inr (omega arith, part_inside p)) s
