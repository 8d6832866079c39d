-- A part is its rule: more fuel changes nothing where the parts stand inside with less budget.
use Rattle.std.proofs.Common.{◌≡◌, ℕ, zero, suc, ◌-◌, ◌<◌, ◌≤◌, Bool, true, false, ◌&&◌, if◌then◌else◌, List, [], length, drop, refl, ◌⊎◌, inl, inr, arith, Ok, Err}
use Rattle.educe_tokens.specs.Lexes.{lexemes}
use Rattle.educe_tokens.specs.Copied.{may_be_copied}
use Rattle.educe_tokens.specs.declared.token.Token.{Token}
use Rattle.educe_grammar.specs.declared.parse_error.ParseError.TheVariants.{Syntax}
use Rattle.educe_grammar.specs.declared.terminal.Terminal.TheVariants.{Sign}
use Rattle.educe_grammar.specs.Terminals.{accepts}
use Rattle.educe_grammar.specs.Steps.{Tokens, Parser, and_then, expect, enter, since}
use Rattle.educe_grammar.specs.Ahead.{sees_any, sees, opens, closes, begins_pair, begins_lone}
use Rattle.educe_grammar.specs.Operators.{operator_at}
use Rattle.educe_grammar.specs.Reading.{Grammar, Parts, Parses, Between, Under, Listed, Repeated, Linked, chain_limit}
use Rattle.educe_grammar.specs.Running.{Readers, run, items, repeat, links, segments, binary_with, skip_if, written_if}
use Rattle.educe_grammar.specs.Rules.{Rule, token, documentation, empty, both, made, checked, either, prefer, operator, lone, binary, nest, angles, under, arrow, list, many, chain, path, sliced, written, part, Part, TreeOf, types, plains, exprs, trees}
use Rattle.educe_grammar.specs.Reads.{parts_below, parts, readers_below, readers, Reads, read, rule_of}
use Rattle.educe_grammar.proofs.Beginnings.{both_hold}
use Rattle.educe_grammar.proofs.Productions.{productions}
use Rattle.educe_grammar.proofs.Steps.{ended}

-- the parts stand only inside, where there is less budget
unfoldable pub has_parts_inside : {A : Type 0} → Rule A → Bool
has_parts_inside (token asked) = true
has_parts_inside documentation = true
has_parts_inside (empty x) = true
has_parts_inside (both g h) = has_parts_inside g && has_parts_inside h
has_parts_inside (made f g) = has_parts_inside g
has_parts_inside (checked test g) = has_parts_inside g
has_parts_inside (either look g h) = has_parts_inside g && has_parts_inside h
has_parts_inside (prefer asked g h) = has_parts_inside g && has_parts_inside h
has_parts_inside (operator c d) = true
has_parts_inside (lone c d g) = has_parts_inside g
has_parts_inside (binary g) = has_parts_inside g
has_parts_inside (nest b g) = true
has_parts_inside (angles g) = true
has_parts_inside (under asked g) = true
has_parts_inside (arrow g) = true
has_parts_inside (list separator stop g) = has_parts_inside g
has_parts_inside (many look g) = has_parts_inside g
has_parts_inside (chain look g) = has_parts_inside g
has_parts_inside (path g) = has_parts_inside g
has_parts_inside (sliced g) = has_parts_inside g
has_parts_inside (written g) = has_parts_inside g
has_parts_inside (part p) = false

-- parts of less budget than a bound are met: the budget is below it, or the parts stand inside
abbrev pub Meets : ℕ → ℕ → Bool → Type 0
Meets bound budget inside = (budget < bound) ⊎ ((budget ≤ bound) × (inside ≡ true))

-- the first of two rules
pub meets_left : {bound budget : ℕ} (a b : Bool) → Meets bound budget (a && b) → Meets bound budget a
meets_left a b (inl h) = inl h
meets_left a b (inr h) = inr (h.0, (both_hold a b h.1).0)

-- the second of two rules
pub meets_right : {bound budget : ℕ} (a b : Bool) → Meets bound budget (a && b) → Meets bound budget b
meets_right a b (inl h) = inl h
meets_right a b (inr h) = inr (h.0, (both_hold a b h.1).1)

-- inside there is less budget
pub meets_inside : (bound budget : ℕ) (a b : Bool) → Meets bound budget a → 0 < budget → Meets bound (budget - 1) b
meets_inside bound budget a b (inl h) some = inl (omega arith)
meets_inside bound budget a b (inr h) some = inl (omega (arith, h.0))

-- parts of the same budget are met only where that is below the bound
pub meets_part : (bound budget : ℕ) → Meets bound budget false → budget < bound
meets_part bound budget (inl h) = h
meets_part bound budget (inr h) = absurd (let e = h.1 in cc)

-- what nests is read alike where what stands inside is
entered_alike : {A : Type 0} (budget left : ℕ) (p q : Parser A) → (0 < budget → (us : Tokens) → p us ≡ q us) → (ts : Tokens)
    → and_then (enter budget left ts) (λ _. p) ≡ and_then (enter budget left ts) (λ _. q)
unfolding enter
entered_alike zero left p q same ts = refl
entered_alike (suc budget) left p q same ts = same (omega arith) ts

-- what is read up to a token that ends it is read alike where the content is
ended_alike : {A : Type 0} (test : Token → Bool) (p q : Parser A) → ((ts : Tokens) → p ts ≡ q ts) → (ts : Tokens) → ended test p ts ≡ ended test q ts
ended_alike test p q same ts = λ i. and_then (same ts i) (λ x ts. and_then (expect test ts) (λ _ ts. Ok (x, ts)))

module _ (bound : ℕ) (first second : Readers) (same : (budget : ℕ) → budget < bound → (p : Part) (ts : Tokens) → first budget p ts ≡ second budget p ts) where
  -- programs of the parts that agree below a bound make rules agree
  pub run_alike : {A : Type 0} (g : Rule A) (budget : ℕ) → Meets bound budget (has_parts_inside g) → (ts : Tokens) → run first budget g ts ≡ run second budget g ts
  unfolding run has_parts_inside
  run_alike (token asked) budget meets ts = refl
  run_alike documentation budget meets ts = refl
  run_alike (empty x) budget meets ts = refl
  run_alike (both g h) budget meets ts =
      let e = run_alike g budget (meets_left (has_parts_inside g) (has_parts_inside h) meets) in
      let f = run_alike h budget (meets_right (has_parts_inside g) (has_parts_inside h) meets) in
      λ i. and_then (e ts i) (λ x ts. and_then (f ts i) (λ y ts. Ok ((x, y), ts)))
  run_alike (made f g) budget meets ts = let e = run_alike g budget meets in λ i. and_then (e ts i) (λ x ts. Ok (f x, ts))
  run_alike (checked test g) budget meets ts =
      let e = run_alike g budget meets in λ i. and_then (e ts i) (λ x ts. if test x then Ok (x, ts) else Err (Syntax (length ts)))
  run_alike (either look g h) budget meets ts =
      let e = run_alike g budget (meets_left (has_parts_inside g) (has_parts_inside h) meets) in
      let f = run_alike h budget (meets_right (has_parts_inside g) (has_parts_inside h) meets) in
      λ i. if sees_any look ts then e ts i else f ts i
  run_alike (prefer asked g h) budget meets ts =
      let e = run_alike g budget (meets_left (has_parts_inside g) (has_parts_inside h) meets) in
      let f = run_alike h budget (meets_right (has_parts_inside g) (has_parts_inside h) meets) in
      λ i. if sees (accepts asked) ts then e ts i else f ts i
  run_alike (operator c d) budget meets ts = refl
  run_alike (lone c d g) budget meets ts = let e = run_alike g budget meets in λ i. and_then (skip_if (begins_lone c d ts) 1 ts) (λ _ ts. e ts i)
  run_alike (binary g) budget meets ts = let e = run_alike g budget meets in λ i. binary_with (operator_at ts) (λ ts. e ts i) ts
  run_alike (nest b g) budget meets ts =
      let f = run_alike g (budget - 1) in
      let e = entered_alike budget (length ts) (ended (closes b) (run first (budget - 1) g)) (ended (closes b) (run second (budget - 1) g)) (λ some.
      ended_alike (closes b) (run first (budget - 1) g) (run second (budget - 1) g) (f (meets_inside bound budget true (has_parts_inside g) meets some))) in
      λ i. and_then (expect (opens b) ts) (λ _ rest. e rest i)
  run_alike (angles g) budget meets ts =
      let f = run_alike g (budget - 1) in
      let e = entered_alike budget (length ts) (ended (accepts (Sign 62)) (run first (budget - 1) g)) (ended (accepts (Sign 62)) (run second (budget - 1) g)) (λ some.
      ended_alike (accepts (Sign 62)) (run first (budget - 1) g) (run second (budget - 1) g) (f (meets_inside bound budget true (has_parts_inside g) meets some))) in
      λ i. and_then (skip_if (begins_lone 60 61 ts) 1 ts) (λ _ rest. e rest i)
  run_alike (under asked g) budget meets ts =
      let e = entered_alike budget (length ts) (run first (budget - 1) g) (run second (budget - 1) g) (λ some.
      run_alike g (budget - 1) (meets_inside bound budget true (has_parts_inside g) meets some)) in
      λ i. and_then (expect (accepts asked) ts) (λ _ rest. e rest i)
  run_alike (arrow g) budget meets ts =
      let e = entered_alike budget (length ts) (run first (budget - 1) g) (run second (budget - 1) g) (λ some.
      run_alike g (budget - 1) (meets_inside bound budget true (has_parts_inside g) meets some)) in
      λ i. and_then (skip_if (begins_pair 45 62 ts) 2 ts) (λ _ rest. e rest i)
  run_alike (list separator stop g) budget meets ts = let e = run_alike g budget meets in λ i. items (accepts separator) stop (λ ts. e ts i) (suc (length ts)) [] ts
  run_alike (many look g) budget meets ts = let e = run_alike g budget meets in λ i. repeat look (λ ts. e ts i) (suc (length ts)) [] ts
  run_alike (chain look g) budget meets ts = let e = run_alike g budget meets in λ i. links look (λ ts. e ts i) chain_limit [] ts
  run_alike (path g) budget meets ts = let e = run_alike g budget meets in λ i. segments (λ ts. e ts i) (suc (length ts)) [] ts
  run_alike (sliced g) budget meets ts = let e = run_alike g budget meets in λ i. and_then (e ts i) (λ x rest. Ok ((x, since ts rest), rest))
  run_alike (written g) budget meets ts =
      let e = run_alike g budget meets in λ i. and_then (e ts i) (λ x rest. written_if x (since ts rest) rest (may_be_copied (lexemes (since ts rest))) refl)
  run_alike (part p) budget meets ts = same budget (meets_part bound budget meets) p ts

-- the parts stand inside in each part's rule
pub part_inside : (p : Part) → has_parts_inside (rule_of p) ≡ true
unfolding has_parts_inside productions
part_inside types = refl
part_inside plains = refl
part_inside exprs = refl
part_inside trees = refl

-- with more fuel than budget the program of a part is the same
readers_alike : (n m budget : ℕ) (p : Part) (ts : Tokens) → budget < n → budget < m → readers_below n budget p ts ≡ readers_below m budget p ts
unfolding readers_below
readers_alike zero m budget p ts h k = absurd (omega arith)
readers_alike (suc n) zero budget p ts h k = absurd (omega arith)
readers_alike (suc n) (suc m) budget p ts h k =
    run_alike budget (readers_below n) (readers_below m) (λ b below q us. readers_alike n m b q us (omega arith) (omega arith)) (rule_of p) budget (inr (omega arith, part_inside p)) ts

-- the program of a rule needs no more fuel than one above the budget
pub read_below : {A : Type 0} (budget : ℕ) (g : Rule A) (ts : Tokens) → read budget g ts ≡ run (readers_below (suc budget)) budget g ts
read_below budget g ts =
    run_alike (suc budget) readers (readers_below (suc budget)) (λ b below q us. readers_alike (suc b) (suc budget) b q us (omega arith) (omega arith)) g budget (inl (omega arith)) ts

-- the program of a part is that of its rule
pub readers_unroll : (budget : ℕ) (p : Part) (ts : Tokens) → readers budget p ts ≡ read budget (rule_of p) ts
unfolding readers_below
readers_unroll budget p ts =
    run_alike budget (readers_below budget) readers (λ b below q us. readers_alike budget (suc b) b q us (omega arith) (omega arith)) (rule_of p) budget (inr (omega arith, part_inside p)) ts

module _ {A : Type 0} (R S : Grammar A) (into : (tokens : Tokens) (x : A) → R tokens x → S tokens x) where
  -- items with separators between
  listed_into : (separates : Token → Bool) {tokens : Tokens} {xs : List A} → Listed R separates tokens xs → Listed S separates tokens xs
  listed_into separates Listed.none = Listed.none
  listed_into separates (Listed.last {x = x} tokens is) = Listed.last tokens (into tokens x is)
  listed_into separates (Listed.more {x = x} front rest separator is between others) = Listed.more front rest separator (into front x is) between (listed_into separates others)

  -- items one behind the other
  repeated_into : {tokens : Tokens} {xs : List A} → Repeated R tokens xs → Repeated S tokens xs
  repeated_into Repeated.none = Repeated.none
  repeated_into (Repeated.more {x = x} front rest is others) = Repeated.more front rest (into front x is) (repeated_into others)

  -- items with `::` between
  linked_into : {tokens : Tokens} {xs : List A} → Linked R tokens xs → Linked S tokens xs
  linked_into (Linked.last {x = x} tokens is) = Linked.last tokens (into tokens x is)
  linked_into (Linked.more {x = x} front rest first second is between others) = Linked.more front rest first second (into front x is) between (linked_into others)

-- what stands between two tokens
between_into : {A : Type 0} (R S : Grammar A) (budget : ℕ) (opening closing : Token → Bool) (tokens : Tokens) (x : A) → (0 < budget → (tokens : Tokens) → R tokens x → S tokens x)
    → Between R budget opening closing tokens x → Between S budget opening closing tokens x
between_into R S budget opening closing tokens x into is =
    record { first = is.first; inside = is.inside; last = is.last; is = is.is; allowed = is.allowed; opens = is.opens; closes = is.closes; reads = into is.allowed is.inside is.reads }

-- what stands behind a token
under_into : {A : Type 0} (R S : Grammar A) (budget : ℕ) (opening : Token → Bool) (tokens : Tokens) (x : A) → (0 < budget → (tokens : Tokens) → R tokens x → S tokens x)
    → Under R budget opening tokens x → Under S budget opening tokens x
under_into R S budget opening tokens x into is =
    record { first = is.first; inside = is.inside; is = is.is; allowed = is.allowed; opens = is.opens; reads = into is.allowed is.inside is.reads }

module _ (bound : ℕ) (first second : Parts) (into : (budget : ℕ) → budget < bound → (p : Part) (tokens : Tokens) (x : TreeOf p) → first budget p tokens x → second budget p tokens x) where
  -- where the parts below a bound are parts of another kind, so are the rules
  pub parses_into : {A : Type 0} (g : Rule A) (budget : ℕ) → Meets bound budget (has_parts_inside g) → (tokens : Tokens) (x : A) → Parses first budget g tokens x → Parses second budget g tokens x
  unfolding Parses has_parts_inside
  parses_into (token asked) budget meets tokens x is = is
  parses_into documentation budget meets tokens x is = is
  parses_into (empty y) budget meets tokens x is = is
  parses_into (both g h) budget meets tokens x is = (
    is.0,
    is.1,
    is.2,
    parses_into g budget (meets_left (has_parts_inside g) (has_parts_inside h) meets) is.0 x.0 is.3,
    parses_into h budget (meets_right (has_parts_inside g) (has_parts_inside h) meets) is.1 x.1 is.4,
  )
  parses_into (made f g) budget meets tokens x is = (is.0, is.1, parses_into g budget meets tokens is.0 is.2)
  parses_into (checked test g) budget meets tokens x is = (is.0, parses_into g budget meets tokens x is.1)
  parses_into (either look g h) budget meets tokens x (inl is) = inl (parses_into g budget (meets_left (has_parts_inside g) (has_parts_inside h) meets) tokens x is)
  parses_into (either look g h) budget meets tokens x (inr is) = inr (parses_into h budget (meets_right (has_parts_inside g) (has_parts_inside h) meets) tokens x is)
  parses_into (prefer asked g h) budget meets tokens x (inl is) = inl (parses_into g budget (meets_left (has_parts_inside g) (has_parts_inside h) meets) tokens x is)
  parses_into (prefer asked g h) budget meets tokens x (inr is) = inr (is.0, parses_into h budget (meets_right (has_parts_inside g) (has_parts_inside h) meets) tokens x is.1)
  parses_into (operator c d) budget meets tokens x is = is
  parses_into (lone c d g) budget meets tokens x is = (is.0, is.1, is.2, is.3, parses_into g budget meets is.1 x is.4)
  parses_into (binary g) budget meets tokens x is = (is.0, is.1, parses_into g budget meets (drop is.0 tokens) x.1 is.2)
  parses_into (nest b g) budget meets tokens x is =
      between_into (Parses first (budget - 1) g) (Parses second (budget - 1) g) budget (opens b) (closes b) tokens x (λ some us. parses_into g (budget - 1) (meets_inside bound budget true (has_parts_inside g) meets some) us x) is
  parses_into (angles g) budget meets tokens x is =
      (between_into (Parses first (budget - 1) g) (Parses second (budget - 1) g) budget (accepts (Sign 60)) (accepts (Sign 62)) tokens x (λ some us. parses_into g (budget - 1) (meets_inside bound budget true (has_parts_inside g) meets some) us x) is.0, is.1)
  parses_into (under asked g) budget meets tokens x is =
      under_into (Parses first (budget - 1) g) (Parses second (budget - 1) g) budget (accepts asked) tokens x (λ some us. parses_into g (budget - 1) (meets_inside bound budget true (has_parts_inside g) meets some) us x) is
  parses_into (arrow g) budget meets tokens x is =
      (is.0, is.1, is.2, is.3, is.4, is.5, parses_into g (budget - 1) (meets_inside bound budget true (has_parts_inside g) meets is.4) is.2 x is.6)
  parses_into (list separator stop g) budget meets tokens xs is =
      listed_into (Parses first budget g) (Parses second budget g) (λ tokens x is. parses_into g budget meets tokens x is) (accepts separator) is
  parses_into (many look g) budget meets tokens xs is = repeated_into (Parses first budget g) (Parses second budget g) (λ tokens x is. parses_into g budget meets tokens x is) is
  parses_into (chain look g) budget meets tokens xs is =
      (repeated_into (Parses first budget g) (Parses second budget g) (λ tokens x is. parses_into g budget meets tokens x is) is.0, is.1)
  parses_into (path g) budget meets tokens xs is = linked_into (Parses first budget g) (Parses second budget g) (λ tokens x is. parses_into g budget meets tokens x is) is
  parses_into (sliced g) budget meets tokens x is = (parses_into g budget meets tokens x.0 is.0, is.1)
  parses_into (written g) budget meets tokens x is = (parses_into g budget meets tokens x.0 is.0, is.1)
  parses_into (part p) budget meets tokens x is = into budget (meets_part bound budget meets) p tokens x is

-- with more fuel than budget a part is the same
parts_into : (n m budget : ℕ) (p : Part) (tokens : Tokens) (x : TreeOf p) → budget < n → budget < m → parts_below n budget p tokens x → parts_below m budget p tokens x
unfolding parts_below
parts_into zero m budget p tokens x h k is = absurd (omega arith)
parts_into (suc n) zero budget p tokens x h k is = absurd (omega arith)
parts_into (suc n) (suc m) budget p tokens x h k is =
    parses_into budget (parts_below n) (parts_below m) (λ b below q us y. parts_into n m b q us y (omega arith) (omega arith)) (rule_of p) budget (inr (omega arith, part_inside p)) tokens x is

-- a part is by its rule
pub parts_unroll : (budget : ℕ) (p : Part) (tokens : Tokens) (x : TreeOf p) → parts budget p tokens x → Reads budget (rule_of p) tokens x
unfolding parts_below
parts_unroll budget p tokens x is =
    parses_into budget (parts_below budget) parts (λ b below q us y. parts_into budget (suc b) b q us y (omega arith) (omega arith)) (rule_of p) budget (inr (omega arith, part_inside p)) tokens x is

-- what is by the rule of a part is the part
pub parts_roll : (budget : ℕ) (p : Part) (tokens : Tokens) (x : TreeOf p) → Reads budget (rule_of p) tokens x → parts budget p tokens x
unfolding parts_below
parts_roll budget p tokens x is =
    parses_into budget parts (parts_below budget) (λ b below q us y. parts_into (suc b) budget b q us y (omega arith) (omega arith)) (rule_of p) budget (inr (omega arith, part_inside p)) tokens x is
