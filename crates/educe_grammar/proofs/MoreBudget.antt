-- What is read is read with more of the budget, too.
use Rattle.std.proofs.Common.{◌≡◌, ℕ, zero, suc, ◌+◌, ◌-◌, ◌<◌, ◌≤◌, Bool, false, List, drop, refl, subst, inl, inr, arith}
use Rattle.std.proofs.lemmas.Bool.{and_left, and_right, both_ways}
use Rattle.educe_tokens.specs.declared.token.Token.{Token}
use Rattle.educe_grammar.specs.declared.terminal.Terminal.TheVariants.{Sign}
use Rattle.educe_grammar.specs.Terminals.{accepts}
use Rattle.educe_grammar.specs.Steps.{Tokens}
use Rattle.educe_grammar.specs.Ahead.{opens, closes}
use Rattle.educe_grammar.specs.Reading.{Grammar, Parses, Listed, Repeated, Linked, Between}
use Rattle.educe_grammar.specs.Reads.{rule_of, parts, Reads}
use Rattle.educe_grammar.specs.Rules.{Rule, token, documentation, empty, both, made, checked, either, prefer, operator, lone, binary, nest, angles, under, arrow, list, many, chain, path, sliced, written, part, Part, TreeOf}
use Rattle.educe_grammar.proofs.Unrolling.{has_parts_inside, part_inside, parts_roll, parts_unroll}

module _ {A : Type 0} (R S : Grammar A) (into : (tokens : Tokens) (x : A) → R tokens x → S tokens x) where
  listed_into : (separates : Token → Bool) {tokens : Tokens} {xs : List A} → Listed R separates tokens xs → Listed S separates tokens xs
  listed_into separates Listed.none = Listed.none
  listed_into separates (Listed.last {x = x} tokens is) = Listed.last tokens (into tokens x is)
  listed_into separates (Listed.more {x = x} front rest separator is between others) = Listed.more front rest separator (into front x is) between (listed_into separates others)

  repeated_into : {tokens : Tokens} {xs : List A} → Repeated R tokens xs → Repeated S tokens xs
  repeated_into Repeated.none = Repeated.none
  repeated_into (Repeated.more {x = x} front rest is others) = Repeated.more front rest (into front x is) (repeated_into others)

  linked_into : {tokens : Tokens} {xs : List A} → Linked R tokens xs → Linked S tokens xs
  linked_into (Linked.last {x = x} tokens is) = Linked.last tokens (into tokens x is)
  linked_into (Linked.more {x = x} front rest first second is between others) = Linked.more front rest first second (into front x is) between (linked_into others)

less : (budget : ℕ) → 0 < budget → suc (budget - 1) ≡ suc budget - 1
less budget some = omega arith

module _ (bound : ℕ) (each : (budget : ℕ) → budget < bound → (p : Part) (tokens : Tokens) (x : TreeOf p) → parts budget p tokens x → parts (suc budget) p tokens x) where
  between_more : {A : Type 0} (g : Rule A) (budget : ℕ) (opening closing : Token → Bool) (tokens : Tokens) (x : A) → (0 < budget → (tokens : Tokens) → Parses parts (budget - 1) g tokens x → Parses parts (suc (budget - 1)) g tokens x)
      → Between (Parses parts (budget - 1) g) budget opening closing tokens x → Between (Parses parts (suc budget - 1) g) (suc budget) opening closing tokens x
  between_more g budget opening closing tokens x into is = record {
    first = is.first;
    inside = is.inside;
    last = is.last;
    is = is.is;
    allowed = omega arith;
    opens = is.opens;
    closes = is.closes;
    reads = subst (λ (n : ℕ). Parses parts n g is.inside x) (less budget is.allowed) (into is.allowed is.inside is.reads);
  }

  rule_more : {A : Type 0} (g : Rule A) (budget : ℕ) → budget ≤ bound → (has_parts_inside g ≡ false → budget < bound) → (tokens : Tokens) (x : A) → Parses parts budget g tokens x → Parses parts (suc budget) g tokens x
  unfolding Parses has_parts_inside
  rule_more (token asked) budget room below tokens x is = is
  rule_more documentation budget room below tokens x is = is
  rule_more (empty z) budget room below tokens x is = is
  rule_more (both g h) budget room below tokens x is = (
    is.0,
    is.1,
    is.2,
    rule_more g budget room (λ e. below (and_left (has_parts_inside g) (has_parts_inside h) e)) is.0 x.0 is.3,
    rule_more h budget room (λ e. below (and_right (has_parts_inside g) (has_parts_inside h) e)) is.1 x.1 is.4,
  )
  rule_more (made f g) budget room below tokens x is = (is.0, is.1, rule_more g budget room below tokens is.0 is.2)
  rule_more (checked test g) budget room below tokens x is = (is.0, rule_more g budget room below tokens x is.1)
  rule_more (either look g h) budget room below tokens x (inl is) = inl (rule_more g budget room (λ e. below (and_left (has_parts_inside g) (has_parts_inside h) e)) tokens x is)
  rule_more (either look g h) budget room below tokens x (inr is) = inr (rule_more h budget room (λ e. below (and_right (has_parts_inside g) (has_parts_inside h) e)) tokens x is)
  rule_more (prefer asked g h) budget room below tokens x (inl is) = inl (rule_more g budget room (λ e. below (and_left (has_parts_inside g) (has_parts_inside h) e)) tokens x is)
  rule_more (prefer asked g h) budget room below tokens x (inr is) = inr (is.0, rule_more h budget room (λ e. below (and_right (has_parts_inside g) (has_parts_inside h) e)) tokens x is.1)
  rule_more (operator c d) budget room below tokens x is = is
  rule_more (lone c d g) budget room below tokens x is = (is.0, is.1, is.2, is.3, rule_more g budget room below is.1 x is.4)
  rule_more (binary g) budget room below tokens x is = (is.0, is.1, rule_more g budget room below (drop is.0 tokens) x.1 is.2)
  rule_more (nest b g) budget room below tokens x is = between_more g budget (opens b) (closes b) tokens x (λ some us h. rule_more g (budget - 1) (omega arith) (λ e. omega arith) us x h) is
  rule_more (angles g) budget room below tokens x is =
      (between_more g budget (accepts (Sign 60)) (accepts (Sign 62)) tokens x (λ some us h. rule_more g (budget - 1) (omega arith) (λ e. omega arith) us x h) is.0, is.1)
  rule_more (under asked g) budget room below tokens x is =
      let some = is.allowed in record {
        first = is.first;
        inside = is.inside;
        is = is.is;
        allowed = omega arith;
        opens = is.opens;
        reads = subst (λ (n : ℕ). Parses parts n g is.inside x) (less budget some) (rule_more g (budget - 1) (omega arith) (λ e. omega arith) is.inside x is.reads);
      }
  rule_more (arrow g) budget room below tokens x is =
      let some = is.4 in
      (is.0, is.1, is.2, is.3, omega arith, is.5, subst (λ (n : ℕ). Parses parts n g is.2 x) (less budget some) (rule_more g (budget - 1) (omega arith) (λ e. omega arith) is.2 x is.6))
  rule_more (list separator stop g) budget room below tokens xs is =
      listed_into (Parses parts budget g) (Parses parts (suc budget) g) (λ us x h. rule_more g budget room below us x h) (accepts separator) is
  rule_more (many look g) budget room below tokens xs is = repeated_into (Parses parts budget g) (Parses parts (suc budget) g) (λ us x h. rule_more g budget room below us x h) is
  rule_more (chain look g) budget room below tokens xs is = (repeated_into (Parses parts budget g) (Parses parts (suc budget) g) (λ us x h. rule_more g budget room below us x h) is.0, is.1)
  rule_more (path g) budget room below tokens xs is = linked_into (Parses parts budget g) (Parses parts (suc budget) g) (λ us x h. rule_more g budget room below us x h) is
  rule_more (sliced g) budget room below tokens x is = (rule_more g budget room below tokens x.0 is.0, is.1)
  rule_more (written g) budget room below tokens x is = (rule_more g budget room below tokens x.0 is.0, is.1)
  rule_more (part p) budget room below tokens x is = each budget (below refl) p tokens x is

-- the parts, with one more
parts_more : (n budget : ℕ) → budget < n → (p : Part) (tokens : Tokens) (x : TreeOf p) → parts budget p tokens x → parts (suc budget) p tokens x
parts_more zero budget room p tokens x is = absurd (omega arith)
parts_more (suc n) budget room p tokens x is =
    parts_roll (suc budget) p tokens x
    (rule_more n (parts_more n) (rule_of p) budget (omega arith) (λ e. absurd (both_ways (has_parts_inside (rule_of p)) e (part_inside p))) tokens x (parts_unroll budget p tokens x is))

-- with one more of the budget
one_more : {A : Type 0} (g : Rule A) (budget : ℕ) (tokens : Tokens) (x : A) → Reads budget g tokens x → Reads (suc budget) g tokens x
one_more g budget tokens x is = rule_more (suc budget) (parts_more (suc budget)) g budget (omega arith) (λ e. omega arith) tokens x is

-- with so many more
pub more_read : {A : Type 0} (g : Rule A) (n budget : ℕ) (tokens : Tokens) (x : A) → Reads budget g tokens x → Reads (n + budget) g tokens x
more_read g zero budget tokens x is = let same : budget ≡ zero + budget = omega arith in subst (λ (b : ℕ). Reads b g tokens x) same is
more_read g (suc n) budget tokens x is = let same : suc (n + budget) ≡ suc n + budget = omega arith in subst (λ (b : ℕ). Reads b g tokens x) same (one_more g (n + budget) tokens x (more_read g n budget tokens x is))

-- with any more
pub read_within : {A : Type 0} (g : Rule A) (budget limit : ℕ) (tokens : Tokens) (x : A) → budget ≤ limit → Reads budget g tokens x → Reads limit g tokens x
read_within g budget limit tokens x room is = let same : limit - budget + budget ≡ limit = omega arith in subst (λ (b : ℕ). Reads b g tokens x) same (more_read g (limit - budget) budget tokens x is)
