-- What is put in place of `Self` leaves a reading, with a budget of one more.
use Rattle.std.proofs.Common.{◌≡◌, ℕ, zero, suc, ◌-◌, ◌<◌, inl, inr, Bool, true, false, List, [], ◌∷◌, ◌++◌, length, take, drop, sym, ap, ◌∙◌, subst, arith}
use Rattle.educe_tokens.specs.declared.token.Token.{Token}
use Rattle.educe_grammar.specs.declared.terminal.Terminal.TheVariants.{Sign}
use Rattle.educe_grammar.specs.Terminals.{accepts}
use Rattle.educe_grammar.specs.Steps.{Tokens}
use Rattle.educe_grammar.specs.Ahead.{opens, closes, begins_pair}
use Rattle.educe_grammar.specs.Reading.{Grammar, Parts, Parses}
use Rattle.educe_grammar.specs.Reading as reading
use Rattle.educe_grammar.specs.Reads.{rule_of, parts}
use Rattle.educe_grammar.specs.Rules.{Rule, token, documentation, empty, both, made, checked, either, prefer, operator, lone, binary, nest, angles, under, arrow, list, many, chain, path, sliced, written, part, Part, TreeOf}
use Rattle.educe_grammar.proofs.Unrolling.{parts_roll}
use Rattle.educe_syntax_self.specs.Replacing.{Change, Changes, is_replaced, Listed, Repeated, One, Linked, Between, FirstOf, Replaces, changes_below}

module _ {A : Type 0} (C : Change A) (R : Grammar A) (into : (before tokens behind : Tokens) (x : A) (out : Tokens) (y : A) → C before tokens behind x out y → R out y) where
  listed_reads : (separates : Token → Bool) {before tokens behind out : Tokens} {xs ys : List A} → Listed C separates before tokens behind xs out ys → reading.Listed R separates out ys
  listed_reads separates Listed.none = reading.Listed.none
  listed_reads separates (Listed.last {x = x} {y = y} {before = before} {behind = behind} tokens out is) = reading.Listed.last out (into before tokens behind x out y is)
  listed_reads separates (Listed.more {x = x} {y = y} {before = before} {behind = behind} front rest out later separator is between others) =
      reading.Listed.more out later separator (into before front (separator ∷ rest ++ behind) x out y is) between (listed_reads separates others)

  repeated_reads : {before tokens behind out : Tokens} {xs ys : List A} → Repeated C before tokens behind xs out ys → reading.Repeated R out ys
  repeated_reads Repeated.none = reading.Repeated.none
  repeated_reads (Repeated.more {x = x} {y = y} {before = before} {behind = behind} front rest out later is others) = reading.Repeated.more out later (into before front (rest ++ behind) x out y is) (repeated_reads others)

module _ {A : Type 0} (F C : Change A) (R : Grammar A) (first : (before tokens behind : Tokens) (x : A) (out : Tokens) (y : A) → F before tokens behind x out y → R out y)
    (into : (before tokens behind : Tokens) (x : A) (out : Tokens) (y : A) → C before tokens behind x out y → R out y) where
  one_reads : (flag : Bool) (before tokens behind : Tokens) (x : A) (out : Tokens) (y : A) → One F C flag before tokens behind x out y → R out y
  one_reads true before tokens behind x out y is = first before tokens behind x out y is
  one_reads false before tokens behind x out y is = into before tokens behind x out y is

  linked_reads : {flag : Bool} {before tokens behind out : Tokens} {xs ys : List A} → Linked F C flag before tokens behind xs out ys → reading.Linked R out ys
  linked_reads (Linked.last {x = x} {y = y} {before = before} {behind = behind} {flag = flag} tokens out is) = reading.Linked.last out (one_reads flag before tokens behind x out y is)
  linked_reads (Linked.more {x = x} {y = y} {before = before} {behind = behind} {flag = flag} front rest out later a b is between still others) =
      reading.Linked.more out later a b (one_reads flag before front (a ∷ b ∷ rest ++ behind) x out y is) still (linked_reads others)

less : (budget : ℕ) → 0 < budget → suc (budget - 1) ≡ suc budget - 1
less budget some = omega arith

module _ (new : Tokens) (changes : Changes) (each : (budget : ℕ) (p : Part) (before tokens behind : Tokens) (x : TreeOf p) (out : Tokens) (y : TreeOf p) → changes budget p before tokens behind x out y → parts (suc budget) p out y) where
  inside_reads : {A : Type 0} (g : Rule A) (budget : ℕ) (opening closing : Token → Bool) (before tokens behind : Tokens) (x : A) (out : Tokens) (y : A)
      → ((before tokens behind : Tokens) (x : A) (out : Tokens) (y : A) → Replaces new parts changes (budget - 1) g before tokens behind x out y → Parses parts (suc (budget - 1)) g out y)
      → Between (Replaces new parts changes (budget - 1) g) budget opening closing before tokens behind x out y → reading.Between (Parses parts (suc budget - 1) g) (suc budget) opening closing out y
  inside_reads g budget opening closing before tokens behind x out y into is = record {
    first = is.first;
    inside = is.changed;
    last = is.last;
    is = is.becomes;
    allowed = omega arith;
    opens = is.opens;
    closes = is.closes;
    reads = subst (λ (n : ℕ). Parses parts n g is.changed y) (less budget is.allowed) (into (before ++ is.first ∷ []) is.inside (is.last ∷ behind) x is.changed y is.reads);
  }

  -- what the rule's tokens become is by the rule, with one more of the budget
  pub replaces_reads : {A : Type 0} (g : Rule A) (budget : ℕ) (before tokens behind : Tokens) (x : A) (out : Tokens) (y : A) → Replaces new parts changes budget g before tokens behind x out y → Parses parts (suc budget) g out y
  unfolding Parses Replaces
  replaces_reads (token asked) budget before tokens behind x out y is = is.1 ∙ is.0 ∙ ap (λ found. found.token ∷ []) (sym is.2)
  replaces_reads documentation budget before tokens behind x out y is = is.1 ∙ is.0 ∙ ap (λ found. found.token ∷ []) (sym is.2)
  replaces_reads (empty z) budget before tokens behind x out y is = (is.2, is.3)
  replaces_reads (both g h) budget before tokens behind x out y is = (
    is.2,
    is.3,
    is.5,
    replaces_reads g budget before is.0 (is.1 ++ behind) x.0 is.2 y.0 is.6,
    replaces_reads h budget (before ++ is.0) is.1 behind x.1 is.3 y.1 is.7,
  )
  replaces_reads (made f g) budget before tokens behind x out y is = (is.1, is.3, replaces_reads g budget before tokens behind is.0 out is.1 is.4)
  replaces_reads (checked test g) budget before tokens behind x out y is = (is.1, replaces_reads g budget before tokens behind x out y is.2)
  replaces_reads (either look g h) budget before tokens behind x out y (inl is) = inl (replaces_reads g budget before tokens behind x out y is)
  replaces_reads (either look g h) budget before tokens behind x out y (inr is) = inr (replaces_reads h budget before tokens behind x out y is)
  replaces_reads (prefer asked g h) budget before tokens behind x out y (inl is) = inl (replaces_reads g budget before tokens behind x out y is)
  replaces_reads (prefer asked g h) budget before tokens behind x out y (inr is) = inr (is.1, replaces_reads h budget before tokens behind x out y is.2)
  replaces_reads (operator c d) budget before tokens behind x out y is = (ap length is.2 ∙ is.0, ap (begins_pair c d) is.2 ∙ is.1)
  replaces_reads (lone c d g) budget before tokens behind x out y is = (is.0, is.2, is.4, is.6, replaces_reads g budget (before ++ is.0 ∷ []) is.1 behind x is.2 y is.7)
  replaces_reads (binary g) budget before tokens behind x out y is = (is.0, is.2, replaces_reads g budget (before ++ take is.0 tokens) (drop is.0 tokens) behind x.1 (drop is.0 out) y.1 is.5)
  replaces_reads (nest b g) budget before tokens behind x out y is =
      inside_reads g budget (opens b) (closes b) before tokens behind x out y (λ before tokens behind x out y is. replaces_reads g (budget - 1) before tokens behind x out y is) is
  replaces_reads (angles g) budget before tokens behind x out y is =
      (inside_reads g budget (accepts (Sign 60)) (accepts (Sign 62)) before tokens behind x out y (λ before tokens behind x out y is. replaces_reads g (budget - 1) before tokens behind x out y is) is.0, is.2)
  replaces_reads (under asked g) budget before tokens behind x out y is = record {
    first = is.first;
    inside = is.changed;
    is = is.becomes;
    allowed = omega arith;
    opens = is.opens;
    reads = subst (λ (n : ℕ). Parses parts n g is.changed y) (less budget is.allowed) (replaces_reads g (budget - 1) (before ++ is.first ∷ []) is.inside behind x is.changed y is.reads);
  }
  replaces_reads (arrow g) budget before tokens behind x out y is = (
    is.0,
    is.1,
    is.3,
    is.5,
    omega arith,
    is.8,
    subst (λ (n : ℕ). Parses parts n g is.3 y) (less budget is.6) (replaces_reads g (budget - 1) (before ++ is.0 ∷ is.1 ∷ []) is.2 behind x is.3 y is.9),
  )
  replaces_reads (list separator stop g) budget before tokens behind x out y is =
      listed_reads (Replaces new parts changes budget g) (Parses parts (suc budget) g) (λ before tokens behind x out y is. replaces_reads g budget before tokens behind x out y is) (accepts separator) is
  replaces_reads (many look g) budget before tokens behind x out y is =
      repeated_reads (Replaces new parts changes budget g) (Parses parts (suc budget) g) (λ before tokens behind x out y is. replaces_reads g budget before tokens behind x out y is) is
  replaces_reads (chain look g) budget before tokens behind x out y is =
      (repeated_reads (Replaces new parts changes budget g) (Parses parts (suc budget) g) (λ before tokens behind x out y is. replaces_reads g budget before tokens behind x out y is) is.0, is.1)
  replaces_reads (path g) budget before tokens behind x out y is =
      linked_reads (FirstOf new parts budget g (is_replaced before tokens behind) (Replaces new parts changes budget g)) (Replaces new parts changes budget g) (Parses parts (suc budget) g)
      (λ b t e u o v is. first_reads g budget (is_replaced before tokens behind) (Replaces new parts changes budget g) (λ before tokens behind x out y is. replaces_reads g budget before tokens behind x out y is) b t e u o v is)
      (λ before tokens behind x out y is. replaces_reads g budget before tokens behind x out y is) is
    where
      first_reads : {B : Type 0} (g : Rule B) (budget : ℕ) (flag : Bool) (C : Change B) → ((before tokens behind : Tokens) (x : B) (out : Tokens) (y : B) → C before tokens behind x out y → Parses parts (suc budget) g out y)
          → (before tokens behind : Tokens) (x : B) (out : Tokens) (y : B) → FirstOf new parts budget g flag C before tokens behind x out y → Parses parts (suc budget) g out y
      first_reads g budget true C into before tokens behind x out y is = is.1
      first_reads g budget false C into before tokens behind x out y is = into before tokens behind x out y is
  replaces_reads (sliced g) budget before tokens behind x out y is = (replaces_reads g budget before tokens behind x.0 out y.0 is.0, is.2)
  replaces_reads (written g) budget before tokens behind x out y is = (replaces_reads g budget before tokens behind x.0 out y.0 is.0, is.2)
  replaces_reads (part p) budget before tokens behind x out y is = each budget p before tokens behind x out y is

-- what the tokens of a part become is by the part's rule, with one more of the budget
pub parts_replaced : (new : Tokens) (n budget : ℕ) (p : Part) (before tokens behind : Tokens) (x : TreeOf p) (out : Tokens) (y : TreeOf p) → changes_below new n budget p before tokens behind x out y → parts (suc budget) p out y
unfolding changes_below
parts_replaced new zero budget p before tokens behind x out y is = absurd is
parts_replaced new (suc n) budget p before tokens behind x out y is =
    parts_roll (suc budget) p out y (replaces_reads new (changes_below new n) (parts_replaced new n) (rule_of p) budget before tokens behind x out y is)
