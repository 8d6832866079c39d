-- What holds of each value that a rule reads within a limit.
use Rattle.std.proofs.Common.{ℕ, ◌-◌, ◌≤◌, Bool, List, sym, subst, inl, inr, arith}
use Rattle.std.specs.List.{AllByRecursion}
use Rattle.educe_tokens.specs.Bracket.{Bracket}
use Rattle.educe_tokens.specs.declared.token.Token.{Token}
use Rattle.educe_grammar.specs.declared.terminal.Terminal.{Terminal}
use Rattle.educe_grammar.specs.Ahead.{Look}
use Rattle.educe_grammar.specs.Combining.{skipping, leaving}
use Rattle.educe_grammar.specs.Reading.{Parses, Listed, Linked}
use Rattle.educe_grammar.specs.Reads.{parts}
use Rattle.educe_grammar.specs.Rules.{Rule, empty, both, made, checked, either, lone, nest, angles, list, path, sliced, written}
use Rattle.educe_grammar.specs.Steps.{Tokens}
use Rattle.educe_grammar.specs.Terminals.{accepts}

-- What is read by the rule within the limit has this.
pub record Has {A : Type 0} (limit : ℕ) (g : Rule A) (Q : A → Type 0) : Type 0 where
  pub has : (budget : ℕ) → budget ≤ limit → (tokens : Tokens) (x : A) → Parses parts budget g tokens x → Q x

module _ {limit : ℕ} where
  pub has_any : {A : Type 0} (g : Rule A) → Has limit g (λ _. Unit {0})
  has_any g = record { has = λ budget room tokens x is. tt }

  pub has_empty : {A : Type 0} (x : A) (Q : A → Type 0) → Q x → Has limit (empty x) Q
  unfolding Parses
  has_empty x Q q = record { has = λ budget room tokens y is. subst Q (sym is.1) q }

  pub has_made : {A B : Type 0} (f : A → B) (g : Rule A) (R : A → Type 0) (Q : B → Type 0) → ((x : A) → R x → Q (f x)) → Has limit g R → Has limit (made f g) Q
  unfolding Parses
  has_made f g R Q into p = record { has = λ budget room tokens x is. subst Q (sym is.1) (into is.0 (p.has budget room tokens is.0 is.2)) }

  pub has_both : {A B : Type 0} (g : Rule A) (h : Rule B) (Q : A → Type 0) (R : B → Type 0) → Has limit g Q → Has limit h R → Has limit (both g h) (λ x. Q x.0 × R x.1)
  unfolding Parses
  has_both g h Q R p q = record { has = λ budget room tokens x is. (p.has budget room is.0 x.0 is.3, q.has budget room is.1 x.1 is.4) }

  pub has_first : {A B : Type 0} (g : Rule A) (h : Rule B) (Q : A → Type 0) → Has limit g Q → Has limit (both g h) (λ x. Q x.0)
  unfolding Parses
  has_first g h Q p = record { has = λ budget room tokens x is. p.has budget room is.0 x.0 is.3 }

  pub has_second : {A B : Type 0} (g : Rule A) (h : Rule B) (R : B → Type 0) → Has limit h R → Has limit (both g h) (λ x. R x.1)
  unfolding Parses
  has_second g h R q = record { has = λ budget room tokens x is. q.has budget room is.1 x.1 is.4 }

  pub has_skipping : {A B : Type 0} (g : Rule A) (h : Rule B) (R : B → Type 0) → Has limit h R → Has limit (skipping g h) R
  has_skipping g h R q = has_made (λ p. p.1) (both g h) (λ x. R x.1) R (λ x has. has) (has_second g h R q)

  pub has_leaving : {A B : Type 0} (g : Rule A) (h : Rule B) (Q : A → Type 0) → Has limit g Q → Has limit (leaving g h) Q
  has_leaving g h Q p = has_made (λ p. p.0) (both g h) (λ x. Q x.0) Q (λ x has. has) (has_first g h Q p)

  pub has_either : {A : Type 0} (look : Look) (g h : Rule A) (Q : A → Type 0) → Has limit g Q → Has limit h Q → Has limit (either look g h) Q
  unfolding Parses
  has_either look g h Q p q = record { has = λ budget room tokens x is. elim is [ inl w ↦ p.has budget room tokens x w | inr w ↦ q.has budget room tokens x w ] }

  pub has_lone : {A : Type 0} (c d : ℕ) (g : Rule A) (Q : A → Type 0) → Has limit g Q → Has limit (lone c d g) Q
  unfolding Parses
  has_lone c d g Q p = record { has = λ budget room tokens x is. p.has budget room is.1 x is.4 }

  pub has_nest : {A : Type 0} (b : Bracket) (g : Rule A) (Q : A → Type 0) → Has limit g Q → Has limit (nest b g) Q
  unfolding Parses
  has_nest b g Q p = record { has = λ budget room tokens x is. p.has (budget - 1) (omega arith) is.inside x is.reads }

  pub has_checked : {A : Type 0} (test : A → Bool) (g : Rule A) (Q : A → Type 0) → Has limit g Q → Has limit (checked test g) Q
  unfolding Parses
  has_checked test g Q p = record { has = λ budget room tokens x is. p.has budget room tokens x is.1 }

  pub has_angles : {A : Type 0} (g : Rule A) (Q : A → Type 0) → Has limit g Q → Has limit (angles g) Q
  unfolding Parses
  has_angles g Q p = record { has = λ budget room tokens x is. p.has (budget - 1) (omega arith) is.0.inside x is.0.reads }

  pub has_sliced : {A : Type 0} (g : Rule A) (Q : A → Type 0) → Has limit g Q → Has limit (sliced g) (λ x. Q x.0)
  unfolding Parses
  has_sliced g Q p = record { has = λ budget room tokens x is. p.has budget room tokens x.0 is.0 }

  pub has_written : {A : Type 0} (g : Rule A) (Q : A → Type 0) → Has limit g Q → Has limit (written g) (λ x. Q x.0)
  unfolding Parses
  has_written g Q p = record { has = λ budget room tokens x is. p.has budget room tokens x.0 is.0 }

  has_listed : {A : Type 0} (g : Rule A) (Q : A → Type 0) → Has limit g Q → (budget : ℕ) → budget ≤ limit → (separates : Token → Bool) {tokens : Tokens} {xs : List A} → Listed (Parses parts budget g) separates tokens xs
      → AllByRecursion Q xs
  has_listed g Q p budget room separates Listed.none = tt
  has_listed g Q p budget room separates (Listed.last {x = x} tokens is) = (p.has budget room tokens x is, tt)
  has_listed g Q p budget room separates (Listed.more {x = x} front rest separator is between others) = (p.has budget room front x is, has_listed g Q p budget room separates others)

  pub has_list : {A : Type 0} (separator : Terminal) (stop : Look) (g : Rule A) (Q : A → Type 0) → Has limit g Q → Has limit (list separator stop g) (AllByRecursion Q)
  unfolding Parses
  has_list separator stop g Q p = record { has = λ budget room tokens xs is. has_listed g Q p budget room (accepts separator) is }

  has_linked : {A : Type 0} (g : Rule A) (Q : A → Type 0) → Has limit g Q → (budget : ℕ) → budget ≤ limit → {tokens : Tokens} {xs : List A} → Linked (Parses parts budget g) tokens xs → AllByRecursion Q xs
  has_linked g Q p budget room (Linked.last {x = x} tokens is) = (p.has budget room tokens x is, tt)
  has_linked g Q p budget room (Linked.more {x = x} front rest first second is between others) = (p.has budget room front x is, has_linked g Q p budget room others)

  pub has_path : {A : Type 0} (g : Rule A) (Q : A → Type 0) → Has limit g Q → Has limit (path g) (AllByRecursion Q)
  unfolding Parses
  has_path g Q p = record { has = λ budget room tokens xs is. has_linked g Q p budget room is }
