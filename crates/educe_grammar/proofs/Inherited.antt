-- What holds of a value because something holds of each token that it is read from, for each way to make a rule.
use Rattle.std.proofs.Common.{◌≡◌, ℕ, ◌-◌, Bool, List, [], ◌∷◌, ◌++◌, sym, subst, inl, inr}
use Rattle.std.specs.List.{AllByRecursion}
use Rattle.educe_tokens.specs.Bracket.{Bracket}
use Rattle.educe_tokens.specs.declared.token.Token.{Token}
use Rattle.educe_grammar.specs.declared.terminal.Terminal.{Terminal}
use Rattle.educe_grammar.specs.Terminals.{accepts}
use Rattle.educe_grammar.specs.Steps.{Tokens}
use Rattle.educe_grammar.specs.Ahead.{Look}
use Rattle.educe_grammar.specs.Rules.{Rule, token, documentation, empty, both, made, either, nest, angles, list, many, sliced, written}
use Rattle.educe_grammar.specs.Combining.{skipping, leaving}
use Rattle.educe_grammar.specs.Reading.{Parses, Listed, Repeated}
use Rattle.educe_grammar.specs.Reads.{parts}
use Rattle.educe_grammar.proofs.Each.{all_front, all_behind}

-- P holds of each of the tokens
abbrev pub Each : (Token → Type 0) → Tokens → Type 0
Each P tokens = AllByRecursion P tokens

-- what holds of each token holds of those between two
each_inside : (P : Token → Type 0) (first last : Token) (tokens inside : Tokens) → tokens ≡ first ∷ (inside ++ last ∷ []) → Each P tokens → Each P inside
each_inside P first last tokens inside is each = all_front P inside (last ∷ []) (subst (Each P) is each).1

-- Where P holds of each token that is read, the value has this.
pub record Inherits (P : Token → Type 0) {A : Type 0} (g : Rule A) (Q : A → Type 0) : Type 0 where
  pub inherits : (budget : ℕ) (tokens : Tokens) (x : A) → Each P tokens → Parses parts budget g tokens x → Q x

module _ {P : Token → Type 0} where
  -- of any value this can be said
  pub inherits_any : {A : Type 0} (g : Rule A) → Inherits P g (λ _. Unit {0})
  inherits_any g = record { inherits = λ budget tokens x each is. tt }

  -- what follows of what the value has
  pub inherits_more : {A : Type 0} (g : Rule A) (R Q : A → Type 0) → ((x : A) → R x → Q x) → Inherits P g R → Inherits P g Q
  inherits_more g R Q more p = record { inherits = λ budget tokens x each is. more x (p.inherits budget tokens x each is) }

  -- a token
  pub inherits_token : (asked : Terminal) → Inherits P (token asked) (λ found. P found.token)
  unfolding Parses
  inherits_token asked = record { inherits = λ budget tokens x each is. (subst (Each P) is each).0 }

  -- documentation
  pub inherits_documentation : Inherits P documentation (λ found. P found.token)
  unfolding Parses
  inherits_documentation = record { inherits = λ budget tokens x each is. (subst (Each P) is each).0 }

  -- no tokens
  pub inherits_empty : {A : Type 0} (x : A) (Q : A → Type 0) → Q x → Inherits P (empty x) Q
  unfolding Parses
  inherits_empty x Q has = record { inherits = λ budget tokens y each is. subst Q (sym is.1) has }

  -- another value
  pub inherits_made : {A B : Type 0} (f : A → B) (g : Rule A) (R : A → Type 0) (Q : B → Type 0) → ((x : A) → R x → Q (f x)) → Inherits P g R → Inherits P (made f g) Q
  unfolding Parses
  inherits_made f g R Q into p = record { inherits = λ budget tokens x each is. subst Q (sym is.1) (into is.0 (p.inherits budget tokens is.0 each is.2)) }

  -- one rule and then another
  pub inherits_both : {A B : Type 0} (g : Rule A) (h : Rule B) (Q : A → Type 0) (R : B → Type 0) → Inherits P g Q → Inherits P h R → Inherits P (both g h) (λ x. Q x.0 × R x.1)
  unfolding Parses
  inherits_both g h Q R p q = record {
    inherits = λ budget tokens x each is.
        let whole = subst (Each P) is.2 each in
        (p.inherits budget is.0 x.0 (all_front P is.0 is.1 whole) is.3, q.inherits budget is.1 x.1 (all_behind P is.0 is.1 whole) is.4);
  }

  -- of which only the first is asked
  pub inherits_first : {A B : Type 0} (g : Rule A) (h : Rule B) (Q : A → Type 0) → Inherits P g Q → Inherits P (both g h) (λ x. Q x.0)
  inherits_first g h Q p = inherits_more (both g h) (λ x. Q x.0 × Unit {0}) (λ x. Q x.0) (λ x has. has.0) (inherits_both g h Q (λ _. Unit {0}) p (inherits_any h))

  -- or the second
  pub inherits_second : {A B : Type 0} (g : Rule A) (h : Rule B) (R : B → Type 0) → Inherits P h R → Inherits P (both g h) (λ x. R x.1)
  inherits_second g h R q = inherits_more (both g h) (λ x. Unit {0} × R x.1) (λ x. R x.1) (λ x has. has.1) (inherits_both g h (λ _. Unit {0}) R (inherits_any g) q)

  -- with the second's value
  pub inherits_skipping : {A B : Type 0} (g : Rule A) (h : Rule B) (R : B → Type 0) → Inherits P h R → Inherits P (skipping g h) R
  inherits_skipping g h R q = inherits_made (λ p. p.1) (both g h) (λ x. R x.1) R (λ x has. has) (inherits_second g h R q)

  -- with the first's value
  pub inherits_leaving : {A B : Type 0} (g : Rule A) (h : Rule B) (Q : A → Type 0) → Inherits P g Q → Inherits P (leaving g h) Q
  inherits_leaving g h Q p = inherits_made (λ p. p.0) (both g h) (λ x. Q x.0) Q (λ x has. has) (inherits_first g h Q p)

  -- one of two
  pub inherits_either : {A : Type 0} (look : Look) (g h : Rule A) (Q : A → Type 0) → Inherits P g Q → Inherits P h Q → Inherits P (either look g h) Q
  unfolding Parses
  inherits_either look g h Q p q = record {
    inherits = λ budget tokens x each is. elim is [ inl w ↦ p.inherits budget tokens x each w | inr w ↦ q.inherits budget tokens x each w ];
  }

  -- with the tokens that were read
  pub inherits_sliced : {A : Type 0} (g : Rule A) (Q : A → Type 0) → Inherits P g Q → Inherits P (sliced g) (λ x. Q x.0)
  unfolding Parses
  inherits_sliced g Q p = record { inherits = λ budget tokens x each is. p.inherits budget tokens x.0 each is.0 }

  -- with the tokens as they were written
  pub inherits_written : {A : Type 0} (g : Rule A) (Q : A → Type 0) → Inherits P g Q → Inherits P (written g) (λ x. Q x.0 × Each P x.1.tokens)
  unfolding Parses
  inherits_written g Q p = record { inherits = λ budget tokens x each is. (p.inherits budget tokens x.0 each is.0, subst (Each P) (sym is.1) each) }

  -- with the tokens as they were written, of which alone something is said
  pub inherits_tokens : {A : Type 0} (g : Rule A) → Inherits P (written g) (λ x. Each P x.1.tokens)
  inherits_tokens g = inherits_more (written g) (λ x. Unit {0} × Each P x.1.tokens) (λ x. Each P x.1.tokens) (λ x has. has.1) (inherits_written g (λ _. Unit {0}) (inherits_any g))

  -- items with separators between
  inherits_listed : {A : Type 0} (g : Rule A) (Q : A → Type 0) → Inherits P g Q → (budget : ℕ) (separates : Token → Bool) {tokens : Tokens} {xs : List A}
      → Listed (Parses parts budget g) separates tokens xs → Each P tokens → AllByRecursion Q xs
  inherits_listed g Q p budget separates Listed.none each = tt
  inherits_listed g Q p budget separates (Listed.last {x = x} tokens is) each = (p.inherits budget tokens x each is, tt)
  inherits_listed g Q p budget separates (Listed.more {x = x} front rest separator is between others) each = (
    p.inherits budget front x (all_front P front (separator ∷ rest) each) is,
    inherits_listed g Q p budget separates others (all_behind P front (separator ∷ rest) each).1,
  )

  -- a list of them
  pub inherits_list : {A : Type 0} (separator : Terminal) (stop : Look) (g : Rule A) (Q : A → Type 0) → Inherits P g Q → Inherits P (list separator stop g) (AllByRecursion Q)
  unfolding Parses
  inherits_list separator stop g Q p = record { inherits = λ budget tokens xs each is. inherits_listed g Q p budget (accepts separator) is each }

  -- items one behind the other
  inherits_repeated : {A : Type 0} (g : Rule A) (Q : A → Type 0) → Inherits P g Q → (budget : ℕ) {tokens : Tokens} {xs : List A}
      → Repeated (Parses parts budget g) tokens xs → Each P tokens → AllByRecursion Q xs
  inherits_repeated g Q p budget Repeated.none each = tt
  inherits_repeated g Q p budget (Repeated.more {x = x} front rest is others) each = (
    p.inherits budget front x (all_front P front rest each) is,
    inherits_repeated g Q p budget others (all_behind P front rest each),
  )

  -- as many of them as there are
  pub inherits_many : {A : Type 0} (look : Look) (g : Rule A) (Q : A → Type 0) → Inherits P g Q → Inherits P (many look g) (AllByRecursion Q)
  unfolding Parses
  inherits_many look g Q p = record { inherits = λ budget tokens xs each is. inherits_repeated g Q p budget is each }

  -- inside of a bracket pair
  pub inherits_nest : {A : Type 0} (b : Bracket) (g : Rule A) (Q : A → Type 0) → Inherits P g Q → Inherits P (nest b g) Q
  unfolding Parses
  inherits_nest b g Q p = record { inherits = λ budget tokens x each is. p.inherits (budget - 1) is.inside x (each_inside P is.first is.last tokens is.inside is.is each) is.reads }

  -- inside of `<` and `>`
  pub inherits_angles : {A : Type 0} (g : Rule A) (Q : A → Type 0) → Inherits P g Q → Inherits P (angles g) Q
  unfolding Parses
  inherits_angles g Q p = record {
    inherits = λ budget tokens x each is. p.inherits (budget - 1) is.0.inside x (each_inside P is.0.first is.0.last tokens is.0.inside is.0.is each) is.0.reads;
  }
