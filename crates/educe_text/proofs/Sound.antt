-- What is taken off the front of a list is a text.
use Rattle.std.proofs.Common.{◌≡◌, ◌⊎◌, inl, inr, ℕ, zero, suc, Bool, true, false, List, [], ◌∷◌, ◌++◌, length, Option, Some, None, refl, ap, sym, subst, ⊎_elim, ◌∙◌, IsTrue, append_assoc}
use Rattle.std.specs.Prelude.{if◌then◌else◌}
use Rattle.educe_tokens.specs.Lexes.{lexemes}
use Rattle.educe_tokens.specs.Quote.{quoted}
use Rattle.educe_text.specs.Prefixes.{Tokens, strip_lexemes, Front}
use Rattle.educe_text.specs.Rules.{Grammar, Repeated, holds, TextRule, quote, leaf, both, made, checked, either, many, Spells}
use Rattle.educe_text.specs.Taking.{Taken, and_then, behind, taken_if, repeat, take}
use Rattle.educe_text.proofs.Prefixes.{strip_front}

-- steps that came to an end
record Went {A B : Type 0} (p : Taken A) (f : A → Tokens → Taken B) (y : B) (rest : Tokens) : Type 0 where
  value : A
  left : Tokens
  first : p ≡ Some (value, left)
  second : f value left ≡ Some (y, rest)

went : {A B : Type 0} (p : Taken A) (f : A → Tokens → Taken B) (y : B) (rest : Tokens) → and_then p f ≡ Some (y, rest) → Went p f y rest
went None f y rest h = absurd (cc)
went (Some p) f y rest h = record { value = p.0; left = p.1; first = refl; second = h }

some_pair : {A : Type 0} {x y : A} {a b : Tokens} → ◌≡◌ {A = Taken A} (Some (x, a)) (Some (y, b)) → (x ≡ y) × (a ≡ b)
some_pair {A} {x} {y} {a} {b} h = let e : ◌≡◌ {A = A × Tokens} (x, a) (y, b) = cc in (ap (λ p. p.0) e, ap (λ p. p.1) e)

chose : {A : Type 0} (b : Bool) (p q : Taken A) (x : A) (rest : Tokens) → (if b then p else q) ≡ Some (x, rest) → (p ≡ Some (x, rest)) ⊎ (q ≡ Some (x, rest))
chose true p q x rest h = inl h
chose false p q x rest h = inr h

passed : {A : Type 0} (b : Bool) (x y : A) (ts rest : Tokens) → taken_if b x ts ≡ Some (y, rest) → IsTrue b × (x ≡ y) × (ts ≡ rest)
passed true x y ts rest h = let e = some_pair h in (refl, e.0, e.1)
passed false x y ts rest h = absurd (cc)

module _ {A : Type 0} (look : Tokens → Bool) (Item : Grammar A) (item : Tokens → Taken A)
    (sound : (ts rest : Tokens) (x : A) → item ts ≡ Some (x, rest) → Front (λ front. Item front x) ts rest) where
  one_front : (x : A) (ts more left : Tokens) (ys : List A) → Front (λ front. Item front x) ts more → Front (λ front. Repeated Item front ys) more left
      → Front (λ front. Repeated Item front (x ∷ ys)) ts left
  one_front x ts more left ys f g = record {
    front = f.front ++ g.front;
    same = f.same ∙ ap (λ us. f.front ++ us) g.same ∙ sym (append_assoc f.front g.front left);
    is = Repeated.more f.front g.front f.is g.is;
  }

  repeat_by : (turns : ℕ) → ((ts rest : Tokens) (xs : List A) → repeat look item turns ts ≡ Some (xs, rest) → Front (λ front. Repeated Item front xs) ts rest)
      → (ts rest : Tokens) (xs : List A) (b : Bool)
      → (if b then and_then (item ts) (λ x rest. and_then (repeat look item turns rest) (λ xs rest. Some (x ∷ xs, rest))) else Some ([], ts)) ≡ Some (xs, rest)
      → Front (λ front. Repeated Item front xs) ts rest
  repeat_by turns more ts rest xs false h =
      let e = some_pair h in
      record { front = []; same = e.1; is = subst (λ (ys : List A). Repeated Item [] ys) e.0 Repeated.none }
  repeat_by turns more ts rest xs true h =
      let v = went (item ts) _ xs rest h in
      let w = went (repeat look item turns v.left) _ xs rest v.second in
      let e = some_pair w.second in
      let found : Front (λ front. Repeated Item front (v.value ∷ w.value)) ts w.left = one_front v.value ts v.left w.left w.value (sound ts v.left v.value v.first) (more v.left w.left w.value w.first) in
      record { front = found.front; same = found.same ∙ ap (λ us. found.front ++ us) e.1; is = subst (λ (ys : List A). Repeated Item found.front ys) e.0 found.is }

  repeat_sound : (turns : ℕ) (ts rest : Tokens) (xs : List A) → repeat look item turns ts ≡ Some (xs, rest) → Front (λ front. Repeated Item front xs) ts rest
  unfolding repeat
  repeat_sound zero ts rest xs h = absurd (cc)
  repeat_sound (suc turns) ts rest xs h = repeat_by turns (repeat_sound turns) ts rest xs (look ts) h

quoted_front : (text : List ℕ) (ts rest : Tokens) (x : Unit {0}) (found : Option Tokens) → strip_lexemes (quoted text) ts ≡ found → behind found ≡ Some (x, rest) → Front (λ front. lexemes front ≡ quoted text) ts rest
quoted_front text ts rest x None same h = absurd (cc)
quoted_front text ts rest x (Some left) same h = strip_front (quoted text) ts rest (same ∙ ap Some (some_pair h).1)

-- what a rule takes off the front is by the rule
pub sound : {A : Type 0} (g : TextRule A) (ts rest : Tokens) (x : A) → take g ts ≡ Some (x, rest) → Front (λ front. Spells g front x) ts rest
unfolding Spells take
sound (quote text) ts rest x h = quoted_front text ts rest x (strip_lexemes (quoted text) ts) refl h
sound (leaf l) ts rest x h = l.sound ts rest x h
sound (both g k) ts rest x h =
    let v = went (take g ts) _ x rest h in
    let w = went (take k v.left) _ x rest v.second in
    let e = some_pair w.second in
    let f = sound g ts v.left v.value v.first in
    let m = sound k v.left w.left w.value w.first in
    record {
      front = f.front ++ m.front;
      same = f.same ∙ ap (λ us. f.front ++ us) m.same ∙ sym (append_assoc f.front m.front w.left) ∙ ap (λ us. (f.front ++ m.front) ++ us) e.1;
      is = (f.front, m.front, refl, subst (λ (y : _). Spells g f.front y.0) e.0 f.is, subst (λ (y : _). Spells k m.front y.1) e.0 m.is);
    }
sound (made f g) ts rest x h =
    let v = went (take g ts) _ x rest h in
    let e = some_pair v.second in
    let m = sound g ts v.left v.value v.first in
    record { front = m.front; same = m.same ∙ ap (λ us. m.front ++ us) e.1; is = (v.value, sym e.0, m.is) }
sound (checked test g) ts rest x h =
    let v = went (take g ts) _ x rest h in
    let e = passed (test v.value) v.value x v.left rest v.second in
    let m = sound g ts v.left v.value v.first in
    record { front = m.front; same = m.same ∙ ap (λ us. m.front ++ us) e.2; is = (subst (λ y. IsTrue (test y)) e.1 e.0, subst (λ y. Spells g m.front y) e.1 m.is) }
sound (either look g k) ts rest x h = ⊎_elim
    (λ h. let m = sound g ts rest x h in record { front = m.front; same = m.same; is = inl m.is })
    (λ h. let m = sound k ts rest x h in record { front = m.front; same = m.same; is = inr m.is })
    (chose (holds look ts) (take g ts) (take k ts) x rest h)
sound (many look g) ts rest xs h = repeat_sound (holds look) (Spells g) (take g) (sound g) (suc (length ts)) ts rest xs h
