-- Items that are repeated are read, where the lookahead tells them from what follows.
use Rattle.std.proofs.Common.{◌≡◌, ℕ, zero, suc, ◌<◌, Bool, true, false, List, [], ◌∷◌, ◌++◌, length, Some, refl, sym, subst, arith, append_assoc, length-append}
use Rattle.educe_text.specs.Prefixes.{Tokens}
use Rattle.educe_text.specs.Rules.{Grammar, Repeated}
use Rattle.educe_text.specs.Taking.{Taken, repeat}

module _ {A : Type 0} (look : Tokens → Bool) (Item : Grammar A) (item : Tokens → Taken A) (Next Last : Tokens → Type 0)
    (reads : (front rest : Tokens) (x : A) → Item front x → Next rest → item (front ++ rest) ≡ Some (x, rest))
    (another : (front rest : Tokens) (x : A) → Item front x → Next (front ++ rest))
    (ends : (rest : Tokens) → Last rest → Next rest)
    (looks : (front rest : Tokens) (x : A) → Item front x → look (front ++ rest) ≡ true)
    (stops : (ts : Tokens) → Last ts → look ts ≡ false)
    (nonempty : (x : A) → Item [] x → ⊥) where
  -- an item has a token
  some_tokens : (front : Tokens) (x : A) → Item front x → 0 < length front
  some_tokens [] x h = absurd (nonempty x h)
  some_tokens (t ∷ ts) x h = omega arith

  -- what stands behind an item: another, or what follows
  behind : (tokens rest : Tokens) (xs : List A) → Repeated Item tokens xs → Last rest → Next (tokens ++ rest)
  behind tokens rest xs Repeated.none f = ends rest f
  behind tokens rest xs (Repeated.more {x = x} front more is others) f = subst Next (sym (append_assoc front more rest)) (another front (more ++ rest) x is)

  -- they are read, where there are turns enough
  pub repeated : (turns : ℕ) (tokens rest : Tokens) (xs : List A) → Repeated Item tokens xs → Last rest → length tokens < turns → repeat look item turns (tokens ++ rest) ≡ Some (xs, rest)
  unfolding repeat
  repeated zero tokens rest xs h f room = absurd (omega arith)
  repeated (suc turns) tokens rest xs Repeated.none f room = rw (stops rest f) refl
  repeated (suc turns) tokens rest xs (Repeated.more {x = x} {xs = ys} front more is others) f room =
      let e : (front ++ more) ++ rest ≡ front ++ (more ++ rest) = append_assoc front more rest in
      let seen : look (front ++ (more ++ rest)) ≡ true = looks front (more ++ rest) x is in
      let first : item (front ++ (more ++ rest)) ≡ Some (x, more ++ rest) = reads front (more ++ rest) x is (behind more rest ys others f) in
      let left : length more < turns = omega (arith, length-append front more, some_tokens front x is) in
      let then_ : repeat look item turns (more ++ rest) ≡ Some (ys, rest) = repeated turns more rest ys others f left in
      rw (e, seen, first, then_) refl
