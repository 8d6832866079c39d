-- Blocks: the count of those that are open ends just where the outermost closes.
use Rattle.std.proofs.Common.{◌≡◌, ℕ, zero, suc, ◌+◌, ◌-◌, ◌<◌, true, false, ◌&&◌, List, [], ◌∷◌, ◌++◌, length, refl, sym, ap, ◌∙◌, subst, ⊎_elim, arith, append_assoc}
use Rattle.std.specs.Prelude.{◌==◌}
use Rattle.std.proofs.lemmas.Bool.{and_parts, and_from, false≢true, false_from_ne_true, cases_Bool, eqb-true, eq-eqb, ne_eqb}
use Rattle.educe_tokens_pieces.specs.Comments.{closes_comment}
use Rattle.educe_tokens_pieces.specs.Fronts.{begins_pair}
use Rattle.educe_tokens_pieces.specs.Spells.{BeginsWith, BeginsNot, Closes, Close, Other, Block}
use Rattle.educe_tokens_pieces.proofs.Lists.{nil_from_empty}

-- what passes the test for two characters begins with them
pub pair_is : (a b : ℕ) (s : List ℕ) → begins_pair a b s ≡ true → BeginsWith (a ∷ b ∷ []) s
pair_is a b [] h = absurd (false≢true h)
pair_is a b (c ∷ []) h = absurd (false≢true h)
pair_is a b (c ∷ d ∷ cs) h = let p = and_parts (c == a) (d == b) h in (cs, λ i. eqb-true c a p.0 i ∷ eqb-true d b p.1 i ∷ cs)

-- what begins with these two characters passes the test for it
pub pair_from : (a b : ℕ) (s : List ℕ) → BeginsWith (a ∷ b ∷ []) s → begins_pair a b s ≡ true
pair_from a b s m = ap (begins_pair a b) m.1 ∙ and_from (a == a) _ (eq-eqb a a refl) (eq-eqb b b refl)

-- the test fails where the text doesn't begin with the two characters
pub pair_none : (a b : ℕ) (s : List ℕ) → BeginsNot (a ∷ b ∷ []) s → begins_pair a b s ≡ false
pair_none a b s h = false_from_ne_true _ (λ e. h (pair_is a b s e))

-- the text doesn't begin with the two characters where the test fails
pub pair_not : (a b : ℕ) (s : List ℕ) → begins_pair a b s ≡ false → BeginsNot (a ∷ b ∷ []) s
pair_not a b s h = λ m. false≢true (sym h ∙ pair_from a b s m)

-- inside so many blocks and one more: what closes each of them, one behind the other
abbrev ClosesAll : ℕ → List ℕ → Type 0
ClosesAll zero s = Closes s
ClosesAll (suc n) s = (front : List ℕ) × (back : List ℕ) × (s ≡ front ++ back) × Closes front × ClosesAll n back

-- a character that begins neither mark, before what closes all
other_all : (n c : ℕ) (s : List ℕ) → BeginsNot (47 ∷ 42 ∷ []) (c ∷ s) → BeginsNot (42 ∷ 47 ∷ []) (c ∷ s) → ClosesAll n s → ClosesAll n (c ∷ s)
other_all zero c s opens closes h = Other c s opens closes h
other_all (suc n) c s opens closes h =
    let longer : (mark : List ℕ) → BeginsNot mark (c ∷ s) → BeginsNot mark (c ∷ h.0) =
    λ mark no m. no (m.0 ++ h.1, ap (λ t. c ∷ t) h.2 ∙ ap (λ t. t ++ h.1) m.1 ∙ append_assoc mark m.0 h.1) in
    (c ∷ h.0, h.1, ap (λ t. c ∷ t) h.2, Other c h.0 (longer (47 ∷ 42 ∷ []) opens) (longer (42 ∷ 47 ∷ []) closes) h.3, h.4)

-- a whole block, before what closes all
block_all : (n : ℕ) (a s : List ℕ) → Closes a → ClosesAll n s → ClosesAll n (47 ∷ 42 ∷ (a ++ s))
block_all zero a s k h = Block a s k h
block_all (suc n) a s k h =
    (47 ∷ 42 ∷ (a ++ h.0), h.1, ap (λ t. 47 ∷ 42 ∷ (a ++ t)) h.2 ∙ ap (λ t. 47 ∷ 42 ∷ t) (sym (append_assoc a h.0 h.1)), Block a h.0 k h.3, h.4)

-- what is behind `/*` closes the block that opens there, and then all
opened_all : (n : ℕ) (s : List ℕ) → ClosesAll (n + 1) s → ClosesAll n (47 ∷ 42 ∷ s)
opened_all n s h =
    let one : n + 1 ≡ suc n = omega arith in
    let k : ClosesAll (suc n) s = subst (λ m. ClosesAll m s) one h in
    subst (λ t. ClosesAll n (47 ∷ 42 ∷ t)) (sym k.2) (block_all n k.0 k.1 k.3 k.4)

-- `*/` closes one, before what closes the others
closed_all : (n : ℕ) (s : List ℕ) → (n == 0) ≡ false → ClosesAll (n - 1) s → ClosesAll n (42 ∷ 47 ∷ s)
closed_all zero s e h = absurd (false≢true (sym e))
closed_all (suc n) s e h = let less : suc n - 1 ≡ n = omega arith in (42 ∷ 47 ∷ [], s, refl, Close, subst (λ m. ClosesAll m s) less h)

-- or the outermost, at the end
closed_last : (n : ℕ) (s : List ℕ) → (n == 0) ≡ true → s ≡ [] → ClosesAll n (42 ∷ 47 ∷ s)
closed_last n s e none = subst (λ m. ClosesAll m (42 ∷ 47 ∷ s)) (sym (eqb-true n 0 e)) (subst (λ t. Closes (42 ∷ 47 ∷ t)) (sym none) Close)

-- what the count finds to close does
counted_closes : (n : ℕ) (s : List ℕ) → closes_comment n s ≡ true → ClosesAll n s
counted_closes n [] h = absurd (false≢true h)
counted_closes n (c ∷ []) h = absurd (false≢true h)
counted_closes n (c ∷ d ∷ cs) h =
    ⊎_elim (λ e.
    let inside = rw e at h in
    let p = and_parts (c == 42) (d == 47) e in
    let Goal : ClosesAll n (42 ∷ 47 ∷ cs) → ClosesAll n (c ∷ d ∷ cs) = subst (ClosesAll n) (λ i. sym (eqb-true c 42 p.0) i ∷ sym (eqb-true d 47 p.1) i ∷ cs) in
    ⊎_elim (λ z. Goal (closed_last n cs z (nil_from_empty cs (rw z at inside))))
    (λ z. Goal (closed_all n cs z (counted_closes (n - 1) cs (rw z at inside))))
    (cases_Bool (n == 0)))
    (λ e.
    let inside = rw e at h in
    ⊎_elim (λ f.
    let p = and_parts (c == 47) (d == 42) f in
    subst (ClosesAll n) (λ i. sym (eqb-true c 47 p.0) i ∷ sym (eqb-true d 42 p.1) i ∷ cs) (opened_all n cs (counted_closes (n + 1) cs (rw f at inside))))
    (λ f. other_all n c (d ∷ cs) (pair_not 47 42 (c ∷ d ∷ cs) f) (pair_not 42 47 (c ∷ d ∷ cs) e) (counted_closes n (d ∷ cs) (rw f at inside)))
    (cases_Bool ((c == 47) && (d == 42))))
    (cases_Bool ((c == 42) && (d == 47)))

-- the block closes at the end of what the count finds
pub block_closes : (s : List ℕ) → closes_comment 0 s ≡ true → Closes s
block_closes s h = counted_closes 0 s h

-- what closes a block is not empty
closes_some : (s : List ℕ) → Closes s → 0 < length s
closes_some s Close = omega arith
closes_some s (Other c more opens closes h) = omega arith
closes_some s (Block inside more h k) = omega arith

-- the count goes on behind a character that begins neither mark
count_other : (n c : ℕ) (s r : List ℕ) → BeginsNot (47 ∷ 42 ∷ []) (c ∷ s) → BeginsNot (42 ∷ 47 ∷ []) (c ∷ s) → 0 < length s → closes_comment n (c ∷ (s ++ r)) ≡ closes_comment n (s ++ r)
count_other n c [] r opens closes some = absurd (omega arith)
count_other n c (d ∷ s) r opens closes some =
    let a : ((c == 42) && (d == 47)) ≡ false = pair_none 42 47 (c ∷ d ∷ s) closes in
    let b : ((c == 47) && (d == 42)) ≡ false = pair_none 47 42 (c ∷ d ∷ s) opens in
    rw (a, b) refl

-- what closes an inner block leaves the others to what follows
count_inner : (s : List ℕ) → Closes s → (n : ℕ) (r : List ℕ) → closes_comment (suc n) (s ++ r) ≡ closes_comment n r
count_inner s Close n r =
    let more : (suc n == 0) ≡ false = ne_eqb (suc n) 0 (λ e. absurd (omega arith)) in
    let less : suc n - 1 ≡ n = omega arith in
    rw (more, less) refl
count_inner s (Other c more opens closes h) n r = count_other (suc n) c more r opens closes (closes_some more h) ∙ count_inner more h n r
count_inner s (Block inside more h k) n r =
    let one : suc n + 1 ≡ suc (suc n) = omega arith in
    (λ i. closes_comment (one i) (append_assoc inside more r i)) ∙ count_inner inside h (suc n) (more ++ r) ∙ count_inner more k n r

-- what closes the outermost block ends the count
pub closes_counted : (s : List ℕ) → Closes s → closes_comment 0 s ≡ true
closes_counted s Close = refl
closes_counted s (Other c [] opens closes h) = absurd (omega (arith, closes_some [] h))
closes_counted s (Other c (d ∷ more) opens closes h) =
    let a : ((c == 42) && (d == 47)) ≡ false = pair_none 42 47 (c ∷ d ∷ more) closes in
    let b : ((c == 47) && (d == 42)) ≡ false = pair_none 47 42 (c ∷ d ∷ more) opens in
    rw (a, b) (closes_counted (d ∷ more) h)
closes_counted s (Block inside more h k) = count_inner inside h 0 more ∙ closes_counted more k
