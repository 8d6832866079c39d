-- Where literals between quotes end.
use Rattle.std.proofs.Common.{◌≡◌, ℕ, suc, ◌+◌, ◌<◌, ◌≤◌, Bool, true, false, Option, Some, None, List, [], ◌∷◌, ◌++◌, length, take, drop, get_or, refl, ap, ◌∙◌, subst, arith}
use Rattle.std.specs.Prelude.{nat_eq}
use Rattle.std.specs.Option.{option_eq}
use Rattle.std.proofs.lemmas.Bool.{false≢true}
use Rattle.std.proofs.lemmas.Bool.Decides.{nat_tests}
use Rattle.educe_tokens_pieces.specs.declared.quotes.Within.{Within}
use Rattle.educe_tokens_pieces.specs.declared.quotes.Next.{Next}
use Rattle.educe_tokens_pieces.specs.declared.quotes.Next.TheVariants.{Go, End, Stop}
use Rattle.educe_tokens_pieces.specs.Chars.{is_empty}
use Rattle.educe_tokens_pieces.specs.Machine.{step, ends, plus, end_at}
use Rattle.educe_tokens_pieces.proofs.Lists.{from_index, plus_plus, one_longer}

-- whether the literal ends with the last of the characters behind one that did this
abbrev pub rest_ends : Next → List ℕ → Bool
rest_ends x cs = elim x [ Go more ↦ ends more cs | End ↦ is_empty cs | Stop ↦ false ]

-- how many characters it takes from one that did this
abbrev pub rest_end_at : Next → List ℕ → Option ℕ
rest_end_at x cs = elim x [ Go more ↦ plus 1 (end_at more cs) | End ↦ Some 1 | Stop ↦ None ]

-- the step from the rest to one character more
next_found : (x : Next) (s r : List ℕ) → ((w : Within) → ends w s ≡ true → end_at w (s ++ r) ≡ Some (length s)) → rest_ends x s ≡ true → rest_end_at x (s ++ r) ≡ Some (suc (length s))
next_found (Go more) s r ih h = ap (plus 1) (ih more h) ∙ one_longer (length s)
next_found End [] r ih h = refl
next_found End (d ∷ ds) r ih h = absurd (false≢true h)
next_found Stop s r ih h = absurd (false≢true h)

-- what ends with its last character is found, whatever follows
pub ends_found : (s r : List ℕ) (w : Within) → ends w s ≡ true → end_at w (s ++ r) ≡ Some (length s)
ends_found [] r w h = absurd (false≢true h)
ends_found (c ∷ s) r w h = next_found (step w c) s r (ends_found s r) h

-- the characters up to an end end there
abbrev pub EndsAt : Within → List ℕ → Option ℕ → Type 0
EndsAt w t None = Unit {0}
EndsAt w t (Some n) = (ends w (take n t) ≡ true) × (0 < n) × (n ≤ length t)

-- one character more, where the literal goes on
go_ends : (c : ℕ) (t : List ℕ) (w more : Within) → step w c ≡ Go more → (o : Option ℕ) → EndsAt more t o → EndsAt w (c ∷ t) (plus 1 o)
go_ends c t w more e None h = tt
go_ends c t w more e (Some n) h =
    let one : suc n ≡ 1 + n = omega arith in
    (subst (λ k. ends w (take k (c ∷ t)) ≡ true) one (rw (e, ends) h.0), omega arith, omega arith)

-- the step from the rest to one character more
next_ends : (x : Next) (c : ℕ) (t : List ℕ) → ((w : Within) → EndsAt w t (end_at w t)) → (w : Within) → step w c ≡ x → EndsAt w (c ∷ t) (rest_end_at x t)
next_ends (Go more) c t ih w e = go_ends c t w more e (end_at more t) (ih more)
next_ends End c t ih w e = (rw (e, ends) refl, omega arith, omega arith)
next_ends Stop c t ih w e = tt

-- the literal ends where an end is found
pub end_at_ends : (t : List ℕ) (w : Within) → EndsAt w t (end_at w t)
end_at_ends [] w = tt
end_at_ends (c ∷ t) w = next_ends (step w c) c t (end_at_ends t) w refl

-- one character more on both sides
one_more : (o : Option ℕ) (n : ℕ) → option_eq nat_eq (plus 1 o) (Some (suc n)) ≡ option_eq nat_eq o (Some n)
one_more None n = refl
one_more (Some k) n = grind (arith, nat_tests)

-- the step from the rest to one character more
next_whole : (x : Next) (t : List ℕ) → ((w : Within) → option_eq nat_eq (end_at w t) (Some (length t)) ≡ ends w t) → option_eq nat_eq (rest_end_at x t) (Some (suc (length t))) ≡ rest_ends x t
next_whole (Go more) t ih = one_more (end_at more t) (length t) ∙ ih more
next_whole End [] ih = refl
next_whole End (c ∷ cs) ih = grind (arith, nat_tests)
next_whole Stop t ih = refl

-- the end is found behind the last character just where the text ends there
pub whole_ends : (t : List ℕ) (w : Within) → option_eq nat_eq (end_at w t) (Some (length t)) ≡ ends w t
whole_ends [] w = refl
whole_ends (c ∷ t) w = next_whole (step w c) t (whole_ends t)

-- the end by what a character does
next_at : (w : Within) (c : ℕ) (x : Next) (t : List ℕ) → step w c ≡ x → end_at w (c ∷ t) ≡ rest_end_at x t
next_at w c x t e = ap (λ y. rest_end_at y t) e

-- no characters more
pub plus-zero : (o : Option ℕ) → plus 0 o ≡ o
plus-zero None = refl
plus-zero (Some n) = ap (λ (k : ℕ). Some k) (omega arith)

-- the end from an index on is the one from the next on, where the literal goes on
pub end_at_more : (text : List ℕ) (i c : ℕ) (w more : Within) → i < length text → c ≡ get_or text i c → step w c ≡ Go more → plus i (end_at w (drop i text)) ≡ plus (i + 1) (end_at more (drop (i + 1) text))
end_at_more text i c w more h item e =
    ap (λ t. plus i (end_at w t)) (from_index text i c h item) ∙ ap (plus i) (next_at w c (Go more) (drop (i + 1) text) e) ∙ plus_plus i 1 (end_at more (drop (i + 1) text))

-- the end from an index on, where it is decided there
pub end_at_here : (text : List ℕ) (i c : ℕ) (w : Within) (x : Next) (o : Option ℕ) → i < length text → c ≡ get_or text i c → step w c ≡ x → rest_end_at x (drop (i + 1) text) ≡ o → plus i (end_at w (drop i text)) ≡ plus i o
end_at_here text i c w x o h item e f =
    ap (λ t. plus i (end_at w t)) (from_index text i c h item) ∙ ap (plus i) (next_at w c x (drop (i + 1) text) e ∙ f)
