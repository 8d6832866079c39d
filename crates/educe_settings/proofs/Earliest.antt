-- Of the fields that have the rank of the one before them in the order of ranks, the one that is written first.
use Rattle.std.proofs.Common.{◌≡◌, ◌≢◌, ℕ, zero, suc, ◌+◌, ◌<◌, ◌≤◌, ◌⊎◌, inl, inr, List, [], ◌∷◌, Option, Some, None, length, get_or, refl, sym, ap, ◌∙◌, subst, arith}
use Rattle.std.specs.Prelude.{IfSome}
use Rattle.educe_settings.specs.declared.ranked.Ranked.{Ranked}
use Rattle.educe_settings.specs.Ranked.{IsNoLater}
use Rattle.educe_settings.specs.Ranks.{IsRepeatAt}

-- an element within a list is the same by any default
pub same_at : {X : Type 0} (xs : List X) (n : ℕ) (d e : X) → n < length xs → get_or xs n d ≡ get_or xs n e
same_at [] n d e less = absurd (omega arith)
same_at (x ∷ xs) zero d e less = refl
same_at (x ∷ xs) (suc n) d e less = same_at xs n d e (omega arith)

before_or_at : (j i : ℕ) → j < i + 1 → (j < i) ⊎ (j ≡ i)
before_or_at zero zero less = inr refl
before_or_at zero (suc i) less = inl (omega arith)
before_or_at (suc j) zero less = absurd (omega arith)
before_or_at (suc j) (suc i) less = elim (before_or_at j i (omega arith)) [ inl below ↦ inl (omega arith) | inr same ↦ inr (ap suc same) ]

-- the element at a place and the next one have one rank
abbrev IsTie : List Ranked → ℕ → Ranked → Type 0
IsTie sorted k d = (get_or sorted k d).rank ≡ (get_or sorted (k + 1) d).rank

-- no tie stands before the index, or this is one, and none before the index is written earlier
abbrev pub EarliestBefore : List Ranked → ℕ → Option ℕ → Type 0
EarliestBefore sorted i None = (k : ℕ) (d : Ranked) → k + 1 < i → IsTie sorted k d → ⊥
EarliestBefore sorted i (Some at) = IsRepeatAt (λ (f : Ranked). f.rank) sorted at × ((j : ℕ) (d : Ranked) → j + 1 < i → IsTie sorted j d → (get_or sorted (at + 1) d).place ≤ (get_or sorted (j + 1) d).place)

module _ (sorted : List Ranked) (p : ℕ) (within : p + 1 < length sorted) (first second e f : Ranked) (first_is : first ≡ get_or sorted p e) (second_is : second ≡ get_or sorted (p + 1) f) where
  tie_here : first.rank ≡ second.rank → (d : Ranked) → IsTie sorted p d
  tie_here same d =
      ap (λ (r : Ranked). r.rank) (same_at sorted p d e (omega arith) ∙ sym first_is) ∙ same
      ∙ ap (λ (r : Ranked). r.rank) (second_is ∙ same_at sorted (p + 1) f d within)

  same_here : (d : Ranked) → IsTie sorted p d → first.rank ≡ second.rank
  same_here d tie =
      ap (λ (r : Ranked). r.rank) (first_is ∙ same_at sorted p e d (omega arith)) ∙ tie
      ∙ ap (λ (r : Ranked). r.rank) (same_at sorted (p + 1) d f within ∙ sym second_is)

  -- one more tie
  pub earliest_more : (found : Option ℕ) (at : ℕ) → EarliestBefore sorted (p + 1) found → first.rank ≡ second.rank → (at ≡ p) ⊎ (found ≡ Some at)
      → IsNoLater sorted at p → IfSome found (λ other. IsNoLater sorted at other) → EarliestBefore sorted (p + 1 + 1) (Some at)
  earliest_more found at before same one here others = (is_repeat found before one, λ j d less tie. each found before others j d tie (before_or_at (j + 1) (p + 1) less))
    where
      is_repeat : (found : Option ℕ) → EarliestBefore sorted (p + 1) found → (at ≡ p) ⊎ (found ≡ Some at) → IsRepeatAt (λ (f : Ranked). f.rank) sorted at
      is_repeat found before (inl is) = subst (IsRepeatAt (λ (f : Ranked). f.rank) sorted) (sym is) (record { within = within; same = tie_here same })
      is_repeat found before (inr is) = (subst (EarliestBefore sorted (p + 1)) is before).0

      each : (found : Option ℕ) → EarliestBefore sorted (p + 1) found → IfSome found (λ other. IsNoLater sorted at other) → (j : ℕ) (d : Ranked) → IsTie sorted j d
          → (j + 1 < p + 1) ⊎ (j + 1 ≡ p + 1) → (get_or sorted (at + 1) d).place ≤ (get_or sorted (j + 1) d).place
      each None before others j d tie (inl below) = absurd (before j d below tie)
      each (Some other) before others j d tie (inl below) = omega (arith, others d, before.1 j d below tie)
      each found before others j d tie (inr now) = subst (λ (n : ℕ). (get_or sorted (at + 1) d).place ≤ (get_or sorted n d).place) (sym now) (here d)

  -- no tie
  pub earliest_same : (found : Option ℕ) → EarliestBefore sorted (p + 1) found → first.rank ≢ second.rank → EarliestBefore sorted (p + 1 + 1) found
  earliest_same None before apart = λ j d less tie. none j d tie (before_or_at (j + 1) (p + 1) less)
    where
      none : (j : ℕ) (d : Ranked) → IsTie sorted j d → (j + 1 < p + 1) ⊎ (j + 1 ≡ p + 1) → ⊥
      none j d tie (inl below) = before j d below tie
      none j d tie (inr now) = apart (same_here d (subst (λ (n : ℕ). IsTie sorted n d) (omega arith) tie))
  earliest_same (Some at) before apart = (before.0, λ j d less tie. each j d tie (before_or_at (j + 1) (p + 1) less))
    where
      each : (j : ℕ) (d : Ranked) → IsTie sorted j d → (j + 1 < p + 1) ⊎ (j + 1 ≡ p + 1) → (get_or sorted (at + 1) d).place ≤ (get_or sorted (j + 1) d).place
      each j d tie (inl below) = before.1 j d below tie
      each j d tie (inr now) = absurd (apart (same_here d (subst (λ (n : ℕ). IsTie sorted n d) (omega arith) tie)))
