-- Lexicographic comparisons, by total or partial orders.
use Rattle.std.proofs.Common.{◌≡◌, inl, inr, Bool, true, List, [], ◌∷◌, Option, Some, None, refl, ap, sym, ◌∙◌}
use Rattle.std.specs.List.{AllByRecursion}
use Rattle.std.specs.Option.{option_map}
use Rattle.std.proofs.lemmas.Bool.{true≢false}
use Rattle.std.proofs.lemmas.Option.{same_Some}
use Rattle.std.specs.Cmp.{some_flip}
use Rattle.std.specs.declared.cmp.Ordering.{Ordering}
use Rattle.std.specs.declared.cmp.Ordering.TheVariants.{Less, Equal, Greater}
use Rattle.std.specs.Ordering.{ordering_reverse, partial_ordering_then}
use Rattle.educe_meaning_coherence.specs.Relations.{IsLessOrEqual, IsSomeLessOrEqual, IsEquivalenceAmong, IsTotalOrderAmong, IsPartialOrderAmong}
use Rattle.educe_meaning_coherence.proofs.Lexicographic.{leading, is_up, IsChain}

-- ---- orders

-- Less decides behind what is Less or Equal.
then_less : (r : Option Ordering) → is_up r ≡ true → partial_ordering_then r (Some Less) ≡ Some Less
then_less None up = absurd (true≢false (sym up))
then_less (Some Less) up = refl
then_less (Some Equal) up = refl
then_less (Some Greater) up = absurd (true≢false (sym up))

-- Two that are Less or Equal are so together.
then_up : (o p : Option Ordering) → is_up o ≡ true → is_up p ≡ true → is_up (partial_ordering_then o p) ≡ true
then_up None p first second = absurd (true≢false (sym first))
then_up (Some Less) p first second = refl
then_up (Some Equal) p first second = second
then_up (Some Greater) p first second = absurd (true≢false (sym first))

-- Two that are Equal together are so each.
pub then_equal : (r s : Option Ordering) → partial_ordering_then r s ≡ Some Equal → (r ≡ Some Equal) × (s ≡ Some Equal)
then_equal None s is = absurd (cc)
then_equal (Some Less) s is = absurd (cc)
then_equal (Some Equal) s is = (refl, is)
then_equal (Some Greater) s is = absurd (cc)

-- What stands behind an order is reversed where that is Equal.
pub then_turned : (o : Ordering) (r s : Option Ordering) → (o ≡ Equal → s ≡ option_map ordering_reverse r)
    → partial_ordering_then (Some (ordering_reverse o)) s ≡ option_map ordering_reverse (partial_ordering_then (Some o) r)
then_turned Less r s behind = refl
then_turned Equal r s behind = behind refl
then_turned Greater r s behind = refl

-- What stands behind an order counts where that is Equal.
pub then_alike : (o : Ordering) (r s : Option Ordering) → (o ≡ Equal → r ≡ s) → partial_ordering_then (Some o) r ≡ partial_ordering_then (Some o) s
then_alike Less r s behind = refl
then_alike Equal r s behind = behind refl
then_alike Greater r s behind = refl

-- One step: a chain, and behind it, where its first two are Equal, another one.
pub chain_then : (o p q r s t : Option Ordering) → IsChain o p q → (o ≡ Some Equal → p ≡ Some Equal → IsChain r s t)
    → IsChain (partial_ordering_then o r) (partial_ordering_then p s) (partial_ordering_then q t)
chain_then (Some Less) (Some Less) q r s t head tail first second = ap (λ u. partial_ordering_then u t) (head refl refl)
chain_then (Some Less) (Some Equal) q r s t head tail first second = ap (λ u. partial_ordering_then u t) (head refl refl)
chain_then (Some Equal) (Some Less) q r s t head tail first second =
    ap (λ u. partial_ordering_then u t) (head refl refl) ∙ sym (then_less r first)
chain_then (Some Equal) (Some Equal) q r s t head tail first second =
    ap (λ u. partial_ordering_then u t) (head refl refl) ∙ tail refl refl first second
chain_then None p q r s t head tail first second = absurd (true≢false (sym first))
chain_then (Some Greater) p q r s t head tail first second = absurd (true≢false (sym first))
chain_then (Some Less) None q r s t head tail first second = absurd (true≢false (sym second))
chain_then (Some Less) (Some Greater) q r s t head tail first second = absurd (true≢false (sym second))
chain_then (Some Equal) None q r s t head tail first second = absurd (true≢false (sym second))
chain_then (Some Equal) (Some Greater) q r s t head tail first second = absurd (true≢false (sym second))

-- A chain of orders that are the same as those of a chain.
pub chain_alike : (o p q r s t : Option Ordering) → o ≡ r → p ≡ s → q ≡ t → IsChain r s t → IsChain o p q
chain_alike o p q r s t first second third chain up_first up_second =
    third
    ∙ (chain (ap is_up (sym first) ∙ up_first) (ap is_up (sym second) ∙ up_second) ∙ (λ i. partial_ordering_then (sym first i) (sym second i)))

-- ---- lists

module _ {X : Type 0} (o p : X → Option Ordering) where
  pub leading_turned : (xs : List X) → AllByRecursion (λ x. p x ≡ option_map ordering_reverse (o x)) xs
      → leading p xs ≡ option_map ordering_reverse (leading o xs)
  leading_turned [] each = refl
  leading_turned (x ∷ xs) each = (λ i. partial_ordering_then (each.0 i) (leading_turned xs each.1 i)) ∙ some_flip (o x) (leading o xs)

  pub leading_alike : (xs : List X) → AllByRecursion (λ x. o x ≡ p x) xs → leading o xs ≡ leading p xs
  leading_alike [] each = refl
  leading_alike (x ∷ xs) each = λ i. partial_ordering_then (each.0 i) (leading_alike xs each.1 i)

module _ {X : Type 0} (o p q : X → Option Ordering) where
  pub leading_chained : (xs : List X) → AllByRecursion (λ x. IsChain (o x) (p x) (q x)) xs → IsChain (leading o xs) (leading p xs) (leading q xs)
  leading_chained [] each = λ first second. refl
  leading_chained (x ∷ xs) each =
      chain_then (o x) (p x) (q x) (leading o xs) (leading p xs) (leading q xs) each.0 (λ _ _. leading_chained xs each.1)

module _ {X : Type 0} (o : X → Option Ordering) where
  -- The comparison is Equal exactly where each element is.
  pub leading_equal : (xs : List X) → AllByRecursion (λ x. o x ≡ Some Equal) xs → leading o xs ≡ Some Equal
  leading_equal [] each = refl
  leading_equal (x ∷ xs) each = ap (λ r. partial_ordering_then r (leading o xs)) each.0 ∙ leading_equal xs each.1

  pub each_equal : (xs : List X) → leading o xs ≡ Some Equal → AllByRecursion (λ x. o x ≡ Some Equal) xs
  each_equal [] is = tt
  each_equal (x ∷ xs) is = let parts = then_equal (o x) (leading o xs) is in (parts.0, each_equal xs parts.1)

-- ---- comparisons whose answers are orders

-- The order of two is reversed when they are exchanged, and Less or Equal is transitive.
pub record IsOrdered {X : Type 0} (In : X → Type 0) (own : X → X → Option Ordering) : Type 0 where
  pub turned : (x y : X) → In x → In y → own y x ≡ option_map ordering_reverse (own x y)
  pub transitive : (x y z : X) → In x → In y → In z → is_up (own x y) ≡ true → is_up (own y z) ≡ true → is_up (own x z) ≡ true

module _ {X : Type 0} (In : X → Type 0) (own : X → X → Option Ordering) where
  pub ordered_by : ((x y : X) → In x → In y → own y x ≡ option_map ordering_reverse (own x y))
      → ((x y z : X) → In x → In y → In z → IsChain (own x y) (own y z) (own x z)) → IsOrdered In own
  ordered_by turns chains = record {
    turned = turns;
    transitive = λ x y z in_x in_y in_z first second.
        ap is_up (chains x y z in_x in_y in_z first second) ∙ then_up (own x y) (own y z) first second;
  }

  module _ (law : IsOrdered In own) where
    pub ordered_alike : (other : X → X → Option Ordering) → ((x y : X) → In x → In y → other x y ≡ own x y) → IsOrdered In other
    ordered_alike other alike = record {
      turned = λ x y in_x in_y. alike y x in_y in_x ∙ (law.turned x y in_x in_y ∙ ap (option_map ordering_reverse) (sym (alike x y in_x in_y)));
      transitive = λ x y z in_x in_y in_z first second.
          ap is_up (alike x z in_x in_z)
          ∙ law.transitive x y z in_x in_y in_z (ap is_up (sym (alike x y in_x in_y)) ∙ first) (ap is_up (sym (alike y z in_y in_z)) ∙ second);
    }

    -- What is said of two in one order says what is said in the other.
    back : (x y : X) (o : Option Ordering) → In x → In y → own x y ≡ o → own y x ≡ option_map ordering_reverse o
    back x y o in_x in_y is = law.turned x y in_x in_y ∙ ap (option_map ordering_reverse) is

    up : (x y : X) (o : Option Ordering) → own x y ≡ o → is_up o ≡ true → is_up (own x y) ≡ true
    up x y o is less = ap is_up is ∙ less

    not_up : (x y : X) → own x y ≡ Some Greater → is_up (own x y) ≡ true → ⊥
    not_up x y is less = true≢false (sym less ∙ ap is_up is)

    module _ (x y z : X) (in_x : In x) (in_y : In y) (in_z : In z) where
      -- The third of three orders.
      third : (o p q : Option Ordering) → own x y ≡ o → own y z ≡ p → own x z ≡ q → is_up q ≡ true → is_up o ≡ true → is_up p ≡ true
          → q ≡ partial_ordering_then o p
      third (Some Less) p (Some Less) first second both less up_first up_second = refl
      third (Some Less) p (Some Equal) first second both less up_first up_second =
          absurd (not_up y x (back x y (Some Less) in_x in_y first)
          (law.transitive y z x in_y in_z in_x (up y z p second up_second) (up z x (Some Equal) (back x z (Some Equal) in_x in_z both) refl)))
      third (Some Equal) (Some Less) (Some Less) first second both less up_first up_second = refl
      third (Some Equal) (Some Less) (Some Equal) first second both less up_first up_second =
          absurd (not_up z y (back y z (Some Less) in_y in_z second)
          (law.transitive z x y in_z in_x in_y (up z x (Some Equal) (back x z (Some Equal) in_x in_z both) refl) (up x y (Some Equal) first refl)))
      third (Some Equal) (Some Equal) (Some Less) first second both less up_first up_second =
          absurd (not_up z x (back x z (Some Less) in_x in_z both)
          (law.transitive z y x in_z in_y in_x
          (up z y (Some Equal) (back y z (Some Equal) in_y in_z second) refl) (up y x (Some Equal) (back x y (Some Equal) in_x in_y first) refl)))
      third (Some Equal) (Some Equal) (Some Equal) first second both less up_first up_second = refl
      third None p q first second both less up_first up_second = absurd (true≢false (sym up_first))
      third (Some Greater) p q first second both less up_first up_second = absurd (true≢false (sym up_first))
      third (Some Less) p None first second both less up_first up_second = absurd (true≢false (sym less))
      third (Some Less) p (Some Greater) first second both less up_first up_second = absurd (true≢false (sym less))
      third (Some Equal) None q first second both less up_first up_second = absurd (true≢false (sym up_second))
      third (Some Equal) (Some Greater) q first second both less up_first up_second = absurd (true≢false (sym up_second))
      third (Some Equal) (Some Less) None first second both less up_first up_second = absurd (true≢false (sym less))
      third (Some Equal) (Some Less) (Some Greater) first second both less up_first up_second = absurd (true≢false (sym less))
      third (Some Equal) (Some Equal) None first second both less up_first up_second = absurd (true≢false (sym less))
      third (Some Equal) (Some Equal) (Some Greater) first second both less up_first up_second = absurd (true≢false (sym less))

      -- The orders of three make a chain.
      pub chained : IsChain (own x y) (own y z) (own x z)
      chained = λ first second.
          third (own x y) (own y z) (own x z) refl refl refl (law.transitive x y z in_x in_y in_z first second) first second

module _ {X : Type 0} (In : X → Type 0) (own : X → X → Option Ordering) (law : IsOrdered In own) where
  -- The order of two that are exchanged is ordered.
  exchanged : IsOrdered In (λ x y. own y x)
  exchanged = record {
    turned = λ x y in_x in_y. law.turned y x in_y in_x;
    transitive = λ x y z in_x in_y in_z first second. law.transitive z y x in_z in_y in_x second first;
  }

  -- So is the reversed order.
  pub ordered_reversed : IsOrdered In (λ x y. option_map ordering_reverse (own x y))
  ordered_reversed = ordered_alike In (λ x y. own y x) exchanged (λ x y. option_map ordering_reverse (own x y)) (λ x y in_x in_y. sym (law.turned x y in_x in_y))

-- ---- from answers to orders

module _ {A : Type 0} (own : A → Option Ordering) (order : Ordering → A) (is : (o : Ordering) → own (order o) ≡ Some o) where
  -- An answer is Less or Equal where its order is.
  up_if_less : (a : A) → IsLessOrEqual order a → is_up (own a) ≡ true
  up_if_less a less = elim less [
    | inl below ↦ ap (λ b. is_up (own b)) below ∙ ap is_up (is Less)
    | inr equal ↦ ap (λ b. is_up (own b)) equal ∙ ap is_up (is Equal)
  ]

  less_if_up : (a : A) (o : Ordering) → a ≡ order o → is_up (own a) ≡ true → IsLessOrEqual order a
  less_if_up a Less answered up = inl answered
  less_if_up a Equal answered up = inr answered
  less_if_up a Greater answered up = absurd (true≢false (sym up ∙ (ap (λ b. is_up (own b)) answered ∙ ap is_up (is Greater))))

  module _ {X : Type 0} (In : X → Type 0) (answer : X → X → A) where
    pub total_ordered : IsTotalOrderAmong In answer order → IsOrdered In (λ x y. own (answer x y))
    total_ordered law = record {
      turned = λ x y in_x in_y.
          let o = law.decided x y in_x in_y in
          ap own (law.reversed x y o.0 in_x in_y o.1)
          ∙ (is (ordering_reverse o.0) ∙ ap (option_map ordering_reverse) (sym (ap own o.1 ∙ is o.0)));
      transitive = λ x y z in_x in_y in_z first second.
          let o = law.decided x y in_x in_y in
          let p = law.decided y z in_y in_z in
          up_if_less (answer x z)
          (law.transitive x y z in_x in_y in_z (less_if_up (answer x y) o.0 o.1 first) (less_if_up (answer y z) p.0 p.1 second));
    }

module _ {A : Type 0} (own : A → Option Ordering) (partial : Option Ordering → A) (is : (p : Option Ordering) → own (partial p) ≡ p) where
  some_less_if_up : (a : A) (p : Option Ordering) → a ≡ partial p → is_up (own a) ≡ true → IsSomeLessOrEqual partial a
  some_less_if_up a None answered up = absurd (true≢false (sym up ∙ (ap (λ b. is_up (own b)) answered ∙ ap is_up (is None))))
  some_less_if_up a (Some o) answered up = less_if_up own (λ o. partial (Some o)) (λ o. is (Some o)) a o answered up

  module _ {X : Type 0} (In : X → Type 0) (answer : X → X → A) where
    pub partial_ordered : IsPartialOrderAmong In answer partial → IsOrdered In (λ x y. own (answer x y))
    partial_ordered law = record {
      turned = λ x y in_x in_y.
          let p = law.decided x y in_x in_y in
          ap own (law.reversed x y p.0 in_x in_y p.1)
          ∙ (is (option_map ordering_reverse p.0) ∙ ap (option_map ordering_reverse) (sym (ap own p.1 ∙ is p.0)));
      transitive = λ x y z in_x in_y in_z first second.
          let o = law.decided x y in_x in_y in
          let p = law.decided y z in_y in_z in
          up_if_less own (λ o. partial (Some o)) (λ o. is (Some o)) (answer x z)
          (law.transitive x y z in_x in_y in_z (some_less_if_up (answer x y) o.0 o.1 first) (some_less_if_up (answer y z) p.0 p.1 second));
    }

    -- ---- and back

    pub partial_by : (order : X → X → Option Ordering) → IsOrdered In order → ((x y : X) → In x → In y → answer x y ≡ partial (order x y))
        → IsPartialOrderAmong In answer partial
    partial_by order law answered =
        let known : (x y : X) (in_x : In x) (in_y : In y) → own (answer x y) ≡ order x y =
        λ x y in_x in_y. ap own (answered x y in_x in_y) ∙ is (order x y) in
        record {
          decided = λ x y in_x in_y. (order x y, answered x y in_x in_y);
          reversed = λ x y p in_x in_y said.
              answered y x in_y in_x
              ∙ ap partial (law.turned x y in_x in_y ∙ ap (option_map ordering_reverse) (sym (known x y in_x in_y) ∙ (ap own said ∙ is p)));
          transitive = λ x y z in_x in_y in_z first second.
              let up = up_if_less own (λ o. partial (Some o)) (λ o. is (Some o)) in
              some_less_if_up (answer x z) (order x z) (answered x z in_x in_z)
              (ap is_up (known x z in_x in_z)
              ∙ law.transitive x y z in_x in_y in_z
              (ap is_up (sym (known x y in_x in_y)) ∙ up (answer x y) first) (ap is_up (sym (known y z in_y in_z)) ∙ up (answer y z) second));
        }

module _ {X A : Type 0} (own : A → Option Ordering) (order : Ordering → A) (is : (o : Ordering) → own (order o) ≡ Some o) where
  pub total_by : (In : X → Type 0) (answer : X → X → A) (o : X → X → Ordering) → IsOrdered In (λ x y. Some (o x y))
      → ((x y : X) → In x → In y → answer x y ≡ order (o x y)) → IsTotalOrderAmong In answer order
  total_by In answer o law answered =
      let known : (x y : X) (in_x : In x) (in_y : In y) → own (answer x y) ≡ Some (o x y) =
      λ x y in_x in_y. ap own (answered x y in_x in_y) ∙ is (o x y) in
      record {
        decided = λ x y in_x in_y. (o x y, answered x y in_x in_y);
        reversed = λ x y p in_x in_y said.
            let same : o x y ≡ p = same_Some (o x y) p (sym (known x y in_x in_y) ∙ (ap own said ∙ is p)) in
            answered y x in_y in_x
            ∙ ap order (same_Some (o y x) (ordering_reverse (o x y)) (law.turned x y in_x in_y) ∙ ap ordering_reverse same);
        transitive = λ x y z in_x in_y in_z first second.
            let up = up_if_less own order is in
            less_if_up own order is (answer x z) (o x z) (answered x z in_x in_z)
            (ap is_up (known x z in_x in_z)
            ∙ law.transitive x y z in_x in_y in_z
            (ap is_up (sym (known x y in_x in_y)) ∙ up (answer x y) first) (ap is_up (sym (known y z in_y in_z)) ∙ up (answer y z) second));
      }

-- Truths that are those of an equivalence.
module _ {X A : Type 0} (In : X → Type 0) (answer : X → X → A) (truth : Bool → A) (apart : (b c : Bool) → truth b ≡ truth c → b ≡ c) (own : X → X → Bool) where
  pub equivalence_by : ((x y : X) → In x → In y → answer x y ≡ truth (own x y)) → ((x : X) → In x → own x x ≡ true)
      → ((x y : X) → In x → In y → own x y ≡ true → own y x ≡ true)
      → ((x y z : X) → In x → In y → In z → own x y ≡ true → own y z ≡ true → own x z ≡ true) → IsEquivalenceAmong In answer truth
  equivalence_by is self turns through =
      let says = λ (x y : X) (in_x : In x) (in_y : In y) (e : own x y ≡ true). is x y in_x in_y ∙ ap truth e in
      let said = λ (x y : X) (in_x : In x) (in_y : In y) (e : answer x y ≡ truth true). apart (own x y) true (sym (is x y in_x in_y) ∙ e) in
      record {
        decided = λ x y in_x in_y. (own x y, is x y in_x in_y);
        reflexive = λ x in_x. says x x in_x in_x (self x in_x);
        symmetric = λ x y in_x in_y e. says y x in_y in_x (turns x y in_x in_y (said x y in_x in_y e));
        transitive = λ x y z in_x in_y in_z e f. says x z in_x in_z (through x y z in_x in_y in_z (said x y in_x in_y e) (said y z in_y in_z f));
      }
