-- A list that is sorted by rank rises where no two neighbours have one rank.
use Rattle.std.proofs.Common.{◌≡◌, ◌≢◌, ℕ, zero, suc, ◌+◌, ◌<◌, ◌<ℤ◌, ◌≤ℤ◌, ◌⊎◌, inl, inr, true, false, List, [], ◌∷◌, map, length, get_or, refl, ap, sym, ◌∙◌, subst, arith, ℤ}
use denote.Param.Members.{Mut}
use denote.Ref.{Bor}
use Rattle.std.specs.Fn.{Called, ComputesKey}
use Rattle.std.proofs.lemmas.Fn.{always_returns_same}
use Rattle.std.proofs.lemmas.Map.Keys.{IsDistinct-IsPermutation}
use Rattle.std.proofs.lemmas.List.Sorted.{IsPermutation-map, IsPermutation-sym, ties_stay_sorted}
use Rattle.std.specs.Int.Signed.{<ℤ_irrefl, ≤ℤ_refl, clash_ℤ}
use Rattle.std.specs.Prelude.{IsSortedByKey, IsPermutation, ◌&&◌, not}
use Rattle.std.specs.List.Sorted.{IsStableByKey}
use Rattle.std.proofs.lemmas.Int.{ints}
use Rattle.std.proofs.lemmas.Cmp.{int_cmp_total}
use Rattle.std.proofs.lemmas.List.MinMax.{ranks_by}
use Rattle.std.specs.List.{AllByRecursion, IsDistinct}
use Rattle.std.specs.Ordering.{int_cmp, int_eq, is_lt, MatchOrdering}
use Rattle.std.specs.declared.cmp.Ordering.{Ordering}
use Rattle.std.specs.declared.cmp.Ordering.TheVariants.{Less, Equal, Greater}
use Rattle.std.specs.Cmp.{int_ranks, int_chain, int_eq_equiv, signed_Decides}
use Rattle.std.proofs.lemmas.Bool.{true≢false, false_from_ne_true}
use Rattle.educe_settings.specs.Ranks.{Rises, AreRanksApart, NeighboursDiffer}
use Rattle.educe_settings.proofs.Elements.{In, In-all, each_weaker}

greater_case : (o : Ordering) (P Q R : Type 0) → is_lt o ≡ false → (Q → ⊥) → MatchOrdering o P Q R → R
greater_case Less P Q R not_less not_equal m = absurd (true≢false not_less)
greater_case Equal P Q R not_less not_equal m = absurd (not_equal m)
greater_case Greater P Q R not_less not_equal m = m

below_if_apart : (x y : ℤ) → is_lt (int_cmp y x) ≡ false → x ≢ y → x <ℤ y
below_if_apart x y not_less apart = greater_case (int_cmp y x) (y <ℤ x) (y ≡ x) (x <ℤ y) not_less (λ same. apart (sym same)) (int_ranks y x)

apart_if_below : (x y : ℤ) → x <ℤ y → int_eq x y ≡ false
apart_if_below x y below = false_from_ne_true (int_eq x y) (λ same. <ℤ_irrefl (subst (λ z. z <ℤ y) ((signed_Decides x y).0 same) below))

≤ℤ-from_< : (x y : ℤ) → x <ℤ y → x ≤ℤ y
≤ℤ-from_< x y below = omega (arith, ints)

not_less_case : (o : Ordering) (P Q R : Type 0) → (P → ⊥) → MatchOrdering o P Q R → is_lt o ≡ false
not_less_case Less P Q R not_less m = absurd (not_less m)
not_less_case Equal P Q R not_less m = refl
not_less_case Greater P Q R not_less m = refl

not_less_if_above : (x y : ℤ) → x ≤ℤ y → is_lt (int_cmp y x) ≡ false
not_less_if_above x y above = not_less_case (int_cmp y x) (y <ℤ x) (y ≡ x) (x <ℤ y) (λ below. clash_ℤ below above) (int_ranks y x)

module _ {X : Type 0} (rank : X → ℤ) where
  rises_after : (x y : X) (rest : List X) → rank x <ℤ rank y → Rises rank (y ∷ rest) → Rises rank (x ∷ y ∷ rest)
  rises_after x y rest below rises =
      ((below, each_weaker (λ z. rank y <ℤ rank z) (λ z. rank x <ℤ rank z) (λ z above. int_chain (rank x) (rank y) (rank z) below above) rest rises.0), rises)

  rises_from_neighbours : (xs : List X) → ((k : ℕ) (d : X) → k + 1 < length xs → rank (get_or xs k d) <ℤ rank (get_or xs (k + 1) d)) → Rises rank xs
  rises_from_neighbours [] below = tt
  rises_from_neighbours (x ∷ []) below = (tt, tt)
  rises_from_neighbours (x ∷ y ∷ rest) below =
      rises_after x y rest (below 0 x (omega arith)) (rises_from_neighbours (y ∷ rest) (λ k d less.
      let next : suc k + 1 ≡ suc (k + 1) = omega arith in
      subst (λ (n : ℕ). rank (get_or (y ∷ rest) k d) <ℤ rank (get_or (x ∷ y ∷ rest) n d)) next (below (suc k) d (omega arith))))

  rises_if_sorted : (xs : List X) → IsSortedByKey rank int_cmp xs → NeighboursDiffer rank xs → Rises rank xs
  rises_if_sorted xs up apart =
      rises_from_neighbours xs (λ k d less. below_if_apart (rank (get_or xs k d)) (rank (get_or xs (k + 1) d)) (up k d (omega arith) less) (apart k d less))

  -- what `sort_by_key` ensures at a signed key
  pub Rises-from_sort : {F : Type 0} {g : Mut F (Bor X × Unit {0}) ℤ} {f : F} (xs : List X)
      → ((key : X → ℤ) → ComputesKey g key f → IsSortedByKey key int_cmp xs)
      → ((a : Bor X × Unit {0}) (r : ℤ) (f' : F) → Called g f a r f' → (r ≡ rank a.0.now) × (f' ≡ f))
      → NeighboursDiffer rank xs → Rises rank xs
  Rises-from_sort {g = g} {f = f} xs up computes apart =
      rises_if_sorted xs (up rank (always_returns_same g (λ a r. r ≡ rank a.0.now) f computes)) apart

  -- what `sort_by_key` ensures at a signed key on elements of one key
  pub IsStableByKey-from_sort : {F : Type 0} {g : Mut F (Bor X × Unit {0}) ℤ} {f : F} (xs ys : List X)
      → ((key : X → ℤ) → ComputesKey g key f → IsStableByKey key int_cmp xs ys)
      → ((a : Bor X × Unit {0}) (r : ℤ) (f' : F) → Called g f a r f' → (r ≡ rank a.0.now) × (f' ≡ f)) → IsStableByKey rank int_cmp xs ys
  IsStableByKey-from_sort {g = g} {f = f} xs ys stable computes = stable rank (always_returns_same g (λ a r. r ≡ rank a.0.now) f computes)

  -- what `sort_by_key` ensures at a signed key on its order
  pub IsSortedByKey-from_sort : {F : Type 0} {g : Mut F (Bor X × Unit {0}) ℤ} {f : F} (ys : List X)
      → ((key : X → ℤ) → ComputesKey g key f → IsSortedByKey key int_cmp ys)
      → ((a : Bor X × Unit {0}) (r : ℤ) (f' : F) → Called g f a r f' → (r ≡ rank a.0.now) × (f' ≡ f)) → IsSortedByKey rank int_cmp ys
  IsSortedByKey-from_sort {g = g} {f = f} ys up computes = up rank (always_returns_same g (λ a r. r ≡ rank a.0.now) f computes)

  repeated : (xs : List X) (k : ℕ) (d : X) → k + 1 < length xs → rank (get_or xs k d) ≡ rank (get_or xs (k + 1) d) → AreRanksApart rank xs → ⊥
  unfolding IsDistinct
  repeated [] k d less same apart = absurd (omega arith)
  repeated (x ∷ []) k d less same apart = absurd (omega arith)
  repeated (x ∷ y ∷ rest) zero d less same apart = true≢false (sym ((signed_Decides (rank x) (rank y)).1 same) ∙ apart.0.0)
  repeated (x ∷ y ∷ rest) (suc k) d less same apart =
      let next : suc k + 1 ≡ suc (k + 1) = omega arith in
      repeated (y ∷ rest) k d (omega arith) (subst (λ (n : ℕ). rank (get_or (y ∷ rest) k d) ≡ rank (get_or (x ∷ y ∷ rest) n d)) next same) apart.1

  -- ranks stay apart in another order
  pub AreRanksApart-permutation : (xs ys : List X) → IsPermutation xs ys → AreRanksApart rank xs → AreRanksApart rank ys
  AreRanksApart-permutation xs ys moved apart =
      IsDistinct-IsPermutation int_eq int_eq_equiv.symm (map rank xs) (map rank ys) (IsPermutation-map rank xs ys moved) apart

  -- neighbours of one rank are no ranks apart
  pub apart_from_repeat : (xs ys : List X) (k : ℕ) (d : X) → IsPermutation xs ys → k + 1 < length ys → rank (get_or ys k d) ≡ rank (get_or ys (k + 1) d) → AreRanksApart rank xs → ⊥
  apart_from_repeat xs ys k d moved less same apart = repeated ys k d less same (AreRanksApart-permutation xs ys moved apart)

  all_apart : (x : X) (ys : List X) → AllByRecursion (λ y. rank x <ℤ rank y) ys → AllByRecursion (λ r. int_eq (rank x) r ≡ false) (map rank ys)
  all_apart x [] above = tt
  all_apart x (y ∷ ys) above = (apart_if_below (rank x) (rank y) above.0, all_apart x ys above.1)

  AreRanksApart-from_Rises : (xs : List X) → Rises rank xs → AreRanksApart rank xs
  unfolding IsDistinct
  AreRanksApart-from_Rises [] rises = tt
  AreRanksApart-from_Rises (x ∷ xs) rises = (all_apart x xs rises.0, AreRanksApart-from_Rises xs rises.1)

  -- ranks that rise in another order are apart
  pub apart_from_Rises : (xs ys : List X) → IsPermutation xs ys → Rises rank ys → AreRanksApart rank xs
  apart_from_Rises xs ys moved rises = AreRanksApart-permutation ys xs (IsPermutation-sym xs ys moved) (AreRanksApart-from_Rises ys rises)

  -- what rises is in order
  sorted_if_rises : (xs : List X) → Rises rank xs → IsSortedByKey rank int_cmp xs
  sorted_if_rises [] rises k d low less = absurd (omega arith)
  sorted_if_rises (x ∷ []) rises k d low less = absurd (omega arith)
  sorted_if_rises (x ∷ y ∷ rest) rises zero d low less = not_less_if_above (rank x) (rank y) (≤ℤ-from_< (rank x) (rank y) rises.0.0)
  sorted_if_rises (x ∷ y ∷ rest) rises (suc k) d low less =
      let next : suc k + 1 ≡ suc (k + 1) = omega arith in
      subst (λ (n : ℕ). is_lt (int_cmp (rank (get_or (x ∷ y ∷ rest) n d)) (rank (get_or (y ∷ rest) k d))) ≡ false) (sym next) (sorted_if_rises (y ∷ rest) rises.1 k d (omega arith) (omega arith))

tie_if_same : (x y : ℤ) → x ≡ y → (not (is_lt (int_cmp x y)) && not (is_lt (int_cmp y x))) ≡ true
tie_if_same x y same =
    let none : is_lt (int_cmp x x) ≡ false = not_less_if_above x x (≤ℤ_refl x) in
    subst (λ z. (not (is_lt (int_cmp x z)) && not (is_lt (int_cmp z x))) ≡ true) same (rw none refl)

-- among neighbours of one rank, a stable sort by rank keeps the order of another key that rose before
pub rises_among_ties : {X : Type 0} (place rank : X → ℤ) (xs ys : List X) → Rises place xs → IsPermutation xs ys → IsStableByKey rank int_cmp xs ys
    → (k : ℕ) (d : X) → k + 1 < length ys → rank (get_or ys k d) ≡ rank (get_or ys (k + 1) d) → place (get_or ys k d) <ℤ place (get_or ys (k + 1) d)
rises_among_ties {X} place rank xs ys rises moved stable k d less same =
    let apart : place (get_or ys k d) ≢ place (get_or ys (k + 1) d) = λ equal. apart_from_repeat place xs ys k d moved less equal (AreRanksApart-from_Rises place xs rises) in
    below_if_apart (place (get_or ys k d)) (place (get_or ys (k + 1) d))
    (ties_stay_sorted (λ x y. is_lt (int_cmp (place x) (place y))) (λ x y. is_lt (int_cmp (rank x) (rank y))) (ranks_by int_cmp_total place) (ranks_by int_cmp_total rank)
    xs ys (sorted_if_rises place xs rises) stable k d less (tie_if_same (rank (get_or ys k d)) (rank (get_or ys (k + 1) d)) same))
    apart

-- ---- elements of one rank

module _ {X : Type 0} (rank place : X → ℤ) where
  -- of a lower rank, or of the same rank and a lower place
  abbrev IsBelow : X → X → Type 0
  IsBelow x y = (rank x <ℤ rank y) ⊎ ((rank x ≡ rank y) × (place x <ℤ place y))

  -- each element is below all later ones
  abbrev Climbs : List X → Type 0
  Climbs [] = Unit {0}
  Climbs (x ∷ xs) = AllByRecursion (IsBelow x) xs × Climbs xs

  below_chain : (x y z : X) → IsBelow x y → IsBelow y z → IsBelow x z
  below_chain x y z (inl h) (inl k) = inl (int_chain (rank x) (rank y) (rank z) h k)
  below_chain x y z (inl h) (inr k) = inl (subst (λ r. rank x <ℤ r) k.0 h)
  below_chain x y z (inr h) (inl k) = inl (subst (λ r. r <ℤ rank z) (sym h.0) k)
  below_chain x y z (inr h) (inr k) = inr (h.0 ∙ k.0, int_chain (place x) (place y) (place z) h.1 k.1)

  climbs_after : (x y : X) (rest : List X) → IsBelow x y → Climbs (y ∷ rest) → Climbs (x ∷ y ∷ rest)
  climbs_after x y rest below climbs = ((below, each_weaker (IsBelow y) (IsBelow x) (λ z above. below_chain x y z below above) rest climbs.0), climbs)

  climbs_from_neighbours : (xs : List X) → ((k : ℕ) (d : X) → k + 1 < length xs → IsBelow (get_or xs k d) (get_or xs (k + 1) d)) → Climbs xs
  climbs_from_neighbours [] below = tt
  climbs_from_neighbours (x ∷ []) below = (tt, tt)
  climbs_from_neighbours (x ∷ y ∷ rest) below =
      climbs_after x y rest (below 0 x (omega arith)) (climbs_from_neighbours (y ∷ rest) (λ k d less.
      let next : suc k + 1 ≡ suc (k + 1) = omega arith in
      subst (λ (n : ℕ). IsBelow (get_or (y ∷ rest) k d) (get_or (x ∷ y ∷ rest) n d)) next (below (suc k) d (omega arith))))

  -- an element of the same rank whose place is lower does not come later
  not_later : (x y : X) → IsBelow x y → rank y ≡ rank x → place y <ℤ place x → ⊥
  not_later x y (inl h) same lower = <ℤ_irrefl (subst (λ r. rank x <ℤ r) same h)
  not_later x y (inr h) same lower = <ℤ_irrefl (int_chain (place x) (place y) (place x) h.1 lower)

  -- what stands between two elements of one rank has it too, and a lower place than the second
  between_same : (x y z : X) → IsBelow x y → IsBelow y z → rank x ≡ rank z → (rank y ≡ rank z) × (place y <ℤ place z)
  between_same x y z (inl h) (inl k) same = absurd (<ℤ_irrefl (subst (λ r. r <ℤ rank z) same (int_chain (rank x) (rank y) (rank z) h k)))
  between_same x y z (inl h) (inr k) same = absurd (<ℤ_irrefl (subst (λ r. rank x <ℤ r) (k.0 ∙ sym same) h))
  between_same x y z (inr h) (inl k) same = absurd (<ℤ_irrefl (subst (λ r. r <ℤ rank z) (sym h.0 ∙ same) k))
  between_same x y z (inr h) (inr k) same = k

  -- the element is at this place, and the one before it has its rank
  pub record IsSecond (xs : List X) (x : X) : Type 0 where
    pub before : ℕ
    pub within : before + 1 < length xs
    pub here : get_or xs (before + 1) x ≡ x
    pub same : rank (get_or xs before x) ≡ rank (get_or xs (before + 1) x)

  second_later : (x y : X) (xs : List X) → IsSecond xs y → IsSecond (x ∷ xs) y
  second_later x y xs second =
      let next : suc second.before + 1 ≡ suc (second.before + 1) = omega arith in record {
        before = suc second.before;
        within = omega (arith, second.within);
        here = ap (λ (n : ℕ). get_or (x ∷ xs) n y) next ∙ second.here;
        same = second.same ∙ ap (λ (n : ℕ). rank (get_or (x ∷ xs) n y)) (sym next);
      }

  -- of two elements of one rank, the one of greater place stands behind another of that rank
  stands_second : (xs : List X) → Climbs xs → (a b : X) → In a xs → In b xs → rank a ≡ rank b → place a <ℤ place b → IsSecond xs b
  stands_second [] climbs a b has_a has_b same lower = absurd has_a
  stands_second (x ∷ xs) climbs a b (inl here) (inl also) same lower = absurd (<ℤ_irrefl (subst (λ z. place a <ℤ place z) (sym also ∙ here) lower))
  stands_second (x ∷ xs) climbs a b (inr later) (inl also) same lower =
      absurd (not_later x a (In-all (IsBelow x) xs a climbs.0 later) (same ∙ ap rank (sym also)) (subst (λ z. place a <ℤ place z) (sym also) lower))
  stands_second (x ∷ xs) climbs a b (inr later) (inr also) same lower = second_later x b xs (stands_second xs climbs.1 a b later also same lower)
  stands_second (x ∷ []) climbs a b (inl here) (inr also) same lower = absurd also
  stands_second (x ∷ y ∷ rest) climbs a b (inl here) (inr (inl also)) same lower =
      record { before = 0; within = omega arith; here = also; same = ap rank here ∙ same ∙ ap rank (sym also) }
  stands_second (x ∷ y ∷ rest) climbs a b (inl here) (inr (inr also)) same lower =
      let next = between_same x y b climbs.0.0 (In-all (IsBelow y) rest b climbs.1.0 also) (ap rank here ∙ same) in
      second_later x b (y ∷ rest) (stands_second (y ∷ rest) climbs.1 y b (inl refl) (inr also) next.0 next.1)

  below_neighbour : (x y : X) → is_lt (int_cmp (rank y) (rank x)) ≡ false → (rank x ≡ rank y → place x <ℤ place y) → IsBelow x y
  below_neighbour x y not_less tie = by_order (int_cmp (rank y) (rank x)) not_less (int_ranks (rank y) (rank x))
    where
      by_order : (o : Ordering) → is_lt o ≡ false → MatchOrdering o (rank y <ℤ rank x) (rank y ≡ rank x) (rank x <ℤ rank y) → IsBelow x y
      by_order Less not_less m = absurd (true≢false not_less)
      by_order Equal not_less m = inr (sym m, tie (sym m))
      by_order Greater not_less m = inl m

  -- of two elements of one rank, in a stable sort by rank of a list in which the places rise, the one of greater place is second
  pub second_from_sort : (xs ys : List X) → Rises place xs → IsPermutation xs ys → IsSortedByKey rank int_cmp ys → IsStableByKey rank int_cmp xs ys
      → (a b : X) → In a ys → In b ys → rank a ≡ rank b → place a <ℤ place b → IsSecond ys b
  second_from_sort xs ys rises moved up stable a b has_a has_b same lower =
      stands_second ys (climbs_from_neighbours ys (λ k d less. below_neighbour (get_or ys k d) (get_or ys (k + 1) d) (up k d (omega arith) less)
      (λ tie. rises_among_ties place rank xs ys rises moved stable k d less tie))) a b has_a has_b same lower
