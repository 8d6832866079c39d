-- Lists in the order of ranks.
use Rattle.std.proofs.Common.{◌≡◌, ◌<ℤ◌, ◌≤ℤ◌, Bool, true, false, List, [], ◌∷◌, map, Option, Some, None, refl, ap, sym, ◌∙◌, subst, arith, rules, ℤ}
use Rattle.std.specs.Prelude.{int_lt, if◌then◌else◌}
use Rattle.std.specs.List.{filter, AllByRecursion}
use Rattle.std.proofs.lemmas.Int.{ints}
use Rattle.std.proofs.lemmas.Option.{same_Some}
use Rattle.educe_settings.specs.Ranks.{lesser, least_by}
use Rattle.educe_meaning_coherence.proofs.Lexicographic.{first_where, placed, ranked}

int_lt-true : (a b : ℤ) → int_lt a b ≡ true → a <ℤ b
int_lt-true a b h = search rules

int_lt-false : (a b : ℤ) → int_lt a b ≡ false → b ≤ℤ a
int_lt-false a b h = search rules

≤ℤ-from_< : (a b : ℤ) → a <ℤ b → a ≤ℤ b
≤ℤ-from_< a b h = omega (arith, ints)

≤ℤ_trans : (a b c : ℤ) → a ≤ℤ b → b ≤ℤ c → a ≤ℤ c
≤ℤ_trans a b c h k = omega (arith, ints)

not_below : (a b : ℤ) → a ≤ℤ b → int_lt b a ≡ false
not_below a b h = by (int_lt b a) refl
  where
    by : (t : Bool) → int_lt b a ≡ t → int_lt b a ≡ false
    by true is = absurd (let less = int_lt-true b a is in omega (arith, ints))
    by false is = is

pub each_weaker : {X : Type 0} (P Q : X → Type 0) → ((x : X) → P x → Q x) → (xs : List X) → AllByRecursion P xs → AllByRecursion Q xs
each_weaker P Q weaker [] each = tt
each_weaker P Q weaker (x ∷ xs) each = (weaker x each.0, each_weaker P Q weaker xs each.1)

-- An image of a list that is chosen by a test is the one that is chosen of the images.
map_if : {X Y : Type 0} (f : X → Y) (b : Bool) (xs ys : List X) → map f (if b then xs else ys) ≡ (if b then map f xs else map f ys)
map_if f true xs ys = refl
map_if f false xs ys = refl

module _ {X : Type 0} (rank : X → ℤ) where
  -- What holds of each element holds of each in the order of ranks.
  placed_if : (P : X → Type 0) (x y : X) (ys zs : List X) (t : Bool) → P x → P y → AllByRecursion P ys → AllByRecursion P zs → AllByRecursion P (if t then y ∷ zs else x ∷ y ∷ ys)
  placed_if P x y ys zs true own first each placed = (first, placed)
  placed_if P x y ys zs false own first each placed = (own, (first, each))

  each_placed : (P : X → Type 0) (x : X) (ys : List X) → P x → AllByRecursion P ys → AllByRecursion P (placed rank x ys)
  each_placed P x [] own each = (own, tt)
  each_placed P x (y ∷ ys) own each = placed_if P x y ys (placed rank x ys) (int_lt (rank y) (rank x)) own each.0 each.1 (each_placed P x ys own each.1)

  pub each_ranked : (P : X → Type 0) (xs : List X) → AllByRecursion P xs → AllByRecursion P (ranked rank xs)
  each_ranked P [] each = tt
  each_ranked P (x ∷ xs) each = each_placed P x (ranked rank xs) each.0 (each_ranked P xs each.1)

  -- What holds of each in the order of ranks holds of each.
  split_if : (P : X → Type 0) (x y : X) (ys zs : List X) (t : Bool) → (AllByRecursion P zs → P x × AllByRecursion P ys) → AllByRecursion P (if t then y ∷ zs else x ∷ y ∷ ys) → P x × AllByRecursion P (y ∷ ys)
  split_if P x y ys zs true split each = let rest = split each.1 in (rest.0, (each.0, rest.1))
  split_if P x y ys zs false split each = each

  each_unplaced : (P : X → Type 0) (x : X) (ys : List X) → AllByRecursion P (placed rank x ys) → P x × AllByRecursion P ys
  each_unplaced P x [] each = each
  each_unplaced P x (y ∷ ys) each = split_if P x y ys (placed rank x ys) (int_lt (rank y) (rank x)) (each_unplaced P x ys) each

  pub each_unranked : (P : X → Type 0) (xs : List X) → AllByRecursion P (ranked rank xs) → AllByRecursion P xs
  each_unranked P [] each = tt
  each_unranked P (x ∷ xs) each = let rest = each_unplaced P x (ranked rank xs) each in (rest.0, each_unranked P xs rest.1)

  -- ---- the ranks rise

  abbrev Rise : List X → Type 0
  Rise [] = Unit {0}
  Rise (x ∷ xs) = AllByRecursion (λ y. rank x ≤ℤ rank y) xs × Rise xs

  rise_if : (x y : X) (ys : List X) (t : Bool) → int_lt (rank y) (rank x) ≡ t → Rise (y ∷ ys) → Rise (placed rank x ys) → Rise (if t then y ∷ placed rank x ys else x ∷ y ∷ ys)
  rise_if x y ys true is rises placed_rise = (each_placed (λ z. rank y ≤ℤ rank z) x ys (≤ℤ-from_< _ _ (int_lt-true _ _ is)) rises.0, placed_rise)
  rise_if x y ys false is rises placed_rise =
      let low = int_lt-false _ _ is in
      ((low, each_weaker (λ z. rank y ≤ℤ rank z) (λ z. rank x ≤ℤ rank z) (λ z above. ≤ℤ_trans _ _ _ low above) ys rises.0), rises)

  placed_rises : (x : X) (ys : List X) → Rise ys → Rise (placed rank x ys)
  placed_rises x [] rises = (tt, tt)
  placed_rises x (y ∷ ys) rises = rise_if x y ys (int_lt (rank y) (rank x)) refl rises (placed_rises x ys rises.1)

  ranked_rises : (xs : List X) → Rise (ranked rank xs)
  ranked_rises [] = tt
  ranked_rises (x ∷ xs) = placed_rises x (ranked rank xs) (ranked_rises xs)

  -- ---- the least one that passes

  module _ (p : X → Bool) where
    abbrev with_first : X → List X → Bool → Option X
    with_first x ys true = lesser rank x (first_where p ys)
    with_first x ys false = first_where p ys

    kept_first : (x : X) (found : Option X) → ((z : X) → found ≡ Some z → rank x ≤ℤ rank z) → lesser rank x found ≡ Some x
    kept_first x None above = refl
    kept_first x (Some z) above = ap (λ t. if t then Some z else Some x) (not_below (rank x) (rank z) (above z refl))

    -- What holds of each element holds of the one that is found.
    found_if : (P : X → Type 0) (y z : X) (rest : Option X) (t : Bool) → P y → (rest ≡ Some z → P z) → (if t then Some y else rest) ≡ Some z → P z
    found_if P y z rest true own later is = subst P (same_Some y z is) own
    found_if P y z rest false own later is = later is

    found_has : (P : X → Type 0) (ys : List X) (z : X) → AllByRecursion P ys → first_where p ys ≡ Some z → P z
    found_has P [] z each is = absurd (cc)
    found_has P (y ∷ ys) z each is = found_if P y z (first_where p ys) (p y) each.0 (λ later. found_has P ys z each.1 later) is

    step_before : (x y : X) (ys : List X) (t : Bool) → p x ≡ t → rank x ≤ℤ rank y → Rise (y ∷ ys) → (if t then Some x else first_where p (y ∷ ys)) ≡ with_first x (y ∷ ys) t
    step_before x y ys true is low rises =
        let above : AllByRecursion (λ z. rank x ≤ℤ rank z) (y ∷ ys) = (low, each_weaker (λ z. rank y ≤ℤ rank z) (λ z. rank x ≤ℤ rank z) (λ z above. ≤ℤ_trans _ _ _ low above) ys rises.0) in
        sym (kept_first x (first_where p (y ∷ ys)) (λ z found. found_has (λ z. rank x ≤ℤ rank z) (y ∷ ys) z above found))
    step_before x y ys false is low rises = refl

    step_behind : (x y : X) (ys : List X) (t u : Bool) → int_lt (rank y) (rank x) ≡ true → first_where p (placed rank x ys) ≡ with_first x ys t
        → (if u then Some y else first_where p (placed rank x ys)) ≡ (if t then lesser rank x (if u then Some y else first_where p ys) else (if u then Some y else first_where p ys))
    step_behind x y ys true true lower more = sym (ap (λ t. if t then Some y else Some x) lower)
    step_behind x y ys true false lower more = more
    step_behind x y ys false true lower more = refl
    step_behind x y ys false false lower more = more

    step_same : (x y : X) (ys : List X) (t : Bool) → with_first x (y ∷ ys) t ≡ (if t then lesser rank x (if p y then Some y else first_where p ys) else (if p y then Some y else first_where p ys))
    step_same x y ys true = refl
    step_same x y ys false = refl

    placed_step : (x y : X) (ys : List X) (t : Bool) → int_lt (rank y) (rank x) ≡ t → Rise (y ∷ ys) → first_where p (placed rank x ys) ≡ with_first x ys (p x)
        → first_where p (if t then y ∷ placed rank x ys else x ∷ y ∷ ys) ≡ with_first x (y ∷ ys) (p x)
    placed_step x y ys true lower rises more = step_behind x y ys (p x) (p y) lower more ∙ sym (step_same x y ys (p x))
    placed_step x y ys false lower rises more = step_before x y ys (p x) refl (int_lt-false _ _ lower) rises

    placed_first : (x : X) (ys : List X) → Rise ys → first_where p (placed rank x ys) ≡ with_first x ys (p x)
    placed_first x [] rises = by (p x)
      where
        by : (t : Bool) → (if t then Some x else None) ≡ with_first x [] t
        by true = refl
        by false = refl
    placed_first x (y ∷ ys) rises = placed_step x y ys (int_lt (rank y) (rank x)) refl rises (placed_first x ys rises.1)

    filter_step : (x : X) (xs : List X) (t : Bool) → least_by rank (filter p xs) ≡ first_where p (ranked rank xs)
        → least_by rank (if t then x ∷ filter p xs else filter p xs) ≡ with_first x (ranked rank xs) t
    filter_step x xs true same = ap (lesser rank x) same
    filter_step x xs false same = same

    -- The element of least rank that passes is the first one that passes in the order of ranks.
    pub least_is_first : (xs : List X) → least_by rank (filter p xs) ≡ first_where p (ranked rank xs)
    least_is_first [] = refl
    least_is_first (x ∷ xs) = filter_step x xs (p x) (least_is_first xs) ∙ sym (placed_first x (ranked rank xs) (ranked_rises xs))

-- ---- images, and ranks in one order

module _ {X Y : Type 0} (rank : Y → ℤ) (f : X → Y) where
  placed_map : (x : X) (ys : List X) → placed rank (f x) (map f ys) ≡ map f (placed (λ x. rank (f x)) x ys)
  placed_map x [] = refl
  placed_map x (y ∷ ys) =
      let t = int_lt (rank (f y)) (rank (f x)) in
      ap (λ zs. if t then f y ∷ zs else f x ∷ f y ∷ map f ys) (placed_map x ys) ∙ sym (map_if f t (y ∷ placed (λ x. rank (f x)) x ys) (x ∷ y ∷ ys))

  pub ranked_map : (xs : List X) → ranked rank (map f xs) ≡ map f (ranked (λ x. rank (f x)) xs)
  ranked_map [] = refl
  ranked_map (x ∷ xs) = ap (placed rank (f x)) (ranked_map xs) ∙ placed_map x (ranked (λ x. rank (f x)) xs)

module _ {X : Type 0} (rank other : X → ℤ) where
  -- One element has a lower rank than another by both, or by neither.
  abbrev pub IsAlike : X → X → Type 0
  IsAlike x y = int_lt (rank y) (rank x) ≡ int_lt (other y) (other x)

  placed_alike : (x : X) (ys : List X) → AllByRecursion (IsAlike x) ys → placed rank x ys ≡ placed other x ys
  placed_alike x [] alike = refl
  placed_alike x (y ∷ ys) alike = λ i. if alike.0 i then y ∷ placed_alike x ys alike.1 i else x ∷ y ∷ ys

  -- Both ranks put each two of the elements in one order.
  abbrev pub AreAlike : List X → Type 0
  AreAlike [] = Unit {0}
  AreAlike (x ∷ xs) = AllByRecursion (IsAlike x) xs × AreAlike xs

  pub ranked_alike : (xs : List X) → AreAlike xs → ranked rank xs ≡ ranked other xs
  ranked_alike [] alike = refl
  ranked_alike (x ∷ xs) alike = ap (placed rank x) (ranked_alike xs alike.1) ∙ placed_alike x (ranked other xs) (each_ranked other (IsAlike x) xs alike.0)
