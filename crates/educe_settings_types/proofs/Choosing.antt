-- Which variant is chosen by the marks.
use Rattle.std.proofs.Common.{◌≡◌, ◌∙◌, ℕ, ◌+◌, Bool, true, false, List, [], ◌∷◌, ◌++◌, None, length, inl, inr, refl, ap, sym, subst, arith}
use Rattle.std.specs.Prelude.{if◌then◌else◌}
use Rattle.std.specs.List.{AllByRecursion}
use Rattle.std.proofs.lemmas.Bool.{true≢false}
use Rattle.educe_syntax.specs.DeriveInput.{DeriveInput}
use Rattle.educe_syntax.specs.Variant.{Variant}
use Rattle.educe_settings.specs.Defaults.{is_one, is_marked, marked_from, only_one, chosen_variant}
use Rattle.educe_settings.proofs.Elements.{In}

-- ---- marked variants

module _ (d : DeriveInput) where
  -- the marked ones of two lists, one behind the other
  pub marked_joined : (place : ℕ) (xs ys : List Variant) → marked_from d place (xs ++ ys) ≡ marked_from d place xs ++ marked_from d (place + length xs) ys
  marked_joined place [] ys = let here : place ≡ place + 0 = omega arith in ap (λ n. marked_from d n ys) here
  marked_joined place (x ∷ xs) ys =
      let there : place + 1 + length xs ≡ place + length (x ∷ xs) = omega arith in
      by_mark (marked_from d (place + 1) xs) (marked_from d (place + length (x ∷ xs)) ys) (marked_from d (place + 1) (xs ++ ys)) (is_marked d x)
      (marked_joined (place + 1) xs ys ∙ ap (λ n. marked_from d (place + 1) xs ++ marked_from d n ys) there)
    where
      by_mark : (front back rest : List (ℕ × Variant)) (b : Bool) → rest ≡ front ++ back → (if b then (place, x) ∷ rest else rest) ≡ (if b then (place, x) ∷ front else front) ++ back
      by_mark front back rest true same = ap (λ more. (place, x) ∷ more) same
      by_mark front back rest false same = same

  -- a marked one is among the marked
  marked_in : (place : ℕ) (vs : List Variant) (v : Variant) → In v vs → is_marked d v ≡ true → (found : ℕ × Variant) × In found (marked_from d place vs)
  marked_in place [] v inside mark = absurd inside
  marked_in place (x ∷ xs) v (inl here) mark =
      ((place, x), subst (λ b. In (place, x) (if b then (place, x) ∷ marked_from d (place + 1) xs else marked_from d (place + 1) xs)) (sym (ap (is_marked d) here ∙ mark)) (inl refl))
  marked_in place (x ∷ xs) v (inr later) mark =
      let rest = marked_in (place + 1) xs v later mark in
      (rest.0, by_mark rest.0 (is_marked d x) rest.1)
    where
      by_mark : (found : ℕ × Variant) (b : Bool) → In found (marked_from d (place + 1) xs) → In found (if b then (place, x) ∷ marked_from d (place + 1) xs else marked_from d (place + 1) xs)
      by_mark found true inside = inr inside
      by_mark found false inside = inside

  -- where none is marked, none is among the marked
  unmarked_none : (place : ℕ) (vs : List Variant) → AllByRecursion (λ v. is_marked d v ≡ false) vs → marked_from d place vs ≡ []
  unmarked_none place [] none = refl
  unmarked_none place (v ∷ vs) none =
      ap (λ (b : Bool). if b then (place, v) ∷ marked_from d (place + 1) vs else marked_from d (place + 1) vs) none.0 ∙ unmarked_none (place + 1) vs none.1

  -- ---- no choice

  -- of two there is not only one
  several : (xs ys : List (ℕ × Variant)) (x y : ℕ × Variant) → In x xs → In y ys → only_one (xs ++ ys) ≡ None
  several [] ys x y first second = absurd first
  several (a ∷ []) [] x y first second = absurd second
  several (a ∷ []) (b ∷ ys) x y first second = refl
  several (a ∷ b ∷ xs) ys x y first second = refl

  several_marked : (xs ys : List Variant) (x y : Variant) → In x xs → In y ys → is_marked d x ≡ true → is_marked d y ≡ true → only_one (marked_from d 0 (xs ++ ys)) ≡ None
  several_marked xs ys x y first second first_mark second_mark =
      let front = marked_in 0 xs x first first_mark in
      let back = marked_in (0 + length xs) ys y second second_mark in
      ap only_one (marked_joined 0 xs ys) ∙ several (marked_from d 0 xs) (marked_from d (0 + length xs) ys) front.0 back.0 front.1 back.1

  -- where two are marked, none is chosen
  pub none_of_two : (xs ys : List Variant) (x y : Variant) → In x xs → In y ys → is_marked d x ≡ true → is_marked d y ≡ true → chosen_variant d (xs ++ ys) ≡ None
  none_of_two [] ys x y first second first_mark second_mark = absurd first
  none_of_two (a ∷ []) [] x y first second first_mark second_mark = absurd second
  none_of_two (a ∷ []) (b ∷ ys) x y first second first_mark second_mark = several_marked (a ∷ []) (b ∷ ys) x y first second first_mark second_mark
  none_of_two (a ∷ b ∷ xs) ys x y first second first_mark second_mark = several_marked (a ∷ b ∷ xs) ys x y first second first_mark second_mark

  -- where no variant is marked, and there is not only one, none is chosen
  pub none_of_none : (vs : List Variant) → is_one vs ≡ false → AllByRecursion (λ v. is_marked d v ≡ false) vs → chosen_variant d vs ≡ None
  none_of_none [] many none = refl
  none_of_none (v ∷ []) many none = absurd (true≢false many)
  none_of_none (v ∷ w ∷ vs) many none = ap only_one (unmarked_none 0 (v ∷ w ∷ vs) none)
