-- Tests of the elements of one list against those of another.
use Rattle.std.proofs.Common.{◌≡◌, Bool, true, false, List, [], ◌∷◌, refl, ⊎_elim}
use Rattle.std.specs.List.{list_any, list_all}
use Rattle.std.proofs.lemmas.Bool.{false≢true, and_parts, or_cases, or_from, or_left, or_right}

module _ {X Y : Type 0} (test : X → Y → Bool) (p : X → Bool) (q : Y → Bool) where
  -- where the test of x says that q fails, it fails at each that the test lets through
  fails_each : (x : X) → ((y : Y) → test x y ≡ true → q y ≡ false) → (ys : List Y) → list_all (test x) ys ≡ true → list_any q ys ≡ false
  fails_each x h [] all = refl
  fails_each x h (y ∷ ys) all =
      let here = and_parts (test x y) (list_all (test x) ys) all in
      or_from (q y) (list_any q ys) (h y here.0) (fails_each x h ys here.1)

  -- where the test of x says that q holds, it holds somewhere
  holds_somewhere : (x : X) → ((y : Y) → test x y ≡ true → q y ≡ true) → (ys : List Y) → list_any (test x) ys ≡ true → list_any q ys ≡ true
  holds_somewhere x h [] some = absurd (false≢true some)
  holds_somewhere x h (y ∷ ys) some =
      ⊎_elim (λ here. or_left (q y) (list_any q ys) (h y here)) (λ there. or_right (q y) (list_any q ys) (holds_somewhere x h ys there))
      (or_cases (test x y) (list_any (test x) ys) some)

  -- each pair is apart: where p holds somewhere, q fails everywhere
  pub fails_everywhere : ((x : X) (y : Y) → test x y ≡ true → p x ≡ true → q y ≡ false) → (xs : List X) (ys : List Y)
      → list_all (λ x. list_all (test x) ys) xs ≡ true → list_any p xs ≡ true → list_any q ys ≡ false
  fails_everywhere h [] ys all some = absurd (false≢true some)
  fails_everywhere h (x ∷ xs) ys all some =
      let here = and_parts (list_all (test x) ys) (list_all (λ x. list_all (test x) ys) xs) all in
      ⊎_elim (λ holds. fails_each x (λ y t. h x y t holds) ys here.0) (λ there. fails_everywhere h xs ys here.1 there)
      (or_cases (p x) (list_any p xs) some)

  -- each has one that it lies within: where p holds somewhere, so does q
  pub holds_too : ((x : X) (y : Y) → test x y ≡ true → p x ≡ true → q y ≡ true) → (xs : List X) (ys : List Y)
      → list_all (λ x. list_any (test x) ys) xs ≡ true → list_any p xs ≡ true → list_any q ys ≡ true
  holds_too h [] ys all some = absurd (false≢true some)
  holds_too h (x ∷ xs) ys all some =
      let here = and_parts (list_any (test x) ys) (list_all (λ x. list_any (test x) ys) xs) all in
      ⊎_elim (λ holds. holds_somewhere x (λ y t. h x y t holds) ys here.0) (λ there. holds_too h xs ys here.1 there)
      (or_cases (p x) (list_any p xs) some)

-- where p holds somewhere, so does what follows from it
pub holds_somewhere_too : {X : Type 0} (p q : X → Bool) → ((x : X) → p x ≡ true → q x ≡ true) → (xs : List X) → list_any p xs ≡ true → list_any q xs ≡ true
holds_somewhere_too p q h [] some = absurd (false≢true some)
holds_somewhere_too p q h (x ∷ xs) some =
    ⊎_elim (λ here. or_left (q x) (list_any q xs) (h x here)) (λ there. or_right (q x) (list_any q xs) (holds_somewhere_too p q h xs there))
    (or_cases (p x) (list_any p xs) some)
