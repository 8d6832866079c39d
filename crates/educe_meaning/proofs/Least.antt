-- Of the elements that pass a test, the one of least rank is the first where the ranks rise.
use Rattle.std.proofs.Common.{◌≡◌, ◌<ℤ◌, ◌≤ℤ◌, inl, inr, Bool, true, false, List, [], ◌∷◌, Option, Some, None, refl, ap, sym, ◌∙◌, subst, arith, rules, ℤ}
use Rattle.std.specs.Prelude.{int_lt, if◌then◌else◌, IsPermutation}
use Rattle.std.specs.List.{filter, AllByRecursion}
use Rattle.std.specs.Int.Signed.{≤ℤ_refl, clash_ℤ}
use Rattle.std.proofs.lemmas.Bool.{true≢false}
use Rattle.std.proofs.lemmas.Int.{ints}
use Rattle.std.proofs.lemmas.List.Sorted.{IsPermutation-sym}
use Rattle.educe_settings.specs.Ranks.{lesser, least_by, Rises}
use Rattle.educe_settings.proofs.Elements.{In, In-permutation, In-all}

int_lt-true : (a b : ℤ) → int_lt a b ≡ true → a <ℤ b
int_lt-true a b h = search rules

int_lt-false : (a b : ℤ) → int_lt a b ≡ false → b ≤ℤ a
int_lt-false a b h = search rules

≤ℤ-from_< : (a b : ℤ) → a <ℤ b → a ≤ℤ b
≤ℤ-from_< a b h = omega (arith, ints)

≤ℤ_trans : (a b c : ℤ) → a ≤ℤ b → b ≤ℤ c → a ≤ℤ c
≤ℤ_trans a b c h k = omega (arith, ints)

-- the first element that passes
abbrev pub first_where : {X : Type 0} → (X → Bool) → List X → Option X
first_where p [] = None
first_where p (x ∷ xs) = if p x then Some x else first_where p xs

module _ {X : Type 0} (rank : X → ℤ) (p : X → Bool) where
  -- an element that passes, and none that passes has a lower rank
  record IsLeast (xs : List X) (x : X) : Type 0 where
    inside : In x xs
    passes : p x ≡ true
    below : (y : X) → In y xs → p y ≡ true → rank x ≤ℤ rank y

  abbrev IsBest : List X → Option X → Type 0
  IsBest xs None = (y : X) → In y xs → p y ≡ true → ⊥
  IsBest xs (Some x) = IsLeast xs x

  not_passed : (x y : X) → p x ≡ false → x ≡ y → p y ≡ true → ⊥
  not_passed x y fails same passes = true≢false (sym passes ∙ ap p (sym same) ∙ fails)

  best_later : (x : X) (xs : List X) (o : Option X) → p x ≡ false → IsBest xs o → IsBest (x ∷ xs) o
  best_later x xs None fails best = λ y found passes. elim found [ inl same ↦ not_passed x y fails same passes | inr later ↦ best y later passes ]
  best_later x xs (Some b) fails best =
      record {
        inside = inr best.inside;
        passes = best.passes;
        below = λ y found passes. elim found [ inl same ↦ absurd (not_passed x y fails same passes) | inr later ↦ best.below y later passes ];
      }

  pick : (x : X) (xs : List X) (b : X) (t : Bool) → int_lt (rank b) (rank x) ≡ t → p x ≡ true → IsLeast xs b → IsBest (x ∷ xs) (if t then Some b else Some x)
  pick x xs b true lower passes best =
      record {
        inside = inr best.inside;
        passes = best.passes;
        below = λ y found also. elim found [ inl same ↦ subst (λ z. rank b ≤ℤ rank z) same (≤ℤ-from_< _ _ (int_lt-true _ _ lower)) | inr later ↦ best.below y later also ];
      }
  pick x xs b false lower passes best =
      record {
        inside = inl refl;
        passes = passes;
        below = λ y found also. elim found [
          | inl same ↦ subst (λ z. rank x ≤ℤ rank z) same (≤ℤ_refl (rank x))
          | inr later ↦ ≤ℤ_trans _ _ _ (int_lt-false _ _ lower) (best.below y later also)
        ];
      }

  best_first : (x : X) (xs : List X) (o : Option X) → p x ≡ true → IsBest xs o → IsBest (x ∷ xs) (lesser rank x o)
  best_first x xs None passes best =
      record {
        inside = inl refl;
        passes = passes;
        below = λ y found also. elim found [ inl same ↦ subst (λ z. rank x ≤ℤ rank z) same (≤ℤ_refl (rank x)) | inr later ↦ absurd (best y later also) ];
      }
  best_first x xs (Some b) passes best = pick x xs b (int_lt (rank b) (rank x)) refl passes best

  best_step : (x : X) (xs : List X) (t : Bool) → p x ≡ t → IsBest xs (least_by rank (filter p xs)) → IsBest (x ∷ xs) (least_by rank (if t then x ∷ filter p xs else filter p xs))
  best_step x xs true passes best = best_first x xs (least_by rank (filter p xs)) passes best
  best_step x xs false fails best = best_later x xs (least_by rank (filter p xs)) fails best

  best_is : (xs : List X) → IsBest xs (least_by rank (filter p xs))
  best_is [] = λ y found passes. found
  best_is (x ∷ xs) = best_step x xs (p x) refl (best_is xs)

  best_moves : (xs ys : List X) (o : Option X) → IsPermutation xs ys → IsBest xs o → IsBest ys o
  best_moves xs ys None moved best = λ y found passes. best y (In-permutation ys xs y (IsPermutation-sym xs ys moved) found) passes
  best_moves xs ys (Some x) moved best =
      record {
        inside = In-permutation xs ys x moved best.inside;
        passes = best.passes;
        below = λ y found passes. best.below y (In-permutation ys xs y (IsPermutation-sym xs ys moved) found) passes;
      }

  best_of_rest : (x : X) (xs : List X) (o : Option X) → p x ≡ false → IsBest (x ∷ xs) o → IsBest xs o
  best_of_rest x xs None fails best = λ y found passes. best y (inr found) passes
  best_of_rest x xs (Some b) fails best =
      record {
        inside = elim best.inside [ inl same ↦ absurd (not_passed x b fails same best.passes) | inr later ↦ later ];
        passes = best.passes;
        below = λ y found passes. best.below y (inr found) passes;
      }

  best_is_head : (x : X) (xs : List X) (o : Option X) → p x ≡ true → AllByRecursion (λ y. rank x <ℤ rank y) xs → IsBest (x ∷ xs) o → o ≡ Some x
  best_is_head x xs None passes above best = absurd (best x (inl refl) passes)
  best_is_head x xs (Some b) passes above best =
      elim best.inside [
        | inl same ↦ ap Some (sym same)
        | inr later ↦ clash_ℤ (In-all (λ y. rank x <ℤ rank y) xs b above later) (best.below x (inl refl) passes)
      ]

  first_step : (x : X) (xs : List X) (o : Option X) (t : Bool) → p x ≡ t → Rises rank (x ∷ xs) → IsBest (x ∷ xs) o → (IsBest xs o → o ≡ first_where p xs)
      → o ≡ (if t then Some x else first_where p xs)
  first_step x xs o true passes rises best more = best_is_head x xs o passes rises.0 best
  first_step x xs o false fails rises best more = more (best_of_rest x xs o fails best)

  best_is_first : (xs : List X) (o : Option X) → Rises rank xs → IsBest xs o → o ≡ first_where p xs
  best_is_first [] None rises best = refl
  best_is_first [] (Some x) rises best = absurd best.inside
  best_is_first (x ∷ xs) o rises best = first_step x xs o (p x) refl rises best (best_is_first xs o rises.1)

  -- the least of those that pass is the first in the order of ranks
  pub least_by-first : (xs ys : List X) → IsPermutation xs ys → Rises rank ys → least_by rank (filter p xs) ≡ first_where p ys
  least_by-first xs ys moved rises = best_is_first ys (least_by rank (filter p xs)) rises (best_moves xs ys (least_by rank (filter p xs)) moved (best_is xs))
