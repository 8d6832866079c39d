-- Printouts with commas between, and those of a list that may have no items.
use Rattle.std.proofs.Common.{◌≡◌, true, false, ℕ, suc, ◌+◌, ◌<◌, List, [], ◌∷◌, ◌++◌, take, get_or, length, refl, sym, ap, ◌∙◌, arith, codes, append_assoc, append-nil}
use Rattle.std.specs.Prelude.{◌==◌}
use Rattle.std.specs.List.{flat_map}
use Rattle.std.proofs.lemmas.Bool.{cond-false}
use Rattle.std.proofs.lemmas.Bool.Decides.{nat_tests}
use Rattle.std.proofs.lemmas.Grind.{flat_map-append}
use Rattle.std.proofs.lemmas.List.{length-take-le, take_more}
use Rattle.educe_tokens.specs.Quote.{quoted}
use Rattle.educe_body_forms.specs.Printing.{comma_before, separated, unless_empty}
use Rattle.educe_body_forms.specs.Printouts.{Printout}

-- behind the first, there is a comma
comma_before-suc : (i : ℕ) → comma_before (suc i) ≡ quoted (codes ",")
comma_before-suc i = cond-false (suc i == 0) [] (quoted (codes ",")) (grind (arith, nat_tests))

-- one more item behind items with commas between
separated-last : {X : Type 0} (f : X → Printout) (xs : List X) (x : X) → (separated f (xs ++ x ∷ [])).tokens ≡ (separated f xs).tokens ++ (comma_before (length xs) ++ (f x).tokens)
separated-last f [] x = append-nil (f x).tokens
separated-last f (y ∷ ys) x =
    ap (λ found. (f y).tokens ++ found)
    (flat_map-append (λ z. quoted (codes ",") ++ (f z).tokens) ys (x ∷ [])
    ∙ ap (λ found. flat_map (λ z. quoted (codes ",") ++ (f z).tokens) ys ++ found) (append-nil (quoted (codes ",") ++ (f x).tokens)))
    ∙ sym (append_assoc (f y).tokens (flat_map (λ z. quoted (codes ",") ++ (f z).tokens) ys) (quoted (codes ",") ++ (f x).tokens))
    ∙ ap (λ comma. (separated f (y ∷ ys)).tokens ++ (comma ++ (f x).tokens)) (sym (comma_before-suc (length ys)))

-- the items up to one more, with commas between
pub separated-take : {X : Type 0} (f : X → Printout) (xs : List X) (i : ℕ) (d : X) → i < length xs
    → (separated f (take (i + 1) xs)).tokens ≡ (separated f (take i xs)).tokens ++ (comma_before i ++ (f (get_or xs i d)).tokens)
separated-take f xs i d h =
    ap (λ few. (separated f few).tokens) (take_more xs i d h)
    ∙ separated-last f (take i xs) (get_or xs i d)
    ∙ ap (λ index. (separated f (take i xs)).tokens ++ (comma_before index ++ (f (get_or xs i d)).tokens)) (length-take-le i xs (omega arith))

-- a list without items prints nothing
pub unless_empty-none : {X : Type 0} (xs : List X) (printout : Printout) → (length xs == 0) ≡ true → (unless_empty xs printout).tokens ≡ []
unless_empty-none [] printout none = refl
unless_empty-none (x ∷ xs) printout none = absurd (grind (arith, nat_tests))

-- a list with items prints what is to stand for it
pub unless_empty-some : {X : Type 0} (xs : List X) (printout : Printout) → (length xs == 0) ≡ false → (unless_empty xs printout).tokens ≡ printout.tokens
unless_empty-some [] printout some = absurd (grind (arith, nat_tests))
unless_empty-some (x ∷ xs) printout some = refl
