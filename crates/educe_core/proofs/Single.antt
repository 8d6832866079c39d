-- Lists of one and of two elements, and the words that are no command by their number.
use Rattle.std.proofs.Common.{◌≡◌, ◌≢◌, ℕ, ◌<◌, ◌≤◌, List, [], ◌∷◌, length, get_or, refl, sym, ap, ◌∙◌, arith}
use Rattle.educe_core.specs.declared.spoken.Spoken.{Spoken}
use Rattle.educe_core.specs.declared.spoken.Spoken.TheVariants.{Expand, Sample}
use Rattle.educe_core.specs.Spoken.{IsSpoken}

-- a list of one element is that element
pub only_one : {A : Type 0} (xs : List A) (x : A) → length xs ≡ 1 → x ≡ get_or xs 0 x → xs ≡ x ∷ []
only_one [] x one first = absurd (omega arith)
only_one (y ∷ []) x one first = ap (λ z. z ∷ []) (sym first)
only_one (y ∷ z ∷ zs) x one first = absurd (omega arith)

-- a list of two elements is those
pub only_two : {A : Type 0} (xs : List A) (x y : A) → length xs ≡ 2 → x ≡ get_or xs 0 x → y ≡ get_or xs 1 y → xs ≡ x ∷ y ∷ []
only_two [] x y two first second = absurd (omega arith)
only_two (u ∷ []) x y two first second = absurd (omega arith)
only_two (u ∷ v ∷ []) x y two first second = ap (λ z. z ∷ v ∷ []) (sym first) ∙ ap (λ z. x ∷ z ∷ []) (sym second)
only_two (u ∷ v ∷ w ∷ more) x y two first second = absurd (omega arith)

-- neither one word nor two are no command
pub too_few_or_many : (words : List (List ℕ)) (command : Spoken) → length words ≢ 1 → length words ≢ 2 → IsSpoken command words → ⊥
too_few_or_many words Expand not_one not_two is = not_one (ap length is.are)
too_few_or_many words (Sample count) not_one not_two is = not_two (ap length is.are)
