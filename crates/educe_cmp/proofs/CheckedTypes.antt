-- The types of which `Eq` is checked, behind references, and lists of three items.
use Rattle.std.proofs.Common.{◌≡◌, ℕ, zero, suc, arith, ◌<◌, List, [], ◌∷◌, ◌++◌, get_or, length, sym, ap, subst, ◌∙◌}
use Rattle.std.specs.Borrow.{Bor}
use Rattle.std.specs.List.{AllByRecursion}
use Rattle.educe_syntax.specs.Ty.{Ty}
use Rattle.educe_settings.specs.EveryType.{behind}
use Rattle.educe_settings.proofs.Lists.{two_pushed}

-- what holds of each type behind a reference holds of the one at an index
pub at_index : (P : Ty → Type 0) (types : List (Bor Ty)) (i : ℕ) (d t : Bor Ty) → i < length types → t ≡ get_or types i d → AllByRecursion P (behind types) → P t.now
at_index P [] i d t less item each = absurd (omega arith)
at_index P (own ∷ types) zero d t less item each = subst (λ (t : Bor Ty). P t.now) (sym item) each.0
at_index P (own ∷ types) (suc i) d t less item each = at_index P types i d t (omega arith) item each.1

-- the list that three pushes make
pub three_pushed : {A : Type 0} (none one two three : List A) (x y z : A) → none ≡ [] → one ≡ none ++ x ∷ [] → two ≡ one ++ y ∷ [] → three ≡ two ++ z ∷ [] → three ≡ x ∷ y ∷ z ∷ []
three_pushed none one two three x y z empty first second third = third ∙ ap (λ items. items ++ z ∷ []) (two_pushed none one two x y empty first second)
