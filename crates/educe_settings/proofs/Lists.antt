-- Lists that grow at their end, and lists that go side by side.
use Rattle.std.proofs.Common.{◌≡◌, ℕ, ◌+◌, ◌<◌, List, [], ◌∷◌, ◌++◌, take, length, map, get_or, ap, ◌∙◌}
use Rattle.std.specs.List.{AllZip}
use Rattle.std.proofs.lemmas.List.{take_more}

-- the list that one push makes
pub one_pushed : {A : Type 0} (none one : List A) (x : A) → none ≡ [] → one ≡ none ++ x ∷ [] → one ≡ x ∷ []
one_pushed none one x empty first = first ∙ ap (λ items. items ++ x ∷ []) empty

-- the list that two pushes make
pub two_pushed : {A : Type 0} (none one two : List A) (x y : A) → none ≡ [] → one ≡ none ++ x ∷ [] → two ≡ one ++ y ∷ [] → two ≡ x ∷ y ∷ []
two_pushed none one two x y empty first second =
    second ∙ ap (λ items. items ++ y ∷ []) (first ∙ ap (λ items. items ++ x ∷ []) empty)

-- one more on both sides
pub zip_push : {A B : Type 0} (R : A → B → Type 0) (xs : List A) (ys : List B) (x : A) (y : B) → AllZip R xs ys → R x y → AllZip R (xs ++ x ∷ []) (ys ++ y ∷ [])
zip_push R [] [] x y z h = (h, tt)
zip_push R [] (b ∷ ys) x y z h = absurd z
zip_push R (a ∷ xs) [] x y z h = absurd z
zip_push R (a ∷ xs) (b ∷ ys) x y z h = (z.0, zip_push R xs ys x y z.1 h)

-- a loop over the left list that pushes to the right one
pub zip_more : {A B : Type 0} (R : A → B → Type 0) (xs : List A) (i : ℕ) (d x : A) (old new : List B) (y : B)
    → i < length xs → x ≡ get_or xs i d → AllZip R (take i xs) old → new ≡ old ++ y ∷ [] → R x y → AllZip R (take (i + 1) xs) new
zip_more R xs i d x old new y less item side pushed here =
    rw (take_more xs i d less, pushed) (zip_push R (take i xs) old (get_or xs i d) y side (rw (← item) here))

-- side by side with what is made of each item
pub zip_mapped : {A B C : Type 0} (R : B → C → Type 0) (f : A → B) (xs : List A) (ys : List C) → AllZip (λ x y. R (f x) y) xs ys → AllZip R (map f xs) ys
zip_mapped R f [] [] zip = tt
zip_mapped R f [] (y ∷ ys) zip = absurd zip
zip_mapped R f (x ∷ xs) [] zip = absurd zip
zip_mapped R f (x ∷ xs) (y ∷ ys) zip = (zip.0, zip_mapped R f xs ys zip.1)
