-- Lists that grow at their end, while another one is gone over.
use Rattle.std.proofs.Common.{◌≡◌, ◌∙◌, ℕ, ◌+◌, ◌<◌, List, [], ◌∷◌, ◌++◌, Option, map, length, take, drop, get_or, ap, sym, subst, append_assoc, drop-cons, add-one}
use Rattle.std.specs.List.{AllByRecursion, filter_map, cons_option}
use Rattle.std.proofs.lemmas.List.{take_more, get_or-map}
use Rattle.std.proofs.lemmas.List.Elements.{filter_map-append}

-- what is left behind an item is what was left from it on without it
left : {A : Type 0} (xs : List A) (i : ℕ) (d x : A) → i < length xs → x ≡ get_or xs i d → drop i xs ≡ x ∷ drop (i + 1) xs
left xs i d x less item = drop-cons xs i d less ∙ (λ j. (sym item j) ∷ drop (sym (add-one i) j) xs)

-- what is made of each item is in front of what will be made of those left
pub made_more : {A B : Type 0} (f : A → B) (xs : List A) (i : ℕ) (d x : A) (old new : List B) (y : B) → i < length xs → x ≡ get_or xs i d
    → old ++ map f (drop i xs) ≡ map f xs → new ≡ old ++ y ∷ [] → y ≡ f x → new ++ map f (drop (i + 1) xs) ≡ map f xs
made_more f xs i d x old new y less item before pushed is =
    ap (λ own. own ++ map f (drop (i + 1) xs)) pushed ∙ append_assoc old (y ∷ []) (map f (drop (i + 1) xs))
    ∙ ap (λ first. old ++ first ∷ map f (drop (i + 1) xs)) is ∙ ap (λ rest. old ++ map f rest) (sym (left xs i d x less item)) ∙ before

-- what holds of each item left holds of all, where it holds of those before
pub each_more : {A : Type 0} (P : A → Type 0) (xs : List A) (i : ℕ) (d x : A) → i < length xs → x ≡ get_or xs i d
    → (AllByRecursion P (drop i xs) → AllByRecursion P xs) → P x → AllByRecursion P (drop (i + 1) xs) → AllByRecursion P xs
each_more P xs i d x less item before here later = before (subst (AllByRecursion P) (sym (left xs i d x less item)) (here, later))

-- what one more item gives
pub given_more : {A B : Type 0} (h : A → Option B) (xs : List A) (i : ℕ) (d x : A) (old new : List B) → i < length xs → x ≡ get_or xs i d
    → old ≡ filter_map h (take i xs) → new ≡ old ++ cons_option (h x) [] → new ≡ filter_map h (take (i + 1) xs)
given_more h xs i d x old new less item before pushed =
    pushed ∙ (λ j. before j ++ cons_option (h (item j)) []) ∙ sym (filter_map-append h (take i xs) (get_or xs i d ∷ [])) ∙ ap (filter_map h) (sym (take_more xs i d less))

-- an item of an image is what is made of the one there
pub image_at : {A B : Type 0} (f : A → B) (xs : List A) (ys : List B) (i : ℕ) (x : A) (y : B) → ys ≡ map f xs → i < length xs → x ≡ get_or xs i x → y ≡ get_or ys i y → y ≡ f x
image_at f xs ys i x y are less item image = image ∙ ap (λ all. get_or all i y) are ∙ get_or-map f xs i x y less ∙ ap f (sym item)
