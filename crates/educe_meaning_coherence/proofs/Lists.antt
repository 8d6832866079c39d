-- Facts of the elements of lists.
use Rattle.std.proofs.Common.{◌≡◌, ℕ, zero, suc, ◌<◌, ◌⊎◌, inl, inr, Bool, true, false, List, [], ◌∷◌, map, length, get_or, refl, sym, ap, subst, arith}
use Rattle.std.specs.Prelude.{if◌then◌else◌, ◌&&◌}
use Rattle.std.specs.List.{Contains, AllByRecursion, filter, list_all}
use Rattle.std.proofs.lemmas.Bool.{true≢false}

-- An element of a list, by cases.
abbrev pub In : {X : Type 0} → X → List X → Type 0
In x [] = ⊥
In x (y ∷ ys) = (y ≡ x) ⊎ In x ys

In-at : {X : Type 0} (xs : List X) (k : ℕ) (d x : X) → k < length xs → get_or xs k d ≡ x → In x xs
In-at [] k d x less is = absurd (omega arith)
In-at (y ∷ ys) zero d x less is = inl is
In-at (y ∷ ys) (suc k) d x less is = inr (In-at ys k d x (omega arith) is)

In-all : {X : Type 0} (P : X → Type 0) (xs : List X) (x : X) → AllByRecursion P xs → In x xs → P x
In-all P [] x each found = absurd found
In-all P (y ∷ ys) x each found = elim found [ inl here ↦ subst P here each.0 | inr later ↦ In-all P ys x each.1 later ]

-- What holds of each element of a list holds of one that it contains.
pub each_has : {X : Type 0} (P : X → Type 0) (xs : List X) (x : X) → AllByRecursion P xs → Contains xs x → P x
each_has P xs x each found = In-all P xs x each (In-at xs found.0 x x found.1 found.2)

-- What holds of each element holds of each that passes a test, and so does the test.
filtered_if : {X : Type 0} (P : X → Type 0) (p : X → Bool) (x : X) (xs : List X) (t : Bool) → p x ≡ t → P x → AllByRecursion (λ x. (p x ≡ true) × P x) xs
    → AllByRecursion (λ x. (p x ≡ true) × P x) (if t then x ∷ xs else xs)
filtered_if P p x xs true is own each = ((is, own), each)
filtered_if P p x xs false is own each = each

pub each_filtered : {X : Type 0} (P : X → Type 0) (p : X → Bool) (xs : List X) → AllByRecursion P xs → AllByRecursion (λ x. (p x ≡ true) × P x) (filter p xs)
each_filtered P p [] each = tt
each_filtered P p (x ∷ xs) each = filtered_if P p x (filter p xs) (p x) refl each.0 (each_filtered P p xs each.1)

-- What holds of the elements that pass a test holds of each element if it passes.
if_passes : {X : Type 0} (Q : X → Type 0) (x : X) (xs : List X) (t : Bool) → AllByRecursion Q (if t then x ∷ xs else xs) → (t ≡ true → Q x) × AllByRecursion Q xs
if_passes Q x xs true each = ((λ _. each.0), each.1)
if_passes Q x xs false each = ((λ is. absurd (true≢false (sym is))), each)

pub each_if_passes : {X : Type 0} (Q : X → Type 0) (p : X → Bool) (xs : List X) → AllByRecursion Q (filter p xs) → AllByRecursion (λ x. p x ≡ true → Q x) xs
each_if_passes Q p [] each = tt
each_if_passes Q p (x ∷ xs) each = let parts = if_passes Q x (filter p xs) (p x) each in (parts.0, each_if_passes Q p xs parts.1)

passes_if : {X : Type 0} (Q : X → Type 0) (x : X) (xs : List X) (t : Bool) → (t ≡ true → Q x) → AllByRecursion Q xs → AllByRecursion Q (if t then x ∷ xs else xs)
passes_if Q x xs true own each = (own refl, each)
passes_if Q x xs false own each = each

-- What holds of each element if it passes a test holds of the elements that pass.
pub each_that_passes : {X : Type 0} (Q : X → Type 0) (p : X → Bool) (xs : List X) → AllByRecursion (λ x. p x ≡ true → Q x) xs → AllByRecursion Q (filter p xs)
each_that_passes Q p [] each = tt
each_that_passes Q p (x ∷ xs) each = passes_if Q x (filter p xs) (p x) each.0 (each_that_passes Q p xs each.1)

-- Two things that hold of each element hold of each together.
pub each_both : {X : Type 0} (P Q : X → Type 0) (xs : List X) → AllByRecursion P xs → AllByRecursion Q xs → AllByRecursion (λ x. P x × Q x) xs
each_both P Q [] first second = tt
each_both P Q (x ∷ xs) first second = ((first.0, second.0), each_both P Q xs first.1 second.1)

-- Tests that answer alike let the same elements pass.
pub filter_alike : {X : Type 0} (p q : X → Bool) (xs : List X) → AllByRecursion (λ x. p x ≡ q x) xs → filter p xs ≡ filter q xs
filter_alike p q [] alike = refl
filter_alike p q (x ∷ xs) alike = λ i. if alike.0 i then x ∷ filter_alike p q xs alike.1 i else filter_alike p q xs alike.1 i

-- Two images of each element that are the same make the same list.
pub map_alike : {X Y : Type 0} (f g : X → Y) (xs : List X) → AllByRecursion (λ x. f x ≡ g x) xs → map f xs ≡ map g xs
map_alike f g [] alike = refl
map_alike f g (x ∷ xs) alike = λ i. alike.0 i ∷ map_alike f g xs alike.1 i

pub map_twice : {X Y Z : Type 0} (f : X → Y) (g : Y → Z) (xs : List X) → map g (map f xs) ≡ map (λ x. g (f x)) xs
map_twice f g [] = refl
map_twice f g (x ∷ xs) = ap (λ ys. g (f x) ∷ ys) (map_twice f g xs)

-- What holds of the image of each element holds of each element of the image.
pub each_image : {X Y : Type 0} (P : Y → Type 0) (f : X → Y) (xs : List X) → AllByRecursion (λ x. P (f x)) xs → AllByRecursion P (map f xs)
each_image P f [] each = tt
each_image P f (x ∷ xs) each = (each.0, each_image P f xs each.1)

both_true : (a b : Bool) → (a && b) ≡ true → (a ≡ true) × (b ≡ true)
both_true true b is = (refl, is)
both_true false b is = absurd (true≢false (sym is))

pub both : (a b : Bool) → a ≡ true → b ≡ true → (a && b) ≡ true
both true b first second = second
both false b first second = absurd (true≢false (sym first))

pub first_true : (a b : Bool) → (a && b) ≡ true → a ≡ true
first_true a b is = (both_true a b is).0

pub second_true : (a b : Bool) → (a && b) ≡ true → b ≡ true
second_true a b is = (both_true a b is).1

-- Each element of an image passes a test where the test is true of the whole list.
pub all_true : {X Y : Type 0} (p : Y → Bool) (f : X → Y) (xs : List X) → list_all p (map f xs) ≡ true → AllByRecursion (λ x. p (f x) ≡ true) xs
all_true p f [] is = tt
all_true p f (x ∷ xs) is = (first_true (p (f x)) (list_all p (map f xs)) is, all_true p f xs (second_true (p (f x)) (list_all p (map f xs)) is))

pub true_of_all : {X Y : Type 0} (p : Y → Bool) (f : X → Y) (xs : List X) → AllByRecursion (λ x. p (f x) ≡ true) xs → list_all p (map f xs) ≡ true
true_of_all p f [] each = refl
true_of_all p f (x ∷ xs) each = both (p (f x)) (list_all p (map f xs)) each.0 (true_of_all p f xs each.1)
