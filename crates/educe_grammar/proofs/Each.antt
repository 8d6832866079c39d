-- What holds of each item of a list, and of lists that are made of it.
use Rattle.std.proofs.Common.{List, [], ◌∷◌, ◌++◌, map, Option, Some, None}
use Rattle.std.specs.Prelude.{IfSome}
use Rattle.std.specs.List.{AllByRecursion, cons_option, filter_map, flat_map}

-- what holds of each item holds of those of a front
pub all_front : {A : Type 0} (P : A → Type 0) (xs ys : List A) → AllByRecursion P (xs ++ ys) → AllByRecursion P xs
all_front P [] ys all = tt
all_front P (x ∷ xs) ys all = (all.0, all_front P xs ys all.1)

-- what holds of each item holds of those behind a prefix
pub all_behind : {A : Type 0} (P : A → Type 0) (xs ys : List A) → AllByRecursion P (xs ++ ys) → AllByRecursion P ys
all_behind P [] ys all = all
all_behind P (x ∷ xs) ys all = all_behind P xs ys all.1

-- what holds of each of two lists holds of both, one behind the other
pub all_append : {A : Type 0} (P : A → Type 0) (xs ys : List A) → AllByRecursion P xs → AllByRecursion P ys → AllByRecursion P (xs ++ ys)
all_append P [] ys all more = more
all_append P (x ∷ xs) ys all more = (all.0, all_append P xs ys all.1 more)

-- what follows holds of each
pub all_more : {A : Type 0} (P Q : A → Type 0) → ((x : A) → P x → Q x) → (xs : List A) → AllByRecursion P xs → AllByRecursion Q xs
all_more P Q more [] all = tt
all_more P Q more (x ∷ xs) all = (more x all.0, all_more P Q more xs all.1)

-- where two things hold of each, the one does and the other does
pub all_parted : {A : Type 0} (P Q : A → Type 0) (xs : List A) → AllByRecursion (λ x. P x × Q x) xs → AllByRecursion P xs × AllByRecursion Q xs
all_parted P Q xs all = (all_more (λ x. P x × Q x) P (λ x both. both.0) xs all, all_more (λ x. P x × Q x) Q (λ x both. both.1) xs all)

-- what holds of a value that is found, and of others
all_kept : {B : Type 0} (Q : B → Type 0) (o : Option B) (ys : List B) → IfSome o Q → AllByRecursion Q ys → AllByRecursion Q (cons_option o ys)
all_kept Q None ys has others = others
all_kept Q (Some y) ys has others = (has, others)

-- what follows of each value that is found holds of each that is kept
pub all_found : {A B : Type 0} (f : A → Option B) (P : A → Type 0) (Q : B → Type 0) → ((x : A) → P x → IfSome (f x) Q) → (xs : List A) → AllByRecursion P xs → AllByRecursion Q (filter_map f xs)
all_found f P Q into [] all = tt
all_found f P Q into (x ∷ xs) all = all_kept Q (f x) (filter_map f xs) (into x all.0) (all_found f P Q into xs all.1)

-- what follows of each holds of what is made of each
pub all_made : {A B : Type 0} (f : A → B) (P : A → Type 0) (Q : B → Type 0) → ((x : A) → P x → Q (f x)) → (xs : List A) → AllByRecursion P xs → AllByRecursion Q (map f xs)
all_made f P Q into [] all = tt
all_made f P Q into (x ∷ xs) all = (into x all.0, all_made f P Q into xs all.1)

-- what follows of each list holds of all of them, one behind the other
pub all_flat : {A B : Type 0} (f : A → List B) (P : A → Type 0) (Q : B → Type 0) → ((x : A) → P x → AllByRecursion Q (f x)) → (xs : List A) → AllByRecursion P xs → AllByRecursion Q (flat_map f xs)
all_flat f P Q into [] all = tt
all_flat f P Q into (x ∷ xs) all = all_append Q (f x) (flat_map f xs) (into x all.0) (all_flat f P Q into xs all.1)
