-- Items of lists: of a longer list, of two lists.
use Rattle.std.proofs.Common.{◌≡◌, List, [], ◌∷◌, ◌++◌, refl, sym, subst, ◌∙◌, ap, append_assoc, ◌⊎◌, inl, inr}
use Rattle.std.specs.List.{AllByRecursion}
use Rattle.educe_attrs_rows.specs.Among.{IsAmong}

pub among_none : {X : Type 0} (m : X) → IsAmong m [] → ⊥
among_none {X = X} m a = not_nil a.front a.back a.is
  where
    not_nil : (front back : List X) → [] ≡ front ++ m ∷ back → ⊥
    not_nil [] back h = cc
    not_nil (f ∷ front) back h = cc

pub among_first : {X : Type 0} (m : X) (ms : List X) → IsAmong m (m ∷ ms)
among_first m ms = record { front = []; back = ms; is = refl }

pub among_more : {X : Type 0} (f m : X) (ms : List X) → IsAmong m ms → IsAmong m (f ∷ ms)
among_more f m ms a = record { front = f ∷ a.front; back = a.back; is = ap (λ xs. f ∷ xs) a.is }

among_by : {X : Type 0} (m f : X) (ms front back : List X) → f ∷ ms ≡ front ++ m ∷ back → (f ≡ m) ⊎ IsAmong m ms
among_by m f ms [] back h = let same : f ≡ m = cc in inl same
among_by m f ms (g ∷ front) back h = let rest : ms ≡ front ++ m ∷ back = cc in inr (record { front = front; back = back; is = rest })

pub among_cases : {X : Type 0} (m f : X) (ms : List X) → IsAmong m (f ∷ ms) → (f ≡ m) ⊎ IsAmong m ms
among_cases m f ms a = among_by m f ms a.front a.back a.is

-- of two lists
pub among_left : {X : Type 0} (m : X) (xs ys : List X) → IsAmong m xs → IsAmong m (xs ++ ys)
among_left m xs ys a = record { front = a.front; back = a.back ++ ys; is = ap (λ zs. zs ++ ys) a.is ∙ append_assoc a.front (m ∷ a.back) ys }

pub among_right : {X : Type 0} (m : X) (xs ys : List X) → IsAmong m ys → IsAmong m (xs ++ ys)
among_right m xs ys a = record { front = xs ++ a.front; back = a.back; is = ap (λ zs. xs ++ zs) a.is ∙ sym (append_assoc xs a.front (m ∷ a.back)) }

pub among_both : {X : Type 0} (m : X) (xs ys : List X) → IsAmong m (xs ++ ys) → IsAmong m xs ⊎ IsAmong m ys
among_both m [] ys a = inr a
among_both m (x ∷ xs) ys a = elim (among_cases m x (xs ++ ys) a) [
  | inl same ↦ inl (subst (λ x. IsAmong m (x ∷ xs)) (sym same) (among_first m xs))
  | inr more ↦ elim (among_both m xs ys more) [ inl left ↦ inl (among_more x m xs left) | inr right ↦ inr right ]
]

-- what holds of each holds of one of them
all_at : {X : Type 0} (P : X → Type 0) (x : X) (front back : List X) → AllByRecursion P (front ++ x ∷ back) → P x
all_at P x [] back all = all.0
all_at P x (f ∷ front) back all = all_at P x front back all.1

pub among_all : {X : Type 0} (P : X → Type 0) (x : X) (xs : List X) → AllByRecursion P xs → IsAmong x xs → P x
among_all P x xs all a = all_at P x a.front a.back (subst (AllByRecursion P) a.is all)
