-- What equal lists share.
use Rattle.std.proofs.Common.{◌≡◌, List, [], ◌∷◌}

-- equal lists have equal parts
pub cons_parts : {A : Type 0} (x y : A) (xs ys : List A) → x ∷ xs ≡ y ∷ ys → (x ≡ y) × (xs ≡ ys)
cons_parts x y xs ys h = (cc, cc)

-- the empty list has no item
pub nil_not_cons : {A : Type 0} (y : A) (ys : List A) → ◌≡◌ {A = List A} [] (y ∷ ys) → ⊥
nil_not_cons y ys h = cc
