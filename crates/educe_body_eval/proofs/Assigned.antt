-- A field of `self` that is assigned.
use Rattle.std.proofs.Common.{◌≡◌, ℕ, zero, suc, ◌+◌, ◌-◌, ◌<◌, ◌≤◌, List, [], ◌∷◌, ◌++◌, Some, None, length, take, drop, refl, sym, ap, ◌∙◌, append_assoc, add-one, length-drop, arith}
use Rattle.std.proofs.lemmas.List.{take_all}
use Rattle.std.specs.Option.{option_map}
use Rattle.educe_body_values.specs.declared.value.FieldValue.{FieldValue}
use Rattle.educe_body_values.specs.Meaning.{set_at}

-- behind the last field there is none to assign to
pub set_at-past : (place : ℕ) (x : FieldValue) (fields : List FieldValue) → length fields ≤ place → set_at place x fields ≡ None
set_at-past place x [] past = refl
set_at-past zero x (y ∷ ys) past = absurd (omega arith)
set_at-past (suc place) x (y ∷ ys) past = ap (option_map (λ (more : List FieldValue). y ∷ more)) (set_at-past place x ys (omega arith))

-- the fields in front of the place, the one that is assigned, and those behind it
pub set_at-within : (place : ℕ) (x : FieldValue) (fields : List FieldValue) → place < length fields → set_at place x fields ≡ Some (take place fields ++ x ∷ drop (suc place) fields)
set_at-within place x [] within = absurd (omega arith)
set_at-within zero x (y ∷ ys) within = refl
set_at-within (suc place) x (y ∷ ys) within = ap (option_map (λ (more : List FieldValue). y ∷ more)) (set_at-within place x ys (omega arith))

-- the fields with another one at a place are made by adding the parts one after the other
pub set_at-made : (place : ℕ) (x : FieldValue) (fields first second third : List FieldValue) → place < length fields → first ≡ take place fields → second ≡ first ++ x ∷ []
    → third ≡ second ++ take (length fields - (place + 1)) (drop (place + 1) fields) → Some third ≡ set_at place x fields
set_at-made place x fields first second third within front one all =
    let behind : take (length fields - (place + 1)) (drop (place + 1) fields) ≡ drop (place + 1) fields =
    take_all _ (drop (place + 1) fields) (let left = length-drop (place + 1) fields in omega arith) in
    ap Some (
    all ∙ (λ i. (one ∙ ap (λ (first : List FieldValue). first ++ x ∷ []) front) i ++ behind i)
    ∙ append_assoc (take place fields) (x ∷ []) (drop (place + 1) fields) ∙ ap (λ n. take place fields ++ x ∷ drop n fields) (add-one place)
    )
    ∙ sym (set_at-within place x fields within)
