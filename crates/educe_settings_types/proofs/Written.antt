-- Which variants `default` writes, by their marks.
use Rattle.std.proofs.Common.{◌≡◌, ℕ, ◌<◌, ◌==◌, Bool, ◌&&◌, ◌||◌, List, [], ◌∷◌, map, length, get_or, refl, arith}
use Rattle.std.proofs.lemmas.Bool.{eqb-true, false_from_ne_true}
use Rattle.educe_syntax.specs.DeriveInput.{DeriveInput}
use Rattle.educe_syntax.specs.Variant.{Variant}
use Rattle.educe_attrs.specs.Values.{Values}
use Rattle.educe_settings.specs.Defaults.{is_one, is_open, is_written, mark_values}
use Rattle.educe_settings.proofs.Growing.{image_at}

-- there is one where they are one
one_counted : {X : Type 0} (xs : List X) → (length xs == 1) ≡ is_one xs
one_counted [] = refl
one_counted (x ∷ []) = refl
one_counted (x ∷ y ∷ xs) = false_from_ne_true (length (x ∷ y ∷ xs) == 1) (λ same. absurd (omega (arith, eqb-true (length (x ∷ y ∷ xs)) 1 same)))

-- the test of a variant by its mark
pub written_is : (d : DeriveInput) (variants : List Variant) (marks : List Values) (i : ℕ) (v : Variant) (m : Values) (bare : Bool) → bare ≡ is_open d → marks ≡ map (mark_values d) variants
    → i < length variants → v ≡ get_or variants i v → m ≡ get_or marks i m → (bare && ((length variants == 1) || m.flag)) ≡ is_written d variants v
written_is d variants marks i v m bare open_is are less item mark =
    let same : m ≡ mark_values d v = image_at (mark_values d) variants marks i v m are less item mark in
    λ j. open_is j && (one_counted variants j || (same j).flag)
