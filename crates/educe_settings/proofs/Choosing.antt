-- What is chosen is the definition's own, and its fields are among those of the definition.
use Rattle.std.proofs.Common.{◌≡◌, ℕ, suc, ◌+◌, Bool, true, false, List, [], ◌∷◌, Option, Some, None, refl, subst, arith}
use Rattle.std.specs.Prelude.{if◌then◌else◌, slice_get}
use Rattle.std.specs.List.{AllByRecursion, flat_map}
use Rattle.std.proofs.lemmas.Option.{same_Some}
use Rattle.educe_syntax.specs.DeriveInput.{DeriveInput}
use Rattle.educe_syntax.specs.Expr.{Expr}
use Rattle.educe_syntax.specs.Few.{shape_fields, all_fields}
use Rattle.educe_syntax.specs.Field.{Field}
use Rattle.educe_syntax.specs.Shape.{Shape}
use Rattle.educe_syntax.specs.Shape.TheVariants.{Struct, Enum}
use Rattle.educe_syntax.specs.Variant.{Variant}
use Rattle.educe_settings.specs.Cases.{fields_in}
use Rattle.educe_settings.specs.Defaults.{Choice, by_value, of_struct, of_variant, is_marked, marked_from, only_one, chosen_variant, choice_by, choice_of, type_values, written_fields}
use Rattle.educe_settings.proofs.Elements.{In-all, In-found, each_apart}

-- what is chosen is the definition's own
abbrev pub Fits : Shape → Choice → Type 0
Fits shape (by_value said) = Unit {0}
Fits shape (of_struct own) = shape ≡ Struct own
Fits shape (of_variant place v) = (vs : List Variant) × (shape ≡ Enum vs) × (slice_get vs place ≡ Some v)

-- the marked variants stand at their places
abbrev pub AreAt : List Variant → List (ℕ × Variant) → Type 0
AreAt all found = AllByRecursion (λ (x : ℕ × Variant). slice_get all x.0 ≡ Some x.1) found

module _ (d : DeriveInput) (all : List Variant) where
  pub marked_at : (place : ℕ) (vs : List Variant) → ((k : ℕ) (v : Variant) → slice_get vs k ≡ Some v → slice_get all (place + k) ≡ Some v) → AreAt all (marked_from d place vs)
  marked_at place [] within = tt
  marked_at place (v ∷ vs) within =
      let here : place + 0 ≡ place = omega arith in
      by_mark (is_marked d v) (subst (λ n. slice_get all n ≡ Some v) here (within 0 v refl))
      (marked_at (place + 1) vs (λ k w at.
      let there : place + suc k ≡ place + 1 + k = omega arith in
      subst (λ n. slice_get all n ≡ Some w) there (within (suc k) w at)))
    where
      by_mark : (b : Bool) → slice_get all place ≡ Some v → AreAt all (marked_from d (place + 1) vs) → AreAt all (if b then (place, v) ∷ marked_from d (place + 1) vs else marked_from d (place + 1) vs)
      by_mark true at later = (at, later)
      by_mark false at later = later

  one_fits : (found : List (ℕ × Variant)) (choice : Choice) → AreAt all found → only_one found ≡ Some choice → Fits (Enum all) choice
  one_fits [] choice are is = absurd (cc)
  one_fits (x ∷ []) choice are is = subst (Fits (Enum all)) (same_Some (of_variant x.0 x.1) choice is) (all, refl, are.0)
  one_fits (x ∷ y ∷ more) choice are is = absurd (cc)

variant_fits : (d : DeriveInput) (vs : List Variant) (choice : Choice) → chosen_variant d vs ≡ Some choice → Fits (Enum vs) choice
variant_fits d [] choice is = absurd (cc)
variant_fits d (v ∷ []) choice is = subst (Fits (Enum (v ∷ []))) (same_Some (of_variant 0 v) choice is) (v ∷ [], refl, refl)
variant_fits d (v ∷ w ∷ vs) choice is =
    let all = v ∷ w ∷ vs in
    one_fits d all (marked_from d 0 all) choice
    (marked_at d all 0 all (λ k x at. let here : k ≡ 0 + k = omega arith in subst (λ n. slice_get all n ≡ Some x) here at)) is

choice_fits : (d : DeriveInput) (said : Option Expr) (shape : Shape) (choice : Choice) → choice_by d said shape ≡ Some choice → Fits shape choice
choice_fits d (Some said) shape choice is = subst (Fits shape) (same_Some (by_value said) choice is) tt
choice_fits d None (Struct own) choice is = subst (Fits (Struct own)) (same_Some (of_struct own) choice is) refl
choice_fits d None (Enum vs) choice is = variant_fits d vs choice is

-- what is chosen is the definition's own
pub chosen_fits : (d : DeriveInput) (choice : Choice) → choice_of d ≡ Some choice → Fits d.shape choice
chosen_fits d choice is = choice_fits d (type_values d).expression d.shape choice is

-- what holds of all fields holds of those of what is chosen
fitting_hold : (P : Field → Type 0) (shape : Shape) (choice : Choice) → Fits shape choice → AllByRecursion P (shape_fields shape) → AllByRecursion P (written_fields (Some choice))
fitting_hold P shape (by_value said) fits each = tt
fitting_hold P shape (of_struct own) fits each = subst (λ (s : Shape). AllByRecursion P (shape_fields s)) fits each
fitting_hold P shape (of_variant place v) fits each =
    let all : AllByRecursion P (flat_map fields_in fits.0) = subst (λ (s : Shape). AllByRecursion P (shape_fields s)) fits.1 each in
    In-all (λ v. AllByRecursion P (fields_in v)) fits.0 v (each_apart P fields_in fits.0 all) (In-found fits.0 place v fits.2)

-- what holds of all fields holds of the fields that `default` writes
pub written_hold : (d : DeriveInput) (P : Field → Type 0) → AllByRecursion P (all_fields d) → AllByRecursion P (written_fields (choice_of d))
written_hold d P each = by_choice (choice_of d) refl
  where
    by_choice : (o : Option Choice) → choice_of d ≡ o → AllByRecursion P (written_fields o)
    by_choice None is = tt
    by_choice (Some choice) is = fitting_hold P d.shape choice (chosen_fits d choice is) each
