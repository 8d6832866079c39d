-- The arms of a key function, by the constants of their variants.
use Rattle.std.proofs.Common.{◌≡◌, ℕ, ◌+◌, List, [], ◌∷◌, Option, Some, None, refl, sym, subst}
use Rattle.std.specs.List.{AllZip, zip}
use Rattle.educe_syntax.specs.Expr.{Expr}
use Rattle.educe_syntax.specs.Variant.{Variant}
use Rattle.educe_discriminants.specs.declared.discriminant_type.DiscriminantType.{DiscriminantType}
use Rattle.educe_body_forms.specs.declared.key_function.Constant.{Constant}
use Rattle.educe_body_forms.specs.declared.key_function.KeyArm.{KeyArm}
use Rattle.educe_cmp.proofs.Counted.{counted_without, counted_with}
use Rattle.educe_meaning.specs.Arms.{IsConstant, IsBarePattern, IsKeyArm}
use Rattle.educe_meaning.specs.Discriminants.{counted_from}

-- the arm of a variant and a constant
pub record IsArmOf (pair : Variant × Constant) (arm : KeyArm) : Type 0 where
  pub pattern_is : IsBarePattern pair.0 arm.pattern
  pub constant_is : arm.constant ≡ pair.1

-- the arms of variants with their constants
pub key_arms_from : (ty : DiscriminantType) (base : List ℕ) (near : Option Expr) (steps : ℕ) (variants : List Variant) (constants : List Constant) (arms : List KeyArm)
    → AllZip IsArmOf (zip variants constants) arms → AllZip (IsConstant ty base) (counted_from near steps variants) constants
    → AllZip (IsKeyArm ty base) (counted_from near steps variants) arms
key_arms_from ty base near steps [] constants [] each counts = tt
key_arms_from ty base near steps [] constants (a ∷ arms) each counts = absurd each
key_arms_from ty base near steps (v ∷ vs) [] arms each counts = by_discriminant v.discriminant refl
  where
    by_discriminant : (o : Option Expr) → v.discriminant ≡ o → AllZip (IsKeyArm ty base) (counted_from near steps (v ∷ vs)) arms
    by_discriminant None none = absurd (subst (λ xs. AllZip (IsConstant ty base) xs []) (counted_without near steps steps v refl none vs) counts)
    by_discriminant (Some value) some = absurd (subst (λ xs. AllZip (IsConstant ty base) xs []) (counted_with near steps 0 v value refl some vs) counts)
key_arms_from ty base near steps (v ∷ vs) (k ∷ ks) [] each counts = absurd each
key_arms_from ty base near steps (v ∷ vs) (k ∷ ks) (a ∷ arms) each counts =
    by_discriminant v.discriminant refl (λ near steps. key_arms_from ty base near steps vs ks arms each.1)
  where
    onward : Type 0
    onward = (near : Option Expr) (steps : ℕ) → AllZip (IsConstant ty base) (counted_from near steps vs) ks → AllZip (IsKeyArm ty base) (counted_from near steps vs) arms

    at : (next : Option Expr) (count : ℕ) → counted_from near steps (v ∷ vs) ≡ record { variant = v; written = next; distance = count } ∷ counted_from next (count + 1) vs → onward
        → AllZip (IsKeyArm ty base) (counted_from near steps (v ∷ vs)) (a ∷ arms)
    at next count here more =
        let both = subst (λ xs. AllZip (IsConstant ty base) xs (k ∷ ks)) here counts in
        subst (λ xs. AllZip (IsKeyArm ty base) xs (a ∷ arms)) (sym here) (
          record { pattern_is = each.0.pattern_is; constant_is = subst (IsConstant ty base (record { variant = v; written = next; distance = count })) (sym each.0.constant_is) both.0 },
          more next (count + 1) both.1,
        )

    by_discriminant : (o : Option Expr) → v.discriminant ≡ o → onward → AllZip (IsKeyArm ty base) (counted_from near steps (v ∷ vs)) (a ∷ arms)
    by_discriminant None none more = at near steps (counted_without near steps steps v refl none vs) more
    by_discriminant (Some value) some more = at (Some value) 0 (counted_with near steps 0 v value refl some vs) more
