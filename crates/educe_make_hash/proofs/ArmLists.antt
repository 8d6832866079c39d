-- Arms that are added one after the other.
use Rattle.std.proofs.Common.{◌≡◌, ℕ, ◌+◌, ◌<◌, List, [], ◌∷◌, ◌++◌, take, length, get_or, subst, arith}
use Rattle.std.proofs.lemmas.List.{take_more, length-take}
use Rattle.educe_syntax.specs.Variant.{Variant}
use Rattle.educe_body_forms.specs.declared.form.Arm.{Arm}
use Rattle.educe_meaning.specs.Arms.{AreArms}

module _ (IsOwn : ℕ → Variant → Arm → Type 0) where
  -- one arm more
  arms_push : (place : ℕ) (vs : List Variant) (arms : List Arm) (v : Variant) (arm : Arm) → AreArms IsOwn place vs arms → IsOwn (place + length vs) v arm
      → AreArms IsOwn place (vs ++ v ∷ []) (arms ++ arm ∷ [])
  arms_push place [] [] v arm are own =
      let here : place + 0 ≡ place = omega arith in
      (subst (λ (n : ℕ). IsOwn n v arm) here own, tt)
  arms_push place [] (a ∷ arms) v arm are own = absurd are
  arms_push place (w ∷ vs) [] v arm are own = absurd are
  arms_push place (w ∷ vs) (a ∷ arms) v arm are own =
      let there : place + length (w ∷ vs) ≡ place + 1 + length vs = omega arith in
      (are.0, arms_push (place + 1) vs arms v arm are.1 (subst (λ (n : ℕ). IsOwn n v arm) there own))

  -- a loop over variants that adds the arm of each
  pub arms_more : (variants : List Variant) (i : ℕ) (d v : Variant) (old new : List Arm) (arm : Arm) → i < length variants → v ≡ get_or variants i d
      → AreArms IsOwn 0 (take i variants) old → new ≡ old ++ arm ∷ [] → IsOwn i v arm → AreArms IsOwn 0 (take (i + 1) variants) new
  arms_more variants i d v old new arm less item before pushed own =
      let long : i ≡ 0 + length (take i variants) = omega (arith, length-take i variants) in
      rw (take_more variants i d less, pushed)
      (arms_push 0 (take i variants) old (get_or variants i d) arm before (subst (λ (n : ℕ). IsOwn n (get_or variants i d) arm) long (subst (λ (w : Variant). IsOwn i w arm) item own)))
