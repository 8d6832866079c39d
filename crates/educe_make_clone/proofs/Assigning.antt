-- The steps of `clone_from` on the fields of a struct.
use Rattle.std.proofs.Common.{◌≡◌, ◌≢◌, ℕ, Bool, List, [], ◌∷◌, length, refl, arith}
use Rattle.std.specs.List.{AllZip}
use Rattle.educe_body_forms.specs.declared.form.Form.{Form}
use Rattle.educe_meaning.specs.CloneBodies.{IsDiscard, IsAssignment, AreAssignments}
use Rattle.educe_settings.specs.Settings.{Kept}

module _ (copied : Bool) (source : List ℕ) where
  -- without fields the source is discarded
  pub none_assigned : (kept : List Kept) (block : List Form) → length kept ≡ 0 → IsDiscard source block → AreAssignments copied source kept block
  none_assigned [] block none is = is
  none_assigned (k ∷ ks) block none is = absurd (omega arith)

  -- and else there is a step for each
  pub some_assigned : (kept : List Kept) (block : List Form) → length kept ≢ 0 → AllZip (IsAssignment copied source) kept block → AreAssignments copied source kept block
  some_assigned [] block some are = absurd (some refl)
  some_assigned (k ∷ ks) block some are = are
