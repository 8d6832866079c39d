-- Blocks that match on the value of `self`, for the variants of an enum.
use Rattle.std.proofs.Common.{◌≡◌, ◌≢◌, List, [], ◌∷◌, length, refl, arith}
use Rattle.std.specs.List.{AllZip}
use Rattle.educe_syntax.specs.DeriveInput.{DeriveInput}
use Rattle.educe_syntax.specs.Variant.{Variant}
use Rattle.educe_body_forms.specs.declared.form.Arm.{Arm}
use Rattle.educe_body_forms.specs.declared.form.Form.{Form, Unreachable}
use Rattle.educe_meaning.specs.Arms.{IsMatchOnSelf}
use Rattle.educe_meaning.specs.CloneBodies.{CloneNames, IsCloneArm, IsCloneEnum, IsDiscard, IsFromArm, IsFromEnum}
use Rattle.educe_make_clone.specs.Matches.{IsMatchOf}

-- a match with these arms is one on the variants
match_of : (IsOwn : Variant → Arm → Type 0) (variants : List Variant) (arms : List Arm) (block : List Form) → AllZip IsOwn variants arms → IsMatchOf arms block → IsMatchOnSelf IsOwn variants block
match_of IsOwn variants arms block are is = record { value = is.value; value_is = is.value_is; arms = arms; arms_are = are; block_is = is.block_is }

module _ (d : DeriveInput) (names : CloneNames) where
  -- the block of `clone` where there are arms
  pub clone_matched : (variants : List Variant) (arms : List Arm) (block : List Form) → length arms ≢ 0 → AllZip (IsCloneArm d names) variants arms → IsMatchOf arms block
      → IsCloneEnum d names variants block
  clone_matched [] [] block some are is = absurd (some refl)
  clone_matched [] (arm ∷ arms) block some are is = absurd are
  clone_matched (v ∷ vs) arms block some are is = match_of (IsCloneArm d names) (v ∷ vs) arms block are is

  -- the block of `clone` where there are no arms
  pub clone_unmatched : (variants : List Variant) (arms : List Arm) (block : List Form) → length arms ≡ 0 → AllZip (IsCloneArm d names) variants arms → block ≡ Unreachable ∷ []
      → IsCloneEnum d names variants block
  clone_unmatched [] arms block none are is = is
  clone_unmatched (v ∷ vs) [] block none are is = absurd are
  clone_unmatched (v ∷ vs) (arm ∷ arms) block none are is = absurd (omega arith)

  -- the block of `clone_from` where there are arms
  pub from_matched : (variants : List Variant) (arms : List Arm) (block : List Form) → length arms ≢ 0 → AllZip (IsFromArm d names) variants arms → IsMatchOf arms block
      → IsFromEnum d names variants block
  from_matched [] [] block some are is = absurd (some refl)
  from_matched [] (arm ∷ arms) block some are is = absurd are
  from_matched (v ∷ vs) arms block some are is = match_of (IsFromArm d names) (v ∷ vs) arms block are is

  pub from_unmatched : (variants : List Variant) (arms : List Arm) (block : List Form) → length arms ≡ 0 → AllZip (IsFromArm d names) variants arms → IsDiscard names.source block
      → IsFromEnum d names variants block
  from_unmatched [] arms block none are is = is
  from_unmatched (v ∷ vs) [] block none are is = absurd are
  from_unmatched (v ∷ vs) (arm ∷ arms) block none are is = absurd (omega arith)
