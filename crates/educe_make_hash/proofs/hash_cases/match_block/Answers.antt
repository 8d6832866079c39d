use Rattle.std.proofs.Common.{◌≡◌, ◌≢◌, List, [], ◌∷◌, length, refl, ◌∙◌}
use Rattle.std.specs.Prelude.{codes}
use Rattle.educe_syntax.specs.DeriveInput.{DeriveInput}
use Rattle.educe_syntax.specs.Ident.{Ident}
use Rattle.educe_syntax.specs.Variant.{Variant}
use Rattle.educe_body_forms.specs.declared.form.Arm.{Arm}
use Rattle.educe_body_forms.specs.declared.form.Form.{Form, MatchValue}
use Rattle.educe_settings.proofs.Lists.{one_pushed}
use Rattle.educe_meaning.specs.Arms.{IsName, AreArms}
use Rattle.educe_meaning.specs.HashBodies.{HashNames, IsHashArm, IsHashEnumBlock}
use Rattle.educe_make_hash.proofs.hash_cases.match_block.Goals as goal

-- a match with arms is the block for an enum, whose variants they are those of
match_is : (d : DeriveInput) (names : HashNames) (variants : List Variant) (arms : List Arm) (value : Ident) (block : List Form) → length arms ≢ 0 → IsName (codes "self") value
    → block ≡ MatchValue value arms ∷ [] → AreArms (IsHashArm d names) 0 variants arms → IsHashEnumBlock d names variants block
match_is d names [] [] value block some value_is is are = absurd (some refl)
match_is d names [] (arm ∷ arms) value block some value_is is are = absurd are
match_is d names (v ∷ vs) arms value block some value_is is are = record { value = value; value_is = value_is; arms = arms; arms_are = are; block_is = is }

pub returns : goal.returns
returns c = λ definition names variants are.
    match_is definition names variants c.args.arms c.in_ok-value.value c.push.new.self (λ none. c.if-len-eq0.false (c.len.ensures ∙ none))
    (record { is = c.in_ok-value.ensures.text; nowhere = c.in_ok-value.ensures.nowhere }) (one_pushed _ _ _ c.new-block.ensures c.in_ok-push.ensures.ok) are
