use Rattle.std.proofs.Common.{[], ◌∷◌, ap, ◌∙◌}
use Rattle.educe_body_forms.specs.declared.form.Form.{MatchValue}
use Rattle.educe_body_forms.specs.declared.form.Form as form
use Rattle.educe_body_forms.specs.declared.form.Known.{Known}
use Rattle.educe_settings.proofs.Lists.{two_pushed}
use Rattle.educe_cmp.proofs.arms.match_block.Goals as goal

pub returns : goal.returns
returns c = λ definition names variants each. record {
  value = c.in_ok-value.value;
  value_is = record { is = c.in_ok-value.ensures.text; nowhere = c.in_ok-value.ensures.nowhere };
  arms = c.args.arms;
  arms_are = each;
  block_is =
      two_pushed _ _ _ _ _ c.new-block.ensures c.in_ok-push.ensures.ok c.in_ok-push-2.ensures.ok
      ∙ ap (λ (known : Known). MatchValue c.in_ok-value.value c.args.arms ∷ form.Known known ∷ []) c.neutral.ensures;
}
