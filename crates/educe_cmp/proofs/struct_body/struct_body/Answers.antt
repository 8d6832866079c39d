use Rattle.std.proofs.Common.{ℕ, List, map, ap, subst, sym, ◌++◌, ◌∷◌, [], ◌∙◌}
use Rattle.std.specs.Prelude.{codes}
use Rattle.educe_body_forms.specs.declared.form.Form as form
use Rattle.educe_body_forms.specs.declared.form.Known.{Known}
use Rattle.educe_meaning.specs.Blocks.{HasSteps, IsParameter}
use Rattle.educe_meaning.specs.Steps.{of_base, AreSteps}
use Rattle.educe_settings.specs.Ranked.{kept_of}
use Rattle.educe_settings.proofs.Lists.{one_pushed}
use Rattle.educe_cmp.proofs.struct_body.struct_body.Goals as goal

pub returns : goal.returns
returns c all ordered_is =
    let which = c.args.which in
    let ordered = map kept_of c.args.fields.now in
    let name = c.new.ensures in
    let copied = c.args.copied in
    let Own : List ℕ → Type 0 = λ own. AreSteps which (of_base copied own) (of_base copied c.in_ok-other.other.text) ordered c.in_ok-block.block in
    let Stepped : List ℕ → Type 0 = λ param. HasSteps which (of_base copied (codes "self")) (of_base copied param) ordered c.push.new.self in
    record {
      param = c.new.result;
      params_are = one_pushed _ _ _ c.new-params.ensures c.in_ok-push-2.ensures.ok;
      param_is = subst (IsParameter c.args.ast.now (codes "other")) (sym name) c.in_ok-other.ensures.chosen;
      ordered = ordered;
      ordered_is = ordered_is;
      copied = copied;
      copied_are = c.requires.copied;
      block_has = subst Stepped (sym name) (record {
        steps = c.in_ok-block.block;
        steps_are = subst Own c.in_ok-own.ensures.text c.in_ok-block.ensures;
        block_is = c.in_ok-push.ensures.ok ∙ ap (λ (known : Known). c.in_ok-block.block ++ form.Known known ∷ []) c.neutral.ensures;
      });
    }
