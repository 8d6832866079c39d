use Rattle.std.proofs.Common.{◌≡◌, ◌∙◌, ◌∷◌, [], List, map, Some, ap}
use Rattle.std.proofs.lemmas.Result.{IfOk-weaker}
use Rattle.educe_body_forms.specs.declared.form.Form.{Form, IfLet}
use Rattle.educe_settings.specs.Ranked.{kept_of}
use Rattle.educe_make_clone.specs.CloneNames.{names_of}
use Rattle.educe_make_clone.specs.FromArms.{IsFromArmBlock}
use Rattle.educe_make_clone.proofs.clone_from_body.arm_block.Goals as goal

pub returns : goal.returns
returns c =
    let inner = c.in_ok-inner.inner in
    let value = c.in_ok-value.value in
    let steps = c.in_ok-steps.steps in
    let names = c.args.names.now in
    IfOk-weaker c.block_of-2.result (λ block. block ≡ IfLet inner value steps (Some c.in_ok-others.others) ∷ [])
    (IsFromArmBlock (names_of names) c.args.variant.now c.args.settings.now (map kept_of c.args.fields.now))
    (λ block is. record {
      inner = inner;
      inner_is = c.in_ok-inner.ensures;
      value = value;
      value_is = c.in_ok-value.ensures;
      steps = steps;
      steps_are = c.in_ok-steps.ensures;
      whole = c.in_ok-whole.whole;
      whole_is = c.in_ok-whole.ensures;
      block_is = is ∙ ap (λ (others : List Form). IfLet inner value steps (Some others) ∷ []) c.in_ok-others.ensures;
    }) c.block_of-2.ensures
