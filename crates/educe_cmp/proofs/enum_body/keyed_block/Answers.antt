use Rattle.std.proofs.Common.{◌∙◌, ◌∷◌, [], ◌++◌}
use Rattle.educe_cmp.proofs.enum_body.keyed_block.Goals as goal

pub returns : goal.returns
returns c =
    let decided = c.in_ok-keyed_decision.ensures in
    record {
      keys = c.in_ok-key_function.field-0;
      keys_are = c.in_ok-key_function.ensures;
      compares = decided.0;
      comparison_is = decided.1;
      decision = c.in_ok-keyed_decision.field-0;
      decision_is = decided.2;
      block_is = c.in_ok-push.ensures.ok ∙ (λ i. c.in_ok-block.ensures i ++ c.in_ok-keyed_decision.field-0 ∷ []);
    }
