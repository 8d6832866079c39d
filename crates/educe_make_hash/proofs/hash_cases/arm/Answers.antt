use Rattle.std.proofs.Common.{◌++◌, ◌∙◌, ap, subst, refl}
use Rattle.educe_settings.proofs.Lists.{one_pushed}
use Rattle.educe_meaning.specs.Arms.{IsPatternBy}
use Rattle.educe_meaning.specs.HashBodies.{AreHashSteps}
use Rattle.educe_meaning.specs.Steps.{bound}
use Rattle.educe_make_hash.proofs.hash_cases.arm.Goals as goal

pub returns : goal.returns
returns c = λ definition said kept_is.
    let names = c.args.names.now in
    let variant = c.args.variant.now in
    let first = c.in_ok-place_step.field-0 in
    let steps = c.in_ok-steps.steps in
    record {
      spelled = record { braced_is = refl; comma_is = refl };
      pattern_is = subst (λ all. IsPatternBy names.prefix variant all c.in_ok-pattern.pattern) said c.in_ok-pattern.ensures;
      first = first;
      first_is = c.in_ok-place_step.ensures;
      steps = steps;
      steps_are = subst (λ kept. AreHashSteps names.state.text (bound names.prefix) kept steps) kept_is c.in_ok-steps.ensures;
      block_is = c.in_ok-append.ensures.ok ∙ ap (λ front. front ++ steps) (one_pushed _ _ first c.new-block.ensures c.in_ok-push.ensures.ok);
    }
