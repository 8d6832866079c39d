use Rattle.std.proofs.Common.{ap, ◌∙◌}
use Rattle.educe_meaning.specs.Steps.{step_of}
use Rattle.educe_cmp.proofs.comparing.step.Goals as goal

pub returns : goal.returns
returns c = record {
  compares = c.in_ok-comparison.comparison;
  is = c.step_of.ensures ∙ ap (step_of c.args.which c.args.ranked.now.reverse) (c.in_ok-new.ensures ∙ c.in_ok-test.ensures);
  comparison_is = c.in_ok-comparison.ensures;
}
