use Rattle.std.proofs.Common.{List, subst, refl}
use Rattle.educe_attrs.specs.FieldSettings.{FieldSettings}
use Rattle.educe_meaning.specs.Arms.{IsPatternBy}
use Rattle.educe_make_clone.proofs.clone_body.clone_arm.Goals as goal

pub returns : goal.returns
returns c = λ definition said kept. record {
  spelled = record { braced_is = refl; comma_is = refl };
  pattern_is = subst (λ (all : List FieldSettings). IsPatternBy c.args.names.now.sources c.args.variant.now all c.in_ok-pattern.pattern) said c.in_ok-pattern.ensures;
  form = c.in_ok-form.form;
  form_is = c.in_ok-form.ensures definition kept;
  block_is = c.in_ok-block.ensures;
}
