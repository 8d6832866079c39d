use Rattle.std.proofs.Common.{List, subst, refl}
use Rattle.std.specs.List.{AllZip}
use Rattle.educe_attrs.specs.FieldSettings.{FieldSettings}
use Rattle.educe_meaning.specs.Arms.{IsPatternBy}
use Rattle.educe_meaning.specs.CloneBodies.{IsThrough}
use Rattle.educe_settings.specs.Settings.{Kept}
use Rattle.educe_make_clone.specs.CloneNames.{names_of}
use Rattle.educe_make_clone.proofs.clone_from_body.from_arm.Goals as goal

pub returns : goal.returns
returns c = λ definition said kept.
    let names = names_of c.args.names.now in
    let variant = c.args.variant.now in
    let block = c.in_ok-block.ensures in
    record {
      spelled = record { braced_is = refl; comma_is = refl };
      own_is = subst (λ (all : List FieldSettings). IsPatternBy names.own variant all c.in_ok-pattern.pattern) said c.in_ok-pattern.ensures;
      inner = block.inner;
      inner_is = subst (λ (all : List FieldSettings). IsPatternBy names.sources variant all block.inner) said block.inner_is;
      value = block.value;
      value_is = block.value_is;
      steps = block.steps;
      steps_are = subst (λ (fields : List Kept). AllZip (IsThrough names) fields block.steps) kept block.steps_are;
      whole = block.whole;
      whole_is = block.whole_is;
      block_is = block.block_is;
    }
