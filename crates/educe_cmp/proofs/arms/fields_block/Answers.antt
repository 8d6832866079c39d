use Rattle.std.proofs.Common.{subst, map}
use Rattle.std.proofs.lemmas.Result.{IfOk-weaker}
use Rattle.educe_settings.specs.Ranked.{kept_of}
use Rattle.educe_cmp.specs.Names.{names_of}
use Rattle.educe_meaning.specs.Arms.{IsPatternBy, ComparesFields}
use Rattle.educe_handlers.proofs.Named.{name_copied}
use Rattle.educe_cmp.proofs.arms.fields_block.Goals as goal

pub returns : goal.returns
returns c = λ definition said in_order.
    let names = c.args.names.now in
    let variant = c.args.variant.now in
    IfOk-weaker c.block_of.result _ (ComparesFields c.args.which definition (names_of names) variant)
    (λ block is. record {
      inner = c.in_ok-inner.inner;
      inner_is = subst (λ all. IsPatternBy names.others variant all c.in_ok-inner.inner) said c.in_ok-inner.ensures;
      value = c.in_ok-value.value;
      value_is = name_copied names.other c.in_ok-value.value c.in_ok-value.ensures names.other_nowhere;
      ordered = map kept_of c.args.fields.now;
      ordered_is = in_order;
      steps = c.in_ok-steps.steps;
      steps_are = c.in_ok-steps.ensures;
      others = c.in_ok-others.others;
      others_are = c.in_ok-others.ensures;
      block_is = is;
    })
    c.block_of.ensures
