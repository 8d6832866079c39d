use Rattle.std.proofs.Common.{subst, refl}
use Rattle.educe_settings.specs.Ranked.{kept_of}
use Rattle.educe_meaning.specs.Arms.{IsPatternBy}
use Rattle.educe_cmp.proofs.arms.arm.Goals as goal

pub returns : goal.returns
returns c = λ definition said in_order.
    record {
      spelled = record { braced_is = refl; comma_is = refl };
      own_is = subst (λ all. IsPatternBy c.args.names.now.own c.args.variant.now all c.in_ok-own.own) said c.in_ok-own.ensures;
      block_is = c.in_ok-block.ensures definition said in_order;
    }
