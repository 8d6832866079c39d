use Rattle.std.proofs.lemmas.Result.{IfOk-weaker}
use Rattle.educe_make_clone.specs.Matches.{IsMatchOf}
use Rattle.educe_make_clone.proofs.clone_body.match_on_self.Goals as goal

pub returns : goal.returns
returns c =
    IfOk-weaker c.block_of.result _ (IsMatchOf c.args.arms) (λ block is. record {
      value = c.in_ok-value.value;
      value_is = record { is = c.in_ok-value.ensures.text; nowhere = c.in_ok-value.ensures.nowhere };
      block_is = is;
    }) c.block_of.ensures
