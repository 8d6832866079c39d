use Rattle.std.proofs.Common.{List, subst}
use Rattle.educe_syntax.specs.Ty.{Ty}
use Rattle.educe_settings.proofs.Lists.{two_pushed}
use Rattle.educe_meaning.specs.Checks.{IsCheck}
use Rattle.educe_cmp.proofs.eq_handling.checked_block.Goals as goal

pub returns : goal.returns
returns c =
    let item = c.args.item in
    let check = c.in_ok-check.check in
    record {
      check = check;
      item = item;
      are = two_pushed _ _ _ _ _ c.new-items.ensures c.in_ok-push.ensures.ok c.in_ok-push-2.ensures.ok;
      check_is = subst (λ (types : List Ty). IsCheck c.args.ast.now item.generics types check) c.requires.types c.in_ok-check.ensures;
      impl_is = c.requires.item;
    }
