use Rattle.std.proofs.Common.{refl}
use Rattle.educe_settings.proofs.Lists.{one_pushed}
use Rattle.educe_handlers.proofs.items.function.Goals as goal

pub returns : goal.returns
returns c = record {
  own = c.in_ok-name.name;
  body = c.args.body;
  are = one_pushed _ _ _ c.new-functions.ensures c.in_ok-push.ensures.ok;
  name_is = c.in_ok-name.ensures;
  body_is = refl;
}
