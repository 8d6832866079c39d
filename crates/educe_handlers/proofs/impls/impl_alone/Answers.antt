use Rattle.educe_settings.proofs.Lists.{one_pushed}
use Rattle.educe_handlers.proofs.impls.impl_alone.Goals as goal

pub returns : goal.returns
returns c = one_pushed _ _ _ c.new-items.ensures c.in_ok-push.ensures.ok
