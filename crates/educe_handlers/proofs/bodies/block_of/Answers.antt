use Rattle.educe_settings.proofs.Lists.{one_pushed}
use Rattle.educe_handlers.proofs.bodies.block_of.Goals as goal

pub returns : goal.returns
returns c = one_pushed _ _ _ c.in_ok-block.ensures c.in_ok-push.ensures.ok
