use Rattle.educe_handlers.proofs.impls.impl_block.Goals as goal

pub returns-clause-block : goal.returns-clause-block
returns-clause-block c = record { item = c.in_ok-item.item; are = c.in_ok-items.ensures; impl_is = c.in_ok-item.ensures.item }
