use Rattle.educe_cmp.proofs.eq_handling.plain_block.Goals as goal

pub returns : goal.returns
returns c = record { item = c.args.item; are = c.in_ok-items.ensures; impl_is = c.requires }
