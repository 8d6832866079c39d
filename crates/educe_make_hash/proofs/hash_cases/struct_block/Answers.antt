use Rattle.std.proofs.Common.{◌∙◌}
use Rattle.educe_make_hash.proofs.hash_cases.struct_block.Goals as goal

pub fields_in_order-requires-clause-settings : goal.fields_in_order-requires-clause-settings
fields_in_order-requires-clause-settings c = c.as_slice.ensures ∙ c.in_ok-settings.ensures.are
