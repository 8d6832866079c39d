use Rattle.std.proofs.Common.{◌∙◌}
use Rattle.educe_make_hash.proofs.hash_cases.variant_arm.Goals as goal

pub variant_fields-requires-clause-settings : goal.variant_fields-requires-clause-settings
variant_fields-requires-clause-settings c = c.as_slice-settings.ensures ∙ c.in_ok-settings.ensures.are
