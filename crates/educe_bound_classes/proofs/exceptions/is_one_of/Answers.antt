use Rattle.std.proofs.Common.{◌∙◌}
use Rattle.educe_bound_classes.proofs.Texts.{any_name}
use Rattle.educe_bound_classes.proofs.exceptions.is_one_of.Goals as goal

pub returns : goal.returns
returns c = c.is_spelled_by.ensures ∙ any_name c.args.names.now c.args.text.now
