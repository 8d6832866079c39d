use Rattle.std.proofs.Common.{◌∙◌}
use Rattle.educe_attrs_values.proofs.Words.{empty_spelled}
use Rattle.educe_attrs_values.proofs.reading.is_empty.Goals as goal

pub returns : goal.returns
returns c = c.is_spelled.ensures ∙ empty_spelled c.args.text.now
