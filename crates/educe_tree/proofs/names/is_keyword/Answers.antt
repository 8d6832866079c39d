use Rattle.educe_tree.proofs.Words.{list_any-KEYWORDS}
use Rattle.educe_tree.proofs.names.is_keyword.Goals as goal
use Rattle.std.proofs.Common.{◌∙◌}

pub returns : goal.returns
returns c = c.is_one_of.ensures ∙ list_any-KEYWORDS c.args.text.now
