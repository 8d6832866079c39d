use Rattle.educe_syntax_self.proofs.Adding.{Adds-both}
use Rattle.educe_syntax_self.proofs.head.push_template.Goals as goal

pub returns : goal.returns
returns c = Adds-both c.in_ok-quote.ensures.ok c.in_ok-quote.ensures.nowhere
