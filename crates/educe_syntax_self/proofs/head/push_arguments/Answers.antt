use Rattle.educe_syntax_self.proofs.Adding.{Adds-append, Adds-same, opening_quoted, closing_quoted}
use Rattle.educe_syntax_self.proofs.head.push_arguments.Goals as goal

pub returns : goal.returns
returns c =
    let last = Adds-append c.in_ok-push_more.ensures (Adds-same closing_quoted c.in_ok-push_template-2.ensures) in
    Adds-append (Adds-same opening_quoted c.in_ok-push_template.ensures) (Adds-append c.in_ok-push_argument.ensures last)
