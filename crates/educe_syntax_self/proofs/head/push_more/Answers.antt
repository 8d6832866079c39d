use Rattle.std.proofs.Common.{arith}
use Rattle.educe_syntax_self.proofs.Adding.{Adds-append, Adds-same, comma_quoted, more_taken}
use Rattle.educe_syntax_self.proofs.head.push_more.Goals as goal

pub loop-param-preserved : goal.loop-param-preserved
loop-param-preserved c =
    let pair = Adds-append (Adds-same comma_quoted c.in_ok-push_template.ensures) c.in_ok-push_argument.ensures in
    let more = more_taken c.args.params.now c.loop-param.param-index c.param-item.result (omega arith) c.param-item.is in
    Adds-same more (Adds-append c.loop-param.invariant pair)
