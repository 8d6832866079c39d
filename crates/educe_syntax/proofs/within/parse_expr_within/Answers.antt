use Rattle.std.proofs.Common.{rules}
use Rattle.educe_grammar.specs.Expressions.{expression}
use Rattle.educe_grammar.specs.NotedReads.{read as noted_read}
use Rattle.educe_grammar.specs.Reads.{read}
use Rattle.educe_grammar.proofs.Forgetting.{forget_read}
use Rattle.educe_grammar.proofs.ReadsAgain.{expression_again}
use Rattle.educe_grammar.proofs.Ready.{expression_ready}
use Rattle.educe_syntax.proofs.Answering.{answer_clauses}
use Rattle.educe_syntax.proofs.within.parse_expr_within.Goals as goal

pub returns : goal.returns
returns c =
    let budget = c.args.budget in
    let is = c.whole.ensures (noted_read budget expression) (read budget expression) (record { reads = λ old new r p. search rules }) (forget_read budget expression) in
    let all = answer_clauses expression expression_again expression_ready budget c.args.tokens.now c.whole.result is in record {
      found = all.found;
      only = all.only;
      uncaused = all.uncaused;
      err = all.err;
      reported = all.reported;
    }
