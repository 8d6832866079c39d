use Rattle.std.proofs.Common.{rules}
use Rattle.educe_grammar.specs.Expressions.{expr_path}
use Rattle.educe_grammar.specs.NotedReads.{read as noted_read}
use Rattle.educe_grammar.specs.Reads.{read}
use Rattle.educe_grammar.proofs.Forgetting.{forget_read}
use Rattle.educe_grammar.proofs.ReadsAgain.{expr_path_again}
use Rattle.educe_grammar.proofs.Ready.{expr_path_ready}
use Rattle.educe_syntax.proofs.Answering.{answer_clauses}
use Rattle.educe_syntax.proofs.within.parse_path_within.Goals as goal

pub returns : goal.returns
returns c =
    let budget = c.args.budget in
    let is = c.whole.ensures (noted_read budget expr_path) (read budget expr_path) (record { reads = λ old new r p. search rules }) (forget_read budget expr_path) in
    let all = answer_clauses expr_path expr_path_again expr_path_ready budget c.args.tokens.now c.whole.result is in record {
      found = all.found;
      only = all.only;
      uncaused = all.uncaused;
      err = all.err;
      reported = all.reported;
    }
