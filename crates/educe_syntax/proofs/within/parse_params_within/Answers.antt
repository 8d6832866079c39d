use Rattle.std.proofs.Common.{rules}
use Rattle.educe_grammar.specs.Generics.{params}
use Rattle.educe_grammar.specs.NotedReads.{read as noted_read}
use Rattle.educe_grammar.specs.Reads.{read}
use Rattle.educe_grammar.proofs.Forgetting.{forget_read}
use Rattle.educe_grammar.proofs.ReadsAgain.{params_again}
use Rattle.educe_grammar.proofs.Ready.{params_ready}
use Rattle.educe_syntax.proofs.Answering.{answer_clauses}
use Rattle.educe_syntax.proofs.within.parse_params_within.Goals as goal

pub returns : goal.returns
returns c =
    let budget = c.args.budget in
    let is = c.whole.ensures (noted_read budget params) (read budget params) (record { reads = λ old new r p. search rules }) (forget_read budget params) in
    let all = answer_clauses params params_again params_ready budget c.args.tokens.now c.whole.result is in record {
      found = all.found;
      only = all.only;
      uncaused = all.uncaused;
      err = all.err;
      reported = all.reported;
    }
