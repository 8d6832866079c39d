use Rattle.std.proofs.Common.{rules}
use Rattle.educe_grammar.specs.Types.{any_type}
use Rattle.educe_grammar.specs.NotedReads.{read as noted_read}
use Rattle.educe_grammar.specs.Reads.{read}
use Rattle.educe_grammar.proofs.Forgetting.{forget_read}
use Rattle.educe_grammar.proofs.ReadsAgain.{any_type_again}
use Rattle.educe_grammar.proofs.Ready.{any_type_ready}
use Rattle.educe_syntax.proofs.Answering.{answer_clauses}
use Rattle.educe_syntax.proofs.within.parse_type_within.Goals as goal

pub returns : goal.returns
returns c =
    let budget = c.args.budget in
    let is = c.whole.ensures (noted_read budget any_type) (read budget any_type) (record { reads = λ old new r p. search rules }) (forget_read budget any_type) in
    let all = answer_clauses any_type any_type_again any_type_ready budget c.args.tokens.now c.whole.result is in record {
      found = all.found;
      only = all.only;
      uncaused = all.uncaused;
      err = all.err;
      reported = all.reported;
    }
