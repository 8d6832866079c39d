use Rattle.std.proofs.Common.{rules}
use Rattle.educe_grammar.specs.Generics.{predicates}
use Rattle.educe_grammar.specs.NotedReads.{read as noted_read}
use Rattle.educe_grammar.specs.Reads.{read}
use Rattle.educe_grammar.proofs.Forgetting.{forget_read}
use Rattle.educe_grammar.proofs.ReadsAgain.{predicates_again}
use Rattle.educe_grammar.proofs.Ready.{predicates_ready}
use Rattle.educe_syntax.proofs.Answering.{answer_clauses}
use Rattle.educe_syntax.proofs.within.parse_predicates_within.Goals as goal

pub returns : goal.returns
returns c =
    let budget = c.args.budget in
    let is = c.whole.ensures (noted_read budget predicates) (read budget predicates) (record { reads = λ old new r p. search rules }) (forget_read budget predicates) in
    let all = answer_clauses predicates predicates_again predicates_ready budget c.args.tokens.now c.whole.result is in record {
      found = all.found;
      only = all.only;
      uncaused = all.uncaused;
      err = all.err;
      reported = all.reported;
    }
