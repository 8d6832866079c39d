use Rattle.std.proofs.Common.{rules}
use Rattle.educe_grammar.specs.Names.{name}
use Rattle.educe_grammar.specs.Parsed.{depth_limit}
use Rattle.educe_grammar.specs.NotedReads.{read as noted_read}
use Rattle.educe_grammar.specs.Reads.{read}
use Rattle.educe_grammar.proofs.Forgetting.{forget_read}
use Rattle.educe_grammar.proofs.ReadsAgain.{name_again}
use Rattle.educe_grammar.proofs.Ready.{name_ready}
use Rattle.educe_syntax.proofs.Answering.{answer_clauses}
use Rattle.educe_syntax.proofs.Shallow.{answer_shallow}
use Rattle.educe_syntax.proofs.calls.parse_ident.Goals as goal

pub returns : goal.returns
returns c =
    let is = c.whole.ensures (noted_read depth_limit name) (read depth_limit name) (record { reads = λ old new r p. search rules }) (forget_read depth_limit name) in
    let all = answer_clauses name name_again name_ready depth_limit c.args.tokens.now c.whole.result is in record {
      found = all.found;
      only = all.only;
      uncaused = all.uncaused;
      err = all.err;
      reported = all.reported;
      shallow = answer_shallow c.args.tokens.now c.whole.result is;
    }
