use Rattle.std.proofs.Common.{rules}
use Rattle.educe_grammar.specs.Definitions.{definition}
use Rattle.educe_grammar.specs.Parsed.{depth_limit}
use Rattle.educe_grammar.specs.NotedReads.{read as noted_read}
use Rattle.educe_grammar.specs.Reads.{read}
use Rattle.educe_grammar.proofs.Forgetting.{forget_read}
use Rattle.educe_grammar.proofs.ReadsAgain.{definition_again}
use Rattle.educe_grammar.proofs.Ready.{definition_ready}
use Rattle.educe_syntax.proofs.Answering.{answer_clauses}
use Rattle.educe_syntax.proofs.calls.read_definition.Goals as goal

pub returns : goal.returns
returns c =
    let is = c.whole.ensures (noted_read depth_limit definition) (read depth_limit definition) (record { reads = λ old new r p. search rules }) (forget_read depth_limit definition) in
    let all = answer_clauses definition definition_again definition_ready depth_limit c.args.tokens.now c.whole.result is in record {
      found = all.found;
      err = all.err;
    }
