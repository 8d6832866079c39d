use Rattle.std.proofs.Common.{rules, Result, Ok, Err}
use Rattle.std.specs.Prelude.{List, IfOk}
use Rattle.educe_tokens.specs.declared.error.EduceError.{EduceError}
use Rattle.educe_tree.specs.declared.attr.Meta.{Meta}
use Rattle.educe_grammar.specs.Attributes.{metas}
use Rattle.educe_grammar.specs.Parsed.{depth_limit, IsWhole}
use Rattle.educe_grammar.specs.Placed.{AreMetasPlaced}
use Rattle.educe_grammar.specs.NotedReads.{read as noted_read}
use Rattle.educe_grammar.specs.Reads.{read}
use Rattle.educe_grammar.proofs.Forgetting.{forget_read}
use Rattle.educe_grammar.specs.Steps.{Tokens}
use Rattle.educe_grammar.proofs.Placed.{metas_stand}
use Rattle.educe_grammar.proofs.ReadsAgain.{metas_again}
use Rattle.educe_grammar.proofs.Ready.{metas_ready}
use Rattle.educe_syntax.proofs.Answering.{answer_clauses}
use Rattle.educe_syntax.proofs.calls.parse_metas.Goals as goal

-- the metas that are read stand where their tokens do
placed : (tokens : Tokens) (r : Result (List Meta) EduceError) → IfOk r (IsWhole metas tokens) → IfOk r (AreMetasPlaced tokens)
placed tokens (Ok found) whole = metas_stand tokens found whole
placed tokens (Err e) whole = tt

pub returns : goal.returns
returns c =
    let is = c.whole.ensures (noted_read depth_limit metas) (read depth_limit metas) (record { reads = λ old new r p. search rules }) (forget_read depth_limit metas) in
    let all = answer_clauses metas metas_again metas_ready depth_limit c.args.tokens.now c.whole.result is in record {
      found = all.found;
      only = all.only;
      placed = placed c.args.tokens.now c.whole.result all.found;
      uncaused = all.uncaused;
      err = all.err;
      reported = all.reported;
    }
