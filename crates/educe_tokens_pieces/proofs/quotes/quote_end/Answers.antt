use Rattle.std.proofs.Common.{arith, ◌∙◌, sym, ap, refl, Some, None}
use Rattle.std.proofs.lemmas.List.{drop_all}
use Rattle.educe_tokens_pieces.specs.Machine.{end_at, plus}
use Rattle.educe_tokens_pieces.specs.declared.quotes.Next.TheVariants.{End, Stop}
use Rattle.educe_tokens_pieces.proofs.Ends.{end_at_more, end_at_here, plus-zero}
use Rattle.educe_tokens_pieces.proofs.Reached.{go_reached}
use Rattle.educe_tokens_pieces.proofs.quotes.quote_end.Goals as goal

pub loop-i-init : goal.loop-i-init
loop-i-init c = record { found = sym (plus-zero _); reachable = refl }

pub loop-i-preserved : goal.loop-i-preserved
loop-i-preserved c =
    let go = sym c.step.ensures ∙ c.in-Go.is in
    record {
      found = c.loop-i.invariant.found ∙ end_at_more c.args.text.now c.loop-i.i c.index-text-i.result c.loop-i.within c.in-Go.more c.loop-i-test.true c.index-text-i.is go;
      reachable = go_reached c.loop-i.within c.in-Go.more c.index-text-i.result c.loop-i.invariant.reachable go;
    }

pub returns-in-End-clause-value : goal.returns-in-End-clause-value
returns-in-End-clause-value c =
    sym (c.loop-i.invariant.found ∙ end_at_here c.args.text.now c.loop-i.i c.index-text-i.result c.loop-i.within End (Some 1) c.loop-i-test.true c.index-text-i.is (sym c.step.ensures ∙ c.in-End.is) refl)

pub returns-in-Stop-clause-value : goal.returns-in-Stop-clause-value
returns-in-Stop-clause-value c =
    sym (c.loop-i.invariant.found ∙ end_at_here c.args.text.now c.loop-i.i c.index-text-i.result c.loop-i.within Stop None c.loop-i-test.true c.index-text-i.is (sym c.step.ensures ∙ c.in-Stop.is) refl)

pub returns-clause-value : goal.returns-clause-value
returns-clause-value c =
    sym (c.loop-i.invariant.found ∙ ap (λ t. plus c.loop-i.i (end_at c.loop-i.within t)) (drop_all c.loop-i.i c.args.text.now (omega arith)))
