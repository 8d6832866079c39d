use Rattle.std.proofs.Common.{subst, sym, take, ◌+◌, arith}
use Rattle.std.specs.List.{AllZip}
use Rattle.educe_grammar.specs.Readings.{IsReadPredicate}
use Rattle.educe_syntax_self.specs.Visits.{IsVisitedPredicate}
use Rattle.educe_syntax_self.proofs.Visiting.{at_index, zip_more}
use Rattle.educe_syntax_self.proofs.replace_self.ReplaceSelf.visit_predicates.Goals as goal

pub visit_predicate-requires : goal.visit_predicate-requires
visit_predicate-requires c = at_index IsReadPredicate c.args.predicates.now c.loop-predicate.predicate-index c.predicate-item.result (omega arith) c.predicate-item.is c.requires

pub loop-predicate-preserved : goal.loop-predicate-preserved
loop-predicate-preserved c =
    let R = IsVisitedPredicate c.args.self.now.head in
    let i = c.loop-predicate.predicate-index in
    let more = zip_more R c.args.predicates.now i c.predicate-item.result c.in_ok-visit_predicate.field-0 c.loop-predicate.found (omega arith) c.predicate-item.is c.loop-predicate.invariant c.in_ok-visit_predicate.ensures in
    subst (AllZip R (take (i + 1) c.args.predicates.now)) (sym c.in_ok-push.ensures.ok) more
