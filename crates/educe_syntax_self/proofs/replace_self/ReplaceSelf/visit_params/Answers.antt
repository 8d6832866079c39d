use Rattle.std.proofs.Common.{subst, sym, take, ◌+◌, arith}
use Rattle.std.specs.List.{AllZip}
use Rattle.educe_grammar.specs.Readings.{IsReadParam}
use Rattle.educe_syntax_self.specs.Visits.{IsVisitedParam}
use Rattle.educe_syntax_self.proofs.Visiting.{at_index, zip_more}
use Rattle.educe_syntax_self.proofs.replace_self.ReplaceSelf.visit_params.Goals as goal

pub visit_param-requires : goal.visit_param-requires
visit_param-requires c = at_index IsReadParam c.args.params.now c.loop-param.param-index c.param-item.result (omega arith) c.param-item.is c.requires

pub loop-param-preserved : goal.loop-param-preserved
loop-param-preserved c =
    let R = IsVisitedParam c.args.self.now.head in
    let i = c.loop-param.param-index in
    let more = zip_more R c.args.params.now i c.param-item.result c.in_ok-visit_param.field-0 c.loop-param.found (omega arith) c.param-item.is c.loop-param.invariant c.in_ok-visit_param.ensures in
    subst (AllZip R (take (i + 1) c.args.params.now)) (sym c.in_ok-push.ensures.ok) more
