use Rattle.educe_syntax.specs.Laws.{lawful_predicates}
use Rattle.educe_attrs_values.proofs.Deciding.{found_ok, found_err}
use Rattle.educe_attrs_values.proofs.opening.predicates_found.Goals as goal

pub returns-in-Ok : goal.returns-in-Ok
returns-in-Ok c = found_ok lawful_predicates c.args.opened.now c.in-Ok.predicates c.in-Ok.ensures.found

pub returns-in-Err : goal.returns-in-Err
returns-in-Err c = found_err lawful_predicates c.args.opened.now c.in-Err.error c.in-Err.ensures.err c.fault_of.result c.fault_of.ensures
