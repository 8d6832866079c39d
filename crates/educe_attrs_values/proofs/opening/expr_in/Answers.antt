use Rattle.educe_syntax.specs.Laws.{lawful_expression}
use Rattle.educe_attrs_values.specs.Readings.{standing}
use Rattle.educe_attrs_values.proofs.Deciding.{found_ok, found_err}
use Rattle.educe_attrs_values.proofs.opening.expr_in.Goals as goal

pub returns-in-Ok : goal.returns-in-Ok
returns-in-Ok c = found_ok lawful_expression (standing c.args.tokens.now) c.in-Ok.expr c.in-Ok.ensures.found

pub returns-in-Err : goal.returns-in-Err
returns-in-Err c = found_err lawful_expression (standing c.args.tokens.now) c.in-Err.error c.in-Err.ensures.err c.fault_of.result c.fault_of.ensures
