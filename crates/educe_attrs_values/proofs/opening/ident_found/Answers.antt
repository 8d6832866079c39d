use Rattle.educe_syntax.specs.Laws.{lawful_name}
use Rattle.educe_attrs_values.proofs.Deciding.{found_ok, found_err}
use Rattle.educe_attrs_values.proofs.opening.ident_found.Goals as goal

pub returns-in-Ok : goal.returns-in-Ok
returns-in-Ok c = found_ok lawful_name c.args.opened.now c.in-Ok.ident c.in-Ok.ensures.found

pub returns-in-Err : goal.returns-in-Err
returns-in-Err c = found_err lawful_name c.args.opened.now c.in-Err.error c.in-Err.ensures.err c.fault_of.result c.fault_of.ensures
