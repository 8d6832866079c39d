use Rattle.std.proofs.Common.{◌≡◌, true}
use Rattle.educe_attrs.specs.Phases.{OfHandler}
use Rattle.educe_attrs.specs.Places.{OfPlace}
use Rattle.educe_bound_traits.specs.Traits.{is_listed}
use Rattle.educe_settings.specs.Handled.{OfShape, handling}
use Rattle.educe_settings.specs.Listed.{listed}
use Rattle.educe_settings.specs.Rows.{type_row}
use Rattle.educe_settings.proofs.Refused.{type_refused, shape_refused}
use Rattle.educe_settings.proofs.Stops.{stop_passed}
use Rattle.educe_settings.proofs.Uncaused.{other_clear, handler_uncaused}
use Rattle.educe_settings.proofs.bounds.checked_bound.Goals as goal

pub returns-in_err-bound-clause-err : goal.returns-in_err-bound-clause-err
returns-in_err-bound-clause-err c =
    let which = c.args.task.trait_ in
    let ast = c.args.task.ast.now in
    stop_passed (OfPlace which (type_row which ast) (listed ast) ast.attrs) (OfHandler (handling ast) which) (type_refused which c.requires.fieldwise ast)
    c.from_residual.result c.in_err-bound.field-0.0 c.from_residual.ensures.1 c.in_err-bound.ensures.err

pub returns-in_err-check_places-clause-err : goal.returns-in_err-check_places-clause-err
returns-in_err-check_places-clause-err c =
    let which = c.args.task.trait_ in
    let ast = c.args.task.ast.now in
    stop_passed (OfShape which ast ast.shape) (OfHandler (handling ast) which) (shape_refused which c.requires.fieldwise ast)
    c.from_residual-in_err-check_places.result c.in_err-check_places.field-0.0 c.from_residual-in_err-check_places.ensures.1 c.in_err-check_places.ensures.err

pub returns-clause-uncaused : goal.returns-clause-uncaused
returns-clause-uncaused c =
    let which = c.args.task.trait_ in
    let ast = c.args.task.ast.now in
    let is_one : is_listed (listed ast) which ≡ true = rw (← c.requires.listed) c.requires.lists in
    handler_uncaused which ast c.in_ok-check_places.ensures.uncaused c.in_ok-bound.ensures.uncaused (other_clear which ast c.requires.other) c.requires.fieldwise is_one
