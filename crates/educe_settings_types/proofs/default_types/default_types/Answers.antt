use Rattle.educe_attrs.specs.Phases.{OfHandler}
use Rattle.educe_attrs.specs.Places.{OfPlace}
use Rattle.educe_bound_traits.specs.declared.traits.Trait.TheVariants.{Default}
use Rattle.educe_settings.specs.Handled.{handling}
use Rattle.educe_settings.specs.Listed.{listed}
use Rattle.educe_settings.specs.Rows.{type_row}
use Rattle.educe_settings.proofs.DefaultCauses.{type_refused}
use Rattle.educe_settings.proofs.Stops.{stop_passed}
use Rattle.educe_settings_types.proofs.Choices.{typed_by}
use Rattle.educe_settings_types.proofs.default_types.default_types.Goals as goal

pub returns-in_err-values-clause-err : goal.returns-in_err-values-clause-err
returns-in_err-values-clause-err c =
    let ast = c.args.ast.now in
    stop_passed (OfPlace Default (type_row Default ast) (listed ast) ast.attrs) (OfHandler (handling ast) Default) (type_refused ast)
    c.from_residual.result c.in_err-values.field-0.0 c.from_residual.ensures.1 c.in_err-values.ensures.err

pub choose-requires-clause-typed : goal.choose-requires-clause-typed
choose-requires-clause-typed c = typed_by c.args.ast.now c.args.listed.now c.in_ok-values.values c.requires.listed c.in_ok-values.ensures.are c.in_ok-values.ensures.uncaused
