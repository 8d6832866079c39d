use Rattle.std.proofs.lemmas.Result.{IfOk-weaker}
use Rattle.educe_attrs.specs.Causes.{NoCause}
use Rattle.educe_attrs.specs.Phases.{OfHandler}
use Rattle.educe_attrs.specs.Places.{OfPlace}
use Rattle.educe_bound_traits.specs.declared.traits.Trait.TheVariants.{Debug}
use Rattle.educe_settings.specs.Handled.{handling}
use Rattle.educe_settings.specs.Listed.{listed}
use Rattle.educe_settings.specs.Rows.{type_row}
use Rattle.educe_settings.proofs.ShownCauses.{type_refused}
use Rattle.educe_settings.proofs.Stops.{stop_returned}
use Rattle.educe_settings_types.specs.Read.{IsTyped}
use Rattle.educe_settings_types.proofs.ReadCases.{typed_by}
use Rattle.educe_settings_types.proofs.debug_settings.read_type.Goals as goal

pub returns-clause-typed : goal.returns-clause-typed
returns-clause-typed c =
    let ast = c.args.ast.now in
    IfOk-weaker c.type_values.result (λ own. NoCause (OfPlace Debug (type_row Debug ast) (listed ast) ast.attrs)) (λ own. IsTyped ast c.args.listed.now)
    (λ own uncaused. typed_by ast c.args.listed.now c.requires uncaused) c.type_values.ensures.uncaused

pub returns-clause-err : goal.returns-clause-err
returns-clause-err c =
    let ast = c.args.ast.now in
    stop_returned (OfPlace Debug (type_row Debug ast) (listed ast) ast.attrs) (OfHandler (handling ast) Debug) (type_refused ast) c.type_values.result c.type_values.ensures.err
