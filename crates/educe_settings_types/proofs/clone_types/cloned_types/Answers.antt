use Rattle.std.proofs.Common.{refl}
use Rattle.educe_attrs.specs.Phases.{OfHandler}
use Rattle.educe_bound_traits.specs.declared.traits.Trait.TheVariants.{Clone}
use Rattle.educe_settings.specs.Handled.{OfShape, handling}
use Rattle.educe_settings.proofs.Refused.{shape_refused}
use Rattle.educe_settings.proofs.Stops.{stop_returned}
use Rattle.educe_settings_types.proofs.clone_types.cloned_types.Goals as goal

pub returns-clause-err : goal.returns-clause-err
returns-clause-err c =
    let ast = c.args.ast.now in
    stop_returned (OfShape Clone ast ast.shape) (OfHandler (handling ast) Clone) (shape_refused Clone refl ast) c.types_of_fields.result c.types_of_fields.ensures.err
