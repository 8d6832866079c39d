use Rattle.educe_settings_types.proofs.Sees.{sees_all}
use Rattle.educe_settings_types.proofs.visits.types_of_fields.Goals as goal

pub returns-clause-types : goal.returns-clause-types
returns-clause-types c =
    sees_all c.args.task.trait_ c.args.task.ast.now _ _ c.no_types-types.ensures.read c.no_types-types.ensures.touched c.in_ok-see_fields.ensures.types
