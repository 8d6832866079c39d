use Rattle.std.proofs.Common.{ap}
use Rattle.educe_attrs.specs.Values.{Values}
use Rattle.educe_settings.proofs.ReadBounds.{bound_is}
use Rattle.educe_settings.proofs.bounds.bound_of_type.Goals as goal

pub returns-clause-ok : goal.returns-clause-ok
returns-clause-ok c =
    bound_is c.args.task.trait_ c.args.task.ast.now _ c.bound_said.result c.in_ok-bound.ensures.uncaused (ap (λ (values : Values). values.bound) c.in_ok-bound.ensures.are) c.bound_said.ensures
