use Rattle.std.proofs.Common.{ap}
use Rattle.educe_attrs.specs.Values.{Values}
use Rattle.educe_bound_traits.specs.declared.traits.Trait.TheVariants.{Debug}
use Rattle.educe_settings.proofs.ReadBounds.{bound_is}
use Rattle.educe_make_debug.proofs.debug_reading.read.Goals as goal

pub returns-clause-bound : goal.returns-clause-bound
returns-clause-bound c =
    bound_is Debug c.args.ast.now _ c.bound_said.result c.in_ok-own.ensures.typed.own.read (ap (λ (values : Values). values.bound) c.in_ok-own.ensures.are) c.bound_said.ensures
