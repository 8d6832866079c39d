use Rattle.std.proofs.Common.{refl}
use Rattle.std.specs.Str.{chars}
use Rattle.educe_bound_classes.proofs.tables.default_exceptions.Goals as goal

pub returns : goal.returns
unfolding chars
returns c = refl
