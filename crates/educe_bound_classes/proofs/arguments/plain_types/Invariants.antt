use Rattle.std.proofs.Common.{◌≡◌, take}
use Rattle.std.specs.List.{filter_map}
use Rattle.educe_bound_classes.specs.Classes.{plain_of}
use Rattle.educe_bound_classes.specs.Asked.{types_of}
use Rattle.educe_bound_classes.proofs.arguments.plain_types.Given as goal

abbrev pub invariant-loop-arg : goal.invariant-loop-arg
invariant-loop-arg l = types_of l.types.items ≡ filter_map plain_of (take l.arg-index l.arg-items)
