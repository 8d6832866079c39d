use Rattle.std.proofs.Common.{map}
use Rattle.std.specs.Map.Iter.{deref}
use Rattle.educe_bound_classes.specs.Places.{HaveTheirPlaces}
use Rattle.educe_bound_classes.proofs.places.places_of.Given as goal

abbrev pub invariant-loop-name : goal.invariant-loop-name
invariant-loop-name l = HaveTheirPlaces l.places (map deref l.yielded) l.found
