use Rattle.std.proofs.Common.{map, filter}
use Rattle.std.specs.List.{flat_map}
use Rattle.std.specs.Map.Iter.{deref}
use Rattle.educe_bound_classes.specs.Texts.{has_text}
use Rattle.educe_bound_classes.specs.Places.{names_at}
use Rattle.educe_bound_classes.specs.Asked.{AddsNames}
use Rattle.educe_bound_classes.proofs.needs.append_found.Given as goal

abbrev pub invariant-loop-place : goal.invariant-loop-place
invariant-loop-place l = AddsNames (filter (has_text l.found) (flat_map (names_at l.asker.params.now) (map deref l.yielded))) l.initial.asked.items l.asked.items
