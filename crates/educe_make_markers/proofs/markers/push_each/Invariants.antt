use Rattle.std.proofs.Common.{map, take}
use Rattle.educe_settings.specs.Ranked.{kept_of}
use Rattle.educe_make_markers.specs.Marking.{AddsMarkers}
use Rattle.educe_make_markers.proofs.markers.push_each.Given as goal

abbrev pub invariant-loop-ranked : goal.invariant-loop-ranked
invariant-loop-ranked l = AddsMarkers l.marking (map kept_of (take l.ranked-index l.fields)) l.initial.items l.items
