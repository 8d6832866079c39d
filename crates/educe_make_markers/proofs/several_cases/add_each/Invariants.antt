use Rattle.std.proofs.Common.{◌≡◌, ◌++◌, map, take}
use Rattle.educe_settings.specs.Ranked.{kept_of}
use Rattle.educe_make_markers.proofs.several_cases.add_each.Given as goal

abbrev pub invariant-loop-ranked : goal.invariant-loop-ranked
invariant-loop-ranked l = map kept_of l.all.items ≡ map kept_of l.initial.all.items ++ map kept_of (take l.ranked-index l.fields)
