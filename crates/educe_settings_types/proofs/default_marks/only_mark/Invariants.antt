use Rattle.std.proofs.Common.{◌≡◌, take}
use Rattle.educe_settings_types.specs.Defaults.{places_from, found_only}
use Rattle.educe_settings_types.proofs.default_marks.only_mark.Given as goal

abbrev pub invariant-loop-place : goal.invariant-loop-place
invariant-loop-place l = places_from 0 (take l.place l.marks) ≡ found_only l.found
