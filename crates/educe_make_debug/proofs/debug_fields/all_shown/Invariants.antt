use Rattle.std.proofs.Common.{◌≡◌, map, take}
use Rattle.std.specs.List.{flat_map}
use Rattle.educe_settings.specs.Ranked.{kept_of}
use Rattle.educe_make_debug.specs.Cases.{kept_in}
use Rattle.educe_make_debug.proofs.debug_fields.all_shown.Given as goal

abbrev pub invariant-loop-case : goal.invariant-loop-case
invariant-loop-case l = map kept_of l.all.items ≡ flat_map kept_in (take l.case-index l.cases)
