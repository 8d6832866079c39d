use Rattle.std.proofs.Common.{◌≡◌, map, take}
use Rattle.educe_settings.specs.Settings.{kept_by}
use Rattle.educe_settings.specs.Ranked.{kept_of}
use Rattle.educe_settings.proofs.ranks.kept_fields.Given as goal

abbrev pub invariant-loop-place : goal.invariant-loop-place
invariant-loop-place l = map kept_of l.kept.items ≡ kept_by 0 (take l.place l.fields) (take l.place l.settings)
