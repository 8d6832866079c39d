use Rattle.std.proofs.Common.{◌≡◌, ◌++◌, take}
use Rattle.educe_settings.specs.EveryType.{behind, types_of}
use Rattle.educe_settings.proofs.field_types.push_types.Given as goal

abbrev pub invariant-loop-field : goal.invariant-loop-field
invariant-loop-field l = behind l.types.items ≡ behind l.initial.types.items ++ types_of (take l.field-index l.fields)
