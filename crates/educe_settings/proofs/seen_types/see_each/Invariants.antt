use Rattle.std.proofs.Common.{◌≡◌, ◌++◌, map, take}
use Rattle.educe_settings.specs.Ranked.{kept_of}
use Rattle.educe_settings.specs.SeenTypes.{read_of, touched_of}
use Rattle.educe_settings.specs.Types.{read_types, touched_types}
use Rattle.educe_settings.proofs.seen_types.see_each.Given as goal

abbrev pub invariant-loop-field : goal.invariant-loop-field
invariant-loop-field l = record {
  read : read_of l.types ≡ read_of l.initial.types ++ read_types (map kept_of (take l.field-index l.fields));
  touched : touched_of l.types ≡ touched_of l.initial.types ++ touched_types (map kept_of (take l.field-index l.fields));
}
