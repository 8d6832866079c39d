use Rattle.std.proofs.Common.{◌≡◌, ◌++◌, take}
use Rattle.std.specs.List.{flat_map}
use Rattle.educe_settings.specs.Cases.{fields_in}
use Rattle.educe_settings.specs.EveryType.{behind, types_of}
use Rattle.educe_settings.proofs.field_types.push_variants.Given as goal

abbrev pub invariant-loop-variant : goal.invariant-loop-variant
invariant-loop-variant l = behind l.types.items ≡ behind l.initial.types.items ++ types_of (flat_map fields_in (take l.variant-index l.variants))
