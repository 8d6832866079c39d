use Rattle.std.proofs.Common.{map, take}
use Rattle.educe_settings.specs.Cases.{fields_in}
use Rattle.educe_settings_types.specs.Visits.{Sees}
use Rattle.educe_settings_types.proofs.visits.see_variants.Given as goal

abbrev pub invariant-loop-variant : goal.invariant-loop-variant
invariant-loop-variant l = Sees l.task.trait_ l.task.ast.now (map fields_in (take l.variant-index l.variants)) l.initial.types l.types
