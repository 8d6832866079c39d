use Rattle.std.proofs.Common.{take}
use Rattle.std.specs.List.{flat_map}
use Rattle.educe_syntax.specs.Variant.{Variant}
use Rattle.educe_settings.specs.Shown.{variant_shown, shown_fields}
use Rattle.educe_settings_types.specs.Visits.{SeesEach}
use Rattle.educe_settings_types.proofs.debug_types.see_variants.Given as goal

abbrev pub invariant-loop-variant : goal.invariant-loop-variant
invariant-loop-variant l =
    SeesEach (flat_map (λ (v : Variant). shown_fields l.task.ast.now (variant_shown l.task.ast.now v)) (take l.variant-index l.variants)) l.initial.types l.types
