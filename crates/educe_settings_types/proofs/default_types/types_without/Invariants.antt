use Rattle.std.proofs.Common.{◌≡◌, true, map, take}
use Rattle.std.specs.List.{filter_map}
use Rattle.educe_syntax.specs.DeriveInput.{DeriveInput}
use Rattle.educe_settings.specs.EveryType.{behind}
use Rattle.educe_settings.specs.Defaults.{field_value, type_without}
use Rattle.educe_settings_types.specs.Defaults.{settings_by}
use Rattle.educe_settings_types.proofs.default_types.types_without.Given as goal

abbrev pub invariant-loop-place : goal.invariant-loop-place
invariant-loop-place l = (definition : DeriveInput) → l.settings ≡ map (settings_by true definition) l.fields
    → behind l.types.items ≡ filter_map (λ f. type_without f (field_value definition f)) (take l.place l.fields)
