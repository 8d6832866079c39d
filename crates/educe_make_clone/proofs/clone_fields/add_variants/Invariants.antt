use Rattle.std.proofs.Common.{◌≡◌, ◌++◌, map, take}
use Rattle.std.specs.List.{flat_map}
use Rattle.educe_bound_traits.specs.declared.traits.Trait.TheVariants.{Clone}
use Rattle.educe_settings.specs.Ranked.{kept_of}
use Rattle.educe_settings.specs.Cases.{fields_in}
use Rattle.educe_settings.specs.Settings.{kept_fields}
use Rattle.educe_make_clone.proofs.clone_fields.add_variants.Given as goal

abbrev pub invariant-loop-place : goal.invariant-loop-place
invariant-loop-place l =
    map kept_of l.all.items ≡ map kept_of l.initial.all.items ++ flat_map (kept_fields Clone l.task.ast.now) (map fields_in (take l.place l.variants))
