use Rattle.std.proofs.Common.{◌≡◌, ◌++◌, drop, map}
use Rattle.std.specs.List.{AllByRecursion}
use Rattle.educe_settings.specs.Cases.{fields_in}
use Rattle.educe_settings.specs.Defaults.{is_written}
use Rattle.educe_settings_types.specs.Defaults.{settings_by, AreFieldsRead}
use Rattle.educe_settings_types.proofs.default_values.values_of_variants.Given as goal

abbrev pub invariant-loop-place : goal.invariant-loop-place
invariant-loop-place l = record {
  values : l.all ++ map (λ v. map (settings_by (is_written l.task.ast.now l.variants v) l.task.ast.now) (fields_in v)) (drop l.place l.variants)
      ≡ map (λ v. map (settings_by (is_written l.task.ast.now l.variants v) l.task.ast.now) (fields_in v)) l.variants;
  uncaused : AllByRecursion (λ v. AreFieldsRead (is_written l.task.ast.now l.variants v) l.task.ast.now (fields_in v)) (drop l.place l.variants)
      → AllByRecursion (λ v. AreFieldsRead (is_written l.task.ast.now l.variants v) l.task.ast.now (fields_in v)) l.variants;
}
