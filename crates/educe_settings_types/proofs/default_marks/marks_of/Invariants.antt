use Rattle.std.proofs.Common.{◌≡◌, ◌++◌, drop, map}
use Rattle.educe_settings.specs.Defaults.{mark_values}
use Rattle.educe_settings_types.specs.Defaults.{AreMarksRead}
use Rattle.educe_settings_types.proofs.default_marks.marks_of.Given as goal

abbrev pub invariant-loop-variant : goal.invariant-loop-variant
invariant-loop-variant l = record {
  marks : l.marks ++ map (mark_values l.task.ast.now) (drop l.variant-index l.variants) ≡ map (mark_values l.task.ast.now) l.variants;
  uncaused : AreMarksRead l.task.ast.now (drop l.variant-index l.variants) → AreMarksRead l.task.ast.now l.variants;
}
