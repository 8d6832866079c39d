use Rattle.std.proofs.Common.{take}
use Rattle.educe_meaning.specs.Arms.{ArePatternFields}
use Rattle.educe_handlers.proofs.patterns.pattern_fields.Given as goal

abbrev pub invariant-loop-place : goal.invariant-loop-place
invariant-loop-place l = ArePatternFields l.prefix 0 (take l.place l.fields) (take l.place l.settings) l.found
