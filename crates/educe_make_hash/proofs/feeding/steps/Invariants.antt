use Rattle.std.proofs.Common.{take}
use Rattle.std.specs.List.{AllZip}
use Rattle.educe_settings.specs.declared.ranked.Ranked.{Ranked}
use Rattle.educe_settings.specs.Ranked.{kept_of}
use Rattle.educe_handlers.specs.Readings.{reading_of}
use Rattle.educe_meaning.specs.HashBodies.{IsHashStep}
use Rattle.educe_make_hash.proofs.feeding.steps.Given as goal

abbrev pub invariant-loop-ranked : goal.invariant-loop-ranked
invariant-loop-ranked l = AllZip (λ (r : Ranked) step. IsHashStep l.state.text (reading_of l.reading) (kept_of r) step) (take l.ranked-index l.fields) l.block
