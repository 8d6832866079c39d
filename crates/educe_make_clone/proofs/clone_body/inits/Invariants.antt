use Rattle.std.proofs.Common.{take}
use Rattle.std.specs.List.{AllZip}
use Rattle.educe_settings.specs.declared.ranked.Ranked.{Ranked}
use Rattle.educe_settings.specs.Ranked.{kept_of}
use Rattle.educe_handlers.specs.Readings.{reading_of}
use Rattle.educe_meaning.specs.CloneBodies.{IsCloneInit}
use Rattle.educe_make_clone.proofs.clone_body.inits.Given as goal

abbrev pub invariant-loop-ranked : goal.invariant-loop-ranked
invariant-loop-ranked l = AllZip (λ (r : Ranked) init. IsCloneInit (reading_of l.reading) (kept_of r) init) (take l.ranked-index l.fields) l.inits
