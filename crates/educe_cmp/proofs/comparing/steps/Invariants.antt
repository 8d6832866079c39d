use Rattle.std.proofs.Common.{take}
use Rattle.std.specs.List.{AllZip}
use Rattle.educe_settings.specs.declared.ranked.Ranked.{Ranked}
use Rattle.educe_meaning.specs.Steps.{IsStep}
use Rattle.educe_settings.specs.Ranked.{kept_of}
use Rattle.educe_handlers.specs.Readings.{reading_of}
use Rattle.educe_cmp.proofs.comparing.steps.Given as goal

abbrev pub invariant-loop-ranked : goal.invariant-loop-ranked
invariant-loop-ranked l = AllZip (λ (r : Ranked) step. IsStep l.which (reading_of l.own) (reading_of l.others) (kept_of r) step) (take l.ranked-index l.fields) l.block
