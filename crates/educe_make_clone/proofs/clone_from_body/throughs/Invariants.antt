use Rattle.std.proofs.Common.{take}
use Rattle.std.specs.List.{AllZip}
use Rattle.educe_settings.specs.declared.ranked.Ranked.{Ranked}
use Rattle.educe_settings.specs.Ranked.{kept_of}
use Rattle.educe_meaning.specs.CloneBodies.{IsThrough}
use Rattle.educe_make_clone.specs.CloneNames.{names_of}
use Rattle.educe_make_clone.proofs.clone_from_body.throughs.Given as goal

abbrev pub invariant-loop-ranked : goal.invariant-loop-ranked
invariant-loop-ranked l = AllZip (λ (r : Ranked) step. IsThrough (names_of l.names) (kept_of r) step) (take l.ranked-index l.fields) l.steps
