use Rattle.std.proofs.Common.{take}
use Rattle.std.specs.List.{AllZip}
use Rattle.educe_settings.specs.declared.ranked.Ranked.{Ranked}
use Rattle.educe_settings.specs.Ranked.{kept_of}
use Rattle.educe_meaning.specs.CloneBodies.{IsAssignment}
use Rattle.educe_make_clone.proofs.clone_from_body.assignments.Given as goal

abbrev pub invariant-loop-ranked : goal.invariant-loop-ranked
invariant-loop-ranked l = AllZip (λ (r : Ranked) step. IsAssignment l.copied l.source.text (kept_of r) step) (take l.ranked-index l.fields) l.block
