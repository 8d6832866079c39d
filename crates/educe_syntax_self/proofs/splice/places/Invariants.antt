use Rattle.std.proofs.Common.{take}
use Rattle.educe_syntax_self.specs.Splicing.{ArePlaces}
use Rattle.educe_syntax_self.proofs.splice.places.Given as goal

abbrev pub invariant-loop-note : goal.invariant-loop-note
invariant-loop-note l = ArePlaces l.tokens (take l.note-index l.notes) l.found.items
