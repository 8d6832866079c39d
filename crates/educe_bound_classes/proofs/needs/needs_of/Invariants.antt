use Rattle.std.proofs.Common.{take, []}
use Rattle.educe_bound_classes.specs.Asked.{AddsAll, types_of}
use Rattle.educe_bound_classes.proofs.needs.needs_of.Given as goal

abbrev pub invariant-loop-ty : goal.invariant-loop-ty
invariant-loop-ty l = AddsAll l.asker.exceptions.now l.asker.params.now l.asker.name.now (types_of (take l.ty-index l.types)) [] l.asked.items
