use Rattle.std.proofs.Common.{◌≡◌, drop}
use Rattle.educe_meaning.specs.Handlers.{noted_of}
use Rattle.educe_handlers.proofs.context.TraitHandlerContext.inherit.Given as goal

abbrev pub invariant-loop-noted : goal.invariant-loop-noted
invariant-loop-noted l = (l.own ≡ l.initial.own) × (noted_of l.which l.noted-items ≡ noted_of l.which (drop l.noted-index l.noted-items))
