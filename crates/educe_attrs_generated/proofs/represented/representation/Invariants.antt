use Rattle.std.proofs.Common.{take}
use Rattle.educe_attrs_generated.specs.Represented.{AreHeld}
use Rattle.educe_attrs_generated.proofs.represented.representation.Given as goal

abbrev pub invariant-loop-attribute : goal.invariant-loop-attribute
invariant-loop-attribute l = AreHeld (take l.attribute-index l.attribute-items) l.held
