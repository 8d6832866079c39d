use Rattle.std.proofs.Common.{take}
use Rattle.educe_tokens.specs.Appends.{Appends}
use Rattle.educe_attrs_generated.specs.Lints.{lints}
use Rattle.educe_attrs_generated.proofs.lints.push_lints.Given as goal

abbrev pub invariant-loop-attribute : goal.invariant-loop-attribute
invariant-loop-attribute l = Appends (lints (take l.attribute-index l.attribute-items)) l.fn.tokens l.tokens
