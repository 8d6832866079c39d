use Rattle.std.proofs.Common.{take}
use Rattle.educe_body_forms.specs.Printouts.{Prints, each}
use Rattle.educe_body_items.specs.Items.{constructor_printout}
use Rattle.educe_body_items.proofs.print_constructors.push_constructors.Given as goal

abbrev pub invariant-loop-function : goal.invariant-loop-function
invariant-loop-function l = Prints (each constructor_printout (take l.function-index l.function-items)) l.fn.tokens l.tokens
