use Rattle.std.proofs.Common.{take}
use Rattle.educe_body_items.specs.Headers.{argument_printout}
use Rattle.educe_body_forms.specs.Printing.{separated}
use Rattle.educe_body_forms.specs.Printouts.{Prints}
use Rattle.educe_body_items.proofs.print_headers.push_each_type_argument.Given as goal

abbrev pub invariant-loop-i : goal.invariant-loop-i
invariant-loop-i l = Prints (separated argument_printout (take l.i l.params)) l.fn.tokens l.tokens
