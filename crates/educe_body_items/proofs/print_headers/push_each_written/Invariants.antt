use Rattle.std.proofs.Common.{take}
use Rattle.educe_body_forms.specs.Printing.{separated}
use Rattle.educe_body_forms.specs.Printouts.{Prints, written}
use Rattle.educe_body_items.proofs.print_headers.push_each_written.Given as goal

abbrev pub invariant-loop-i : goal.invariant-loop-i
invariant-loop-i g l = Prints (separated (λ item. written (g.T.AsWritten.held item)) (take l.i l.items)) l.fn.tokens l.tokens
