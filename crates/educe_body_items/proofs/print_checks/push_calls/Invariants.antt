use Rattle.std.proofs.Common.{take}
use Rattle.educe_body_forms.specs.Printouts.{Prints, each}
use Rattle.educe_body_items.specs.Items.{check_call}
use Rattle.educe_body_items.proofs.print_checks.push_calls.Given as goal

abbrev pub invariant-loop-ty : goal.invariant-loop-ty
invariant-loop-ty l = Prints (each (check_call l.names) (take l.ty-index l.types)) l.fn.tokens l.tokens
