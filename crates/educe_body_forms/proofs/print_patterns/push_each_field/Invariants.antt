use Rattle.std.proofs.Common.{take}
use Rattle.educe_body_forms.specs.Printouts.{Prints, each}
use Rattle.educe_body_forms.specs.Tokens.{field_printout}
use Rattle.educe_body_forms.proofs.print_patterns.push_each_field.Given as goal

abbrev pub invariant-loop-field : goal.invariant-loop-field
invariant-loop-field l = Prints (each field_printout (take l.field-index l.fields)) l.fn.tokens l.tokens
