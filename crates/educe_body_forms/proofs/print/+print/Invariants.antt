use Rattle.std.proofs.Common.{take}
use Rattle.std.specs.List.{flat_map}
use Rattle.educe_tokens.specs.Appends.{Appends}
use Rattle.educe_body_forms.specs.Printing.{separated}
use Rattle.educe_body_forms.specs.Printouts.{Prints, each}
use Rattle.educe_body_forms.specs.Tokens.{form_printout, form_lexemes, arm_printout, init_printout}
use Rattle.educe_body_forms.proofs.print.+print.Given as goal

abbrev pub invariant-push_arguments-loop-i : goal.invariant-push_arguments-loop-i
invariant-push_arguments-loop-i l = Prints (separated form_printout (take l.i l.form-items)) l.fn.tokens l.tokens

abbrev pub invariant-push_forms-loop-form : goal.invariant-push_forms-loop-form
invariant-push_forms-loop-form l = Appends (flat_map form_lexemes (take l.form-index l.form-items)) l.fn.tokens l.tokens

abbrev pub invariant-push_each_arm-loop-arm : goal.invariant-push_each_arm-loop-arm
invariant-push_each_arm-loop-arm l = Prints (each arm_printout (take l.arm-index l.arms)) l.fn.tokens l.tokens

abbrev pub invariant-push_inits-loop-init : goal.invariant-push_inits-loop-init
invariant-push_inits-loop-init l = Prints (each init_printout (take l.init-index l.init-items)) l.fn.tokens l.tokens
