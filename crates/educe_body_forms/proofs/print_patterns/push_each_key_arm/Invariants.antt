use Rattle.std.proofs.Common.{take}
use Rattle.educe_body_forms.specs.Printouts.{Prints, each}
use Rattle.educe_body_forms.specs.Tokens.{key_arm_printout}
use Rattle.educe_body_forms.proofs.print_patterns.push_each_key_arm.Given as goal

abbrev pub invariant-loop-arm : goal.invariant-loop-arm
invariant-loop-arm l = Prints (each key_arm_printout (take l.arm-index l.arms)) l.fn.tokens l.tokens
