use Rattle.std.proofs.Common.{◌≡◌, drop}
use Rattle.educe_body_values.specs.Constants.{arms_number}
use Rattle.educe_body_eval.proofs.numbers.arms_number.Given as goal

abbrev pub invariant-loop-arm : goal.invariant-loop-arm
invariant-loop-arm l =
    arms_number l.ast l.answers l.names (drop l.arm-index l.arms) l.value
    ≡ arms_number l.ast l.answers l.names l.arms l.value
