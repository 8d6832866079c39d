use Rattle.std.proofs.Common.{◌≡◌, false, take}
use Rattle.educe_body_values.specs.Changing.{any_assigns, arms_assigning, inits_assigning}
use Rattle.educe_body_eval.proofs.changing.+assigns.Given as goal

abbrev pub invariant-any_assigns-loop-form : goal.invariant-any_assigns-loop-form
invariant-any_assigns-loop-form l = any_assigns (take l.form-index l.form-items) ≡ false

abbrev pub invariant-arms_assign-loop-arm : goal.invariant-arms_assign-loop-arm
invariant-arms_assign-loop-arm l = arms_assigning (take l.arm-index l.arm-items) ≡ false

abbrev pub invariant-inits_assign-loop-init : goal.invariant-inits_assign-loop-init
invariant-inits_assign-loop-init l = inits_assigning (take l.init-index l.init-items) ≡ false
