use Rattle.std.proofs.Common.{take}
use Rattle.educe_bound_classes.specs.Params.{is_param}
use Rattle.educe_bound_classes.specs.Texts.{IsSetOf}
use Rattle.educe_bound_classes.proofs.params.all_names.Given as goal

abbrev pub invariant-loop-param : goal.invariant-loop-param
invariant-loop-param l = IsSetOf (is_param (take l.param-index l.param-items)) l.names
