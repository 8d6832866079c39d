use Rattle.std.proofs.Common.{◌≡◌, take}
use Rattle.educe_bound_classes.specs.Needs.{AreNames}
use Rattle.educe_bound.specs.Predicates.{keys_of, on_each_param, AreRead}
use Rattle.educe_bound.proofs.asked.predicates_on_params.Given as goal

abbrev pub invariant-loop-param : goal.invariant-loop-param
invariant-loop-param l = record {
  keys : keys_of l.found ≡ on_each_param (take l.param-index l.param-items) l.which;
  read : AreNames (take l.param-index l.param-items) → AreRead l.found;
}
