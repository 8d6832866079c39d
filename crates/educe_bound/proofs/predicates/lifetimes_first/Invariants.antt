use Rattle.std.proofs.Common.{◌≡◌, filter, not, take}
use Rattle.educe_bound.specs.Predicates.{is_lifetime}
use Rattle.educe_bound.proofs.predicates.lifetimes_first.Given as goal

abbrev pub invariant-loop-param : goal.invariant-loop-param
invariant-loop-param l =
    (l.lifetimes ≡ filter is_lifetime (take l.param-index l.param-items)) × (l.others ≡ filter (λ p. not (is_lifetime p)) (take l.param-index l.param-items))
