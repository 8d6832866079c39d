use Rattle.std.proofs.Common.{◌≡◌, ◌++◌, take}
use Rattle.educe_body_values.specs.Meaning.{all_bound}
use Rattle.educe_body_eval.proofs.environments.bind_all.Given as goal

abbrev pub invariant-loop-name : goal.invariant-loop-name
invariant-loop-name l = l.bound ≡ l.fn.outer ++ all_bound l.referent (take l.name-index l.names)
