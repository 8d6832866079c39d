use Rattle.std.proofs.Common.{◌≡◌, drop}
use Rattle.educe_body_values.specs.Meaning.{look_up, innermost}
use Rattle.educe_body_eval.proofs.reading.find.Given as goal

abbrev pub invariant-loop-binding : goal.invariant-loop-binding
invariant-loop-binding l = innermost l.found (look_up (drop l.binding-index l.names) l.name) ≡ look_up l.names l.name
