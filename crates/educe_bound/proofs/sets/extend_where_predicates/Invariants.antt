use Rattle.std.proofs.Common.{take}
use Rattle.educe_tokens.specs.Prefix.{HasPrefix}
use Rattle.educe_bound_classes.specs.Deriving.{Extends}
use Rattle.educe_bound.specs.Predicates.{keys_of, AreRead}
use Rattle.educe_bound.proofs.sets.extend_where_predicates.Given as goal

abbrev pub invariant-loop-predicate : goal.invariant-loop-predicate
invariant-loop-predicate l = record {
  extends : Extends (keys_of l.initial.own) (keys_of (take l.predicate-index l.predicate-items)) (keys_of l.own);
  prefix : HasPrefix l.initial.own l.own;
  read : AreRead l.initial.own → AreRead (take l.predicate-index l.predicate-items) → AreRead l.own;
}
