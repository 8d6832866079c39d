use Rattle.std.proofs.Common.{ℕ, List, [], take}
use Rattle.educe_syntax.specs.GenericParam.{GenericParam}
use Rattle.educe_bound_classes.specs.Asked as needs
use Rattle.educe_bound_classes.specs.Deriving.{Extends}
use Rattle.educe_bound_classes.specs.Exceptions.{Exceptions}
use Rattle.educe_bound.specs.Predicates.{keys_of, asks_for, AreRead}
use Rattle.educe_bound.proofs.asked.predicates_of.Given as goal

abbrev pub invariant-loop-one : goal.invariant-loop-one
invariant-loop-one l = record {
  keys : Extends [] (needs.keys_of (asks_for l.which) (take l.one-index l.asked)) (keys_of l.found);
  read : (params : List GenericParam) (ex : Exceptions) (self : List ℕ) → needs.AreAskedRead params ex self (take l.one-index l.asked) → AreRead l.found;
}
