use Rattle.std.proofs.Common.{take}
use Rattle.educe_tokens.specs.Prefix.{HasPrefix}
use Rattle.educe_bound_classes.specs.Deriving.{Extends}
use Rattle.educe_bound.specs.Predicates.{keys_of, AreRead}
use Rattle.educe_meaning.specs.Handlers.{AreNotedRead, inherited_from}
use Rattle.educe_handlers.proofs.context.TraitHandlerContext.inherit_from.Given as goal

abbrev pub invariant-loop-which : goal.invariant-loop-which
invariant-loop-which l = record {
  added : Extends (keys_of l.initial.own) (inherited_from l.self (take l.which-index l.prerequisites)) (keys_of l.own);
  kept : HasPrefix l.initial.own l.own;
  read : AreNotedRead l.self → AreRead l.initial.own → AreRead l.own;
}
