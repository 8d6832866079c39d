use Rattle.std.proofs.Common.{◌≡◌, [], ◌∷◌, ◌-◌}
use Rattle.educe_grammar.specs.Noting.{further}
use Rattle.educe_grammar.proofs.loops.further.Given as goal

abbrev pub invariant-loop-turn : goal.invariant-loop-turn
invariant-loop-turn g l =
    further (g.P.Production.reads l.budget) l.turns (l.fn.first ∷ []) l.initial.input
    ≡ further (g.P.Production.reads l.budget) (l.turns - l._turn) l.found l.input
