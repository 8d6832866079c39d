use Rattle.std.proofs.Common.{◌≡◌, suc, [], length, ◌-◌}
use Rattle.educe_grammar.specs.Noting.{items}
use Rattle.educe_grammar.specs.Terminals.{accepts}
use Rattle.educe_grammar.proofs.loops.list.Given as goal

abbrev pub invariant-loop-turn : goal.invariant-loop-turn
invariant-loop-turn g l =
    items (accepts l.separator) g.S.Lookahead.look (g.P.Production.reads l.budget) (suc (length l.initial.input.cursor)) [] l.initial.input
    ≡ items (accepts l.separator) g.S.Lookahead.look (g.P.Production.reads l.budget) (l._turn-end - l._turn) l.found l.input
