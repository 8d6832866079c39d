use Rattle.std.proofs.Common.{◌≡◌, [], ◌-◌}
use Rattle.educe_grammar.specs.Reading.{chain_limit}
use Rattle.educe_grammar.specs.Noting.{links}
use Rattle.educe_grammar.proofs.loops.chain.Given as goal

abbrev pub invariant-loop-link : goal.invariant-loop-link
invariant-loop-link g l =
    links g.S.Lookahead.look (g.P.Production.reads l.budget) chain_limit [] l.initial.input
    ≡ links g.S.Lookahead.look (g.P.Production.reads l.budget) (chain_limit - l._link) l.found l.input
