use Rattle.std.proofs.Common.{rules, arith}
use Rattle.std.proofs.lemmas.Grind.{common_steps}
use Rattle.educe_grammar.specs.Terminals.{accepts}
use Rattle.educe_grammar.specs.Noting.{items}
use Rattle.educe_grammar.proofs.Turns.{one_more, no_more}
use Rattle.educe_grammar.proofs.loops.list.Goals as goal

pub returns-then-is_next : goal.returns-then-is_next
unfolding items
returns-then-is_next g c =
    let e = one_more (λ n. items (accepts c.args.separator) g.S.Lookahead.look (g.P.Production.reads c.args.budget) n c.loop-turn.found c.loop-turn.input) _ c.loop-turn._turn c.loop-turn-test.true c.loop-turn.invariant in
    first_of (search rules, grind (arith, common_steps))

pub returns-in_err-parse : goal.returns-in_err-parse
unfolding items
returns-in_err-parse g c =
    let e = one_more (λ n. items (accepts c.args.separator) g.S.Lookahead.look (g.P.Production.reads c.args.budget) n c.loop-turn.found c.loop-turn.input) _ c.loop-turn._turn c.loop-turn-test.true c.loop-turn.invariant in
    first_of (search rules, grind (arith, common_steps))

pub returns-then-not-eat : goal.returns-then-not-eat
unfolding items
returns-then-not-eat g c =
    let e = one_more (λ n. items (accepts c.args.separator) g.S.Lookahead.look (g.P.Production.reads c.args.budget) n c.loop-turn.found c.loop-turn.input) _ c.loop-turn._turn c.loop-turn-test.true c.loop-turn.invariant in
    first_of (search rules, grind (arith, common_steps))

pub loop-turn-preserved : goal.loop-turn-preserved
unfolding items
loop-turn-preserved g c =
    let e = one_more (λ n. items (accepts c.args.separator) g.S.Lookahead.look (g.P.Production.reads c.args.budget) n c.loop-turn.found c.loop-turn.input) _ c.loop-turn._turn c.loop-turn-test.true c.loop-turn.invariant in
    first_of (search rules, grind (arith, common_steps))

pub returns : goal.returns
unfolding items
returns g c =
    let e = no_more (λ n. items (accepts c.args.separator) g.S.Lookahead.look (g.P.Production.reads c.args.budget) n c.loop-turn.found c.loop-turn.input) _ c.loop-turn._turn c.loop-turn-test.false c.loop-turn.invariant in
    first_of (search rules, grind (arith, common_steps))
