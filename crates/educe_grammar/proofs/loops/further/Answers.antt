use Rattle.std.proofs.Common.{rules, arith}
use Rattle.std.proofs.lemmas.Grind.{common_steps}
use Rattle.educe_grammar.specs.Noting.{further}
use Rattle.educe_grammar.proofs.Turns.{one_more, no_more}
use Rattle.educe_grammar.proofs.loops.further.Goals as goal

pub returns-in_err-parse : goal.returns-in_err-parse
unfolding further
returns-in_err-parse g c =
    let e = one_more (λ n. further (g.P.Production.reads c.args.budget) n c.loop-turn.found c.loop-turn.input) _ c.loop-turn._turn c.loop-turn-test.true c.loop-turn.invariant in
    first_of (search rules, grind (arith, common_steps))

pub returns-then-not-eat_pair : goal.returns-then-not-eat_pair
unfolding further
returns-then-not-eat_pair g c =
    let e = one_more (λ n. further (g.P.Production.reads c.args.budget) n c.loop-turn.found c.loop-turn.input) _ c.loop-turn._turn c.loop-turn-test.true c.loop-turn.invariant in
    first_of (search rules, grind (arith, common_steps))

pub loop-turn-preserved : goal.loop-turn-preserved
unfolding further
loop-turn-preserved g c =
    let e = one_more (λ n. further (g.P.Production.reads c.args.budget) n c.loop-turn.found c.loop-turn.input) _ c.loop-turn._turn c.loop-turn-test.true c.loop-turn.invariant in
    first_of (search rules, grind (arith, common_steps))

pub returns-then-eat_pair : goal.returns-then-eat_pair
unfolding further
returns-then-eat_pair g c =
    let e = no_more (λ n. further (g.P.Production.reads c.args.budget) n c.loop-turn.found c.loop-turn.input) _ c.loop-turn._turn c.loop-turn-test.false c.loop-turn.invariant in
    first_of (search rules, grind (arith, common_steps))

pub returns : goal.returns
unfolding further
returns g c =
    let e = no_more (λ n. further (g.P.Production.reads c.args.budget) n c.loop-turn.found c.loop-turn.input) _ c.loop-turn._turn c.loop-turn-test.false c.loop-turn.invariant in
    first_of (search rules, grind (arith, common_steps))
