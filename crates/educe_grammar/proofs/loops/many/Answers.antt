use Rattle.std.proofs.Common.{rules, arith}
use Rattle.std.proofs.lemmas.Grind.{common_steps}
use Rattle.educe_grammar.specs.Noting.{repeat}
use Rattle.educe_grammar.proofs.Turns.{one_more, no_more}
use Rattle.educe_grammar.proofs.loops.many.Goals as goal

pub returns-then-not-begins : goal.returns-then-not-begins
unfolding repeat
returns-then-not-begins g c = λ look read as_look as_read.
    let e = one_more (λ n. repeat look read n c.loop-turn.found c.loop-turn.input) _ c.loop-turn._turn c.loop-turn-test.true (c.loop-turn.invariant look read as_look as_read) in
    let s = as_look.decides _ _ c.begins.ensures in
    first_of (search rules, grind (arith, common_steps))

pub returns-in_err-item : goal.returns-in_err-item
unfolding repeat
returns-in_err-item g c = λ look read as_look as_read.
    let e = one_more (λ n. repeat look read n c.loop-turn.found c.loop-turn.input) _ c.loop-turn._turn c.loop-turn-test.true (c.loop-turn.invariant look read as_look as_read) in
    let s = as_look.decides _ _ c.begins.ensures in
    let r = as_read.reads _ _ _ c.in_err-item.ensures in
    first_of (search rules, grind (arith, common_steps))

pub loop-turn-preserved : goal.loop-turn-preserved
unfolding repeat
loop-turn-preserved g c = λ look read as_look as_read.
    let e = one_more (λ n. repeat look read n c.loop-turn.found c.loop-turn.input) _ c.loop-turn._turn c.loop-turn-test.true (c.loop-turn.invariant look read as_look as_read) in
    let s = as_look.decides _ _ c.begins.ensures in
    let r = as_read.reads _ _ _ c.in_ok-item.ensures in
    first_of (search rules, grind (arith, common_steps))

pub returns : goal.returns
unfolding repeat
returns g c = λ look read as_look as_read.
    let e = no_more (λ n. repeat look read n c.loop-turn.found c.loop-turn.input) _ c.loop-turn._turn c.loop-turn-test.false (c.loop-turn.invariant look read as_look as_read) in
    first_of (search rules, grind (arith, common_steps))
