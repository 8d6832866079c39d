use Rattle.std.proofs.Common.{◌≡◌, suc, [], length, ◌-◌}
use Rattle.educe_grammar.specs.Ahead.{Look, Decides}
use Rattle.educe_grammar.specs.Noting.{Noter, repeat}
use Rattle.educe_grammar.specs.Steps.{ReadsAs}
use Rattle.educe_grammar.proofs.loops.many.Given as goal

abbrev pub invariant-loop-turn : goal.invariant-loop-turn
invariant-loop-turn g l =
    (look : Look) (read : Noter g.row.T.Denot) → Decides look (goal.S-post g l.fn.begins) → ReadsAs read (goal.F-post g l.fn.item)
    → repeat look read (suc (length l.initial.input.cursor)) [] l.initial.input ≡ repeat look read (l._turn-end - l._turn) l.found l.input
