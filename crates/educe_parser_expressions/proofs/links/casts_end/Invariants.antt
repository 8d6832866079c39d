use Rattle.std.proofs.Common.{◌≡◌, ◌-◌, drop}
use Rattle.educe_grammar.specs.Expressions as spec
use Rattle.educe_parser_expressions.proofs.links.casts_end.Given as goal

abbrev pub invariant-loop-index : goal.invariant-loop-index
invariant-loop-index l = spec.casts_end l.links ≡ spec.casts_end (drop (l.index - 1) l.links)
