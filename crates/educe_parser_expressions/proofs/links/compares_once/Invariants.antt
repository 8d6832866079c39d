use Rattle.std.proofs.Common.{◌≡◌, true, drop}
use Rattle.educe_grammar.specs.Expressions as spec
use Rattle.educe_parser_expressions.proofs.links.compares_once.Given as goal

abbrev pub invariant-loop-link : goal.invariant-loop-link
invariant-loop-link l = spec.compares_once true l.links ≡ spec.compares_once l.may_compare (drop l.link-index l.links)
