use Rattle.std.proofs.Common.{◌≡◌, drop}
use Rattle.educe_grammar.specs.Expressions as spec
use Rattle.educe_parser_expressions.proofs.tails.self_begins_paths.Given as goal

abbrev pub invariant-loop-index : goal.invariant-loop-index
invariant-loop-index l = spec.self_begins_paths l.tokens ≡ spec.self_begins_paths (drop l.index l.tokens)
