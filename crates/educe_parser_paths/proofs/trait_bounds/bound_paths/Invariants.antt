use Rattle.std.proofs.Common.{◌≡◌}
use Rattle.educe_grammar.specs.Types as spec
use Rattle.educe_parser_paths.proofs.trait_bounds.bound_paths.Given as goal

abbrev pub invariant-loop-path : goal.invariant-loop-path
invariant-loop-path l = l.paths ≡ spec.bound_paths l.yielded
