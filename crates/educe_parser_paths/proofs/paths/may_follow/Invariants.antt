use Rattle.std.proofs.Common.{◌≡◌, length}
use Rattle.educe_grammar.specs.Types as spec
use Rattle.educe_parser_paths.proofs.paths.may_follow.Given as goal

abbrev pub invariant-loop-rest : goal.invariant-loop-rest
invariant-loop-rest l = spec.may_follow l.fn.found ≡ spec.may_follow l.rest

abbrev pub decreases-loop-rest : goal.decreases-loop-rest
decreases-loop-rest l = length l.rest
