use Rattle.std.proofs.Common.{◌≡◌, map}
use Rattle.educe_parser_paths.proofs.paths.segments_of.Given as goal

abbrev pub invariant-loop-segment : goal.invariant-loop-segment
invariant-loop-segment l = l.segments ≡ map (λ read. read.0) l.yielded
