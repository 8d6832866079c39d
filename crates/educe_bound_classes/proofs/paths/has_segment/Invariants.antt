use Rattle.std.proofs.Common.{◌≡◌, false, take}
use Rattle.std.specs.List.{list_any}
use Rattle.std.specs.Str.{bytes_eq}
use Rattle.educe_bound_classes.proofs.paths.has_segment.Given as goal

abbrev pub invariant-loop-segment : goal.invariant-loop-segment
invariant-loop-segment l = list_any (λ s. bytes_eq l.name s.ident.text) (take l.segment-index l.segment-items) ≡ false
