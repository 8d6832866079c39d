use Rattle.std.proofs.Common.{◌≡◌, false, take}
use Rattle.educe_bound_classes.specs.Sought.{sought_by}
use Rattle.educe_bound_classes.specs.Walk.{in_types, in_paths, in_segments, in_angle}
use Rattle.educe_bound_classes.proofs.walk.+walk.Given as goal

abbrev pub invariant-in_types-loop-ty : goal.invariant-in_types-loop-ty
invariant-in_types-loop-ty l = in_types (sought_by l.sought) (take l.ty-index l.ty-items) ≡ false

abbrev pub invariant-in_paths-loop-path : goal.invariant-in_paths-loop-path
invariant-in_paths-loop-path l = in_paths (sought_by l.sought) (take l.path-index l.path-items) ≡ false

abbrev pub invariant-in_path-loop-segment : goal.invariant-in_path-loop-segment
invariant-in_path-loop-segment l = in_segments (sought_by l.sought) (take l.segment-index l.segment-items) ≡ false

abbrev pub invariant-in_angle-loop-arg : goal.invariant-in_angle-loop-arg
invariant-in_angle-loop-arg l = in_angle (sought_by l.sought) (take l.arg-index l.arg-items) ≡ false
