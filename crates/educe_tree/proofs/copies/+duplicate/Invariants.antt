use Rattle.std.proofs.Common.{◌≡◌, take}
use Rattle.educe_tree.proofs.copies.+duplicate.Given as goal

abbrev pub invariant-ty::duplicate_types-loop-ty : goal.invariant-ty::duplicate_types-loop-ty
invariant-ty::duplicate_types-loop-ty l = l.copies ≡ take l.ty-index l.ty-items

abbrev pub invariant-path::duplicate_paths-loop-path : goal.invariant-path::duplicate_paths-loop-path
invariant-path::duplicate_paths-loop-path l = l.copies ≡ take l.path-index l.path-items

abbrev pub invariant-path::duplicate_angle_args-loop-arg : goal.invariant-path::duplicate_angle_args-loop-arg
invariant-path::duplicate_angle_args-loop-arg l = l.copies ≡ take l.arg-index l.arg-items

abbrev pub invariant-path::duplicate_path-loop-segment : goal.invariant-path::duplicate_path-loop-segment
invariant-path::duplicate_path-loop-segment l = l.segments ≡ take l.segment-index l.segment-items
