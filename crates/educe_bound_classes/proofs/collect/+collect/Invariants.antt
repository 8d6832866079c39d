use Rattle.std.proofs.Common.{take}
use Rattle.educe_bound_classes.specs.Collects.{Collects}
use Rattle.educe_bound_classes.specs.Names.{params_of}
use Rattle.educe_bound_classes.specs.Texts.{KeepsTexts}
use Rattle.educe_bound_classes.specs.Walk.{in_types, in_paths, in_segments, in_angle}
use Rattle.educe_bound_classes.proofs.collect.+collect.Given as goal

abbrev pub invariant-collect_types-loop-ty : goal.invariant-collect_types-loop-ty
invariant-collect_types-loop-ty l = Collects (params_of l.names) l.exceptions (λ q. in_types q (take l.ty-index l.ty-items)) l.initial.set l.set × KeepsTexts l.initial.set l.set

abbrev pub invariant-collect_segments-loop-segment : goal.invariant-collect_segments-loop-segment
invariant-collect_segments-loop-segment l = Collects (params_of l.names) l.exceptions (λ q. in_segments q (take l.segment-index l.segments)) l.initial.set l.set × KeepsTexts l.initial.set l.set

abbrev pub invariant-collect_paths-loop-path : goal.invariant-collect_paths-loop-path
invariant-collect_paths-loop-path l = Collects (params_of l.names) l.exceptions (λ q. in_paths q (take l.path-index l.path-items)) l.initial.set l.set × KeepsTexts l.initial.set l.set

abbrev pub invariant-collect_angle-loop-arg : goal.invariant-collect_angle-loop-arg
invariant-collect_angle-loop-arg l = Collects (params_of l.names) l.exceptions (λ q. in_angle q (take l.arg-index l.arg-items)) l.initial.set l.set × KeepsTexts l.initial.set l.set
