use Rattle.std.proofs.Common.{ap, sym, ◌++◌, ◌∷◌, [], ◌∙◌}
use Rattle.educe_parser_paths.proofs.BoundPaths.{one_more_path, no_more_path}
use Rattle.educe_parser_paths.proofs.trait_bounds.bound_paths.Goals as goal

pub loop-path-preserved-in-Continue-1 : goal.loop-path-preserved-in-Continue-1
loop-path-preserved-in-Continue-1 c =
    c.in_ok-push.ensures.ok ∙ ap (λ paths. paths ++ c.in-Some-path.path ∷ []) c.loop-path.invariant
    ∙ sym (one_more_path c.loop-path.yielded c.in-Some.path c.in-Some.field-0-1 c.in-Some-path.path c.in-Some-path.is)

pub loop-path-preserved : goal.loop-path-preserved
loop-path-preserved c = c.loop-path.invariant ∙ sym (no_more_path c.loop-path.yielded c.in-Some.path c.in-Some.field-0-1 c.in_default.is)
