use Rattle.std.proofs.Common.{◌||◌, ap, sym, ◌∙◌, List}
use Rattle.std.specs.Prelude.{slice_get}
use Rattle.educe_tree.specs.declared.path.Segment.{Segment}
use Rattle.educe_bound_classes.specs.Names.{params_of}
use Rattle.educe_bound_classes.specs.Texts.{has_text}
use Rattle.educe_bound_classes.proofs.Collecting.{first_added}
use Rattle.educe_bound_classes.proofs.collect.collect_first.Goals as goal

pub returns-in_ok-insert-in-Some-clause-ok : goal.returns-in_ok-insert-in-Some-clause-ok
returns-in_ok-insert-in-Some-clause-ok c =
    let is = c.in-Some.ensures.value ∙ ap (λ (xs : List Segment). slice_get xs 0) c.as_slice.ensures in
    let param = sym c.is_type_param.ensures ∙ c.if-is_type_param.true in
    λ text. c.in_ok-insert-in-Some.ensures.ok text ∙ ap (λ b. has_text c.args.set.now text || b) (first_added (params_of c.args.names) c.args.path.now c.in-Some.first.now is c.if-not-path.true param text)
