use Rattle.std.proofs.Common.{◌≡◌, false, true, refl, ap, sym, ◌∙◌, arith}
use Rattle.std.proofs.lemmas.List.Folds.{list_any_at}
use Rattle.std.proofs.lemmas.Grind.{common_steps}
use Rattle.educe_tree.specs.declared.path.Segment.{Segment}
use Rattle.educe_bound_classes.specs.Sought.{sought_by}
use Rattle.educe_bound_classes.specs.Walk.{in_form, in_type, in_args, in_segments}
use Rattle.educe_bound_classes.proofs.Walks.{in_form-Reference, in_path-inside, in_path-nowhere}
use Rattle.educe_bound_classes.proofs.walk.+walk.Goals as goal

pub in_form-returns-in-Reference : goal.in_form-returns-in-Reference
in_form-returns-in-Reference t c =
    let q = sought_by c.args.sought in
    c.in_type-in-Reference.ensures ∙ ap (in_type q) c.get-in-Reference.ensures ∙ sym (in_form-Reference q c.in-Reference.field-0 c.in-Reference.ty) ∙ ap (in_form q) (sym c.in-Reference.is)

pub in_path-returns-then-in_args : goal.in_path-returns-then-in_args
in_path-returns-then-in_args t c =
    let q = sought_by c.args.sought in
    let found : in_segments q c.as_slice-segment-items.result.now ≡ true =
    list_any_at (λ (s : Segment). in_args q s.args) c.as_slice-segment-items.result.now c.loop-segment.segment-index c.segment-item.result c.loop-segment-test.true
    (ap (λ (s : Segment). in_args q s.args) (sym c.segment-item.is) ∙ sym c.in_args.ensures ∙ c.if-in_args.true) in
    sym (in_path-inside q c.args.behind c.args.path.now c.as_slice-segment-items.result.now c.as_slice-segment-items.ensures refl found)

pub in_path-returns : goal.in_path-returns
in_path-returns t c =
    let q = sought_by c.args.sought in
    let items = c.as_slice-segment-items.result.now in
    let none : in_segments q items ≡ false = grind (arith, common_steps, c.loop-segment.invariant) in
    sym (in_path-nowhere q c.args.behind c.args.path.now items c.as_slice-segment-items.ensures refl (sym c.is_sought_at.ensures ∙ c.if-is_sought_at.false) none)
