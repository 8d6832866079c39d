use Rattle.std.proofs.Common.{ap}
use Rattle.std.proofs.lemmas.Result.{on_ok_weaker}
use Rattle.educe_settings.specs.declared.ranked.How.{How}
use Rattle.educe_settings.specs.Ranked.{how_of, kept_of}
use Rattle.educe_meaning.specs.Markers.{marked_by}
use Rattle.educe_make_markers.proofs.Marking.{with_method}
use Rattle.educe_make_markers.proofs.markers.push_marker.Goals as goal

pub returns-in-ByMethod : goal.returns-in-ByMethod
returns-in-ByMethod c =
    let kept = kept_of c.args.ranked.now in
    let marked = ap (λ (how : How). marked_by (how_of how) kept.field.ty) c.in-ByMethod.is in
    on_ok_weaker c.push_item.result (with_method c.args.marking.now kept c.in-ByMethod.path.now c.args.items.now _ marked) c.push_item.ensures

pub returns-in-ByOrder : goal.returns-in-ByOrder
returns-in-ByOrder c =
    let kept = kept_of c.args.ranked.now in
    let marked = ap (λ (how : How). marked_by (how_of how) kept.field.ty) c.in-ByOrder.is in
    on_ok_weaker c.push_item-in-ByOrder.result (with_method c.args.marking.now kept c.in-ByOrder.path.now c.args.items.now _ marked) c.push_item-in-ByOrder.ensures
