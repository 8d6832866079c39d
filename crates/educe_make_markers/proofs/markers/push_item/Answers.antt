use Rattle.std.proofs.Common.{◌≡◌, ◌∷◌, [], ◌++◌}
use Rattle.std.proofs.lemmas.Result.{on_ok_weaker}
use Rattle.educe_body_items.specs.declared.items.Item.TheVariants.{Marker}
use Rattle.educe_make_markers.specs.Marking.{AddsMarker}
use Rattle.educe_make_markers.proofs.markers.push_item.Goals as goal

pub returns : goal.returns
returns c =
    let item = c.in_ok-item.item in
    let items = c.args.items.now in
    let adds : c.push.new.self ≡ items ++ Marker item ∷ [] → AddsMarker c.args.marking.now c.args.field.now.ty c.args.method.now items c.push.new.self =
    λ pushed. record { marker = item; is = pushed; marker_is = c.in_ok-item.ensures } in
    on_ok_weaker c.push.result adds c.push.ensures.ok
