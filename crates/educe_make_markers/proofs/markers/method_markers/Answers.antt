use Rattle.std.proofs.Common.{List, ◌++◌, map, ap, ◌∙◌}
use Rattle.educe_body_items.specs.declared.items.Item.{Item}
use Rattle.educe_body_items.specs.declared.items.Item.TheVariants.{Marker}
use Rattle.educe_make_markers.proofs.markers.method_markers.Goals as goal

pub returns : goal.returns
returns c =
    let adds = c.in_ok-push_each.ensures in
    record { markers = adds.markers; is = adds.is ∙ ap (λ (front : List Item). front ++ map Marker adds.markers) c.new-items.ensures; are = adds.are }
