use Rattle.std.proofs.Common.{refl, get_or}
use Rattle.educe_bound_classes.proofs.Declared.{put_more}
use Rattle.educe_bound_classes.proofs.places.add_each.Goals as goal

pub loop-place-preserved : goal.loop-place-preserved
loop-place-preserved c =
    let places = c.args.places.now in
    let i = c.loop-place.place-index in
    put_more places i (get_or places i 0) 0 c.args.found.now c.loop-place.found c.insert.new.self c.loop-place-test.true refl c.loop-place.invariant c.in_ok-insert.ensures.updates.0
