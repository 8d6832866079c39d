use Rattle.std.proofs.Common.{List, map, sym, subst}
use Rattle.std.proofs.lemmas.List.{take_all}
use Rattle.educe_settings.specs.declared.ranked.Ranked.{Ranked}
use Rattle.educe_settings.specs.Ranked.{kept_of}
use Rattle.educe_settings.proofs.Visited.{mapped_more}
use Rattle.educe_settings.specs.Settings.{Kept}
use Rattle.educe_settings.proofs.Elements.{In-all, In-at, In-mapped}
use Rattle.educe_make_markers.specs.Marking.{MayMark, AddsMarkers}
use Rattle.educe_make_markers.proofs.Marking.{none_added, joined}
use Rattle.educe_make_markers.proofs.markers.push_each.Goals as goal

pub push_marker-requires-clause-marks : goal.push_marker-requires-clause-marks
push_marker-requires-clause-marks c =
    let fields = c.args.fields.now in
    let ranked = c.ranked-item.result in
    In-all MayMark (map kept_of fields) (kept_of ranked) c.requires.marks
    (In-mapped kept_of fields ranked (In-at fields c.loop-ranked.ranked-index ranked ranked c.loop-ranked-test.true (sym c.ranked-item.is)))

pub loop-ranked-init : goal.loop-ranked-init
loop-ranked-init c = none_added c.args.marking.now c.args.items.now

pub loop-ranked-preserved : goal.loop-ranked-preserved
loop-ranked-preserved c =
    let fields = c.args.fields.now in
    let ranked = c.ranked-item.result in
    let i = c.loop-ranked.ranked-index in
    subst (λ (own : List Kept). AddsMarkers c.args.marking.now own c.args.items.now c.push_marker.new.items) (sym (mapped_more kept_of fields i ranked ranked c.loop-ranked-test.true c.ranked-item.is))
    (joined c.args.marking.now _ _ _ _ _ c.loop-ranked.invariant c.in_ok-push_marker.ensures)

pub returns : goal.returns
returns c =
    subst (λ (own : List Ranked). AddsMarkers c.args.marking.now (map kept_of own) c.args.items.now c.loop-ranked.items)
    (take_all c.loop-ranked.ranked-index c.args.fields.now c.loop-ranked-test.false) c.loop-ranked.invariant
