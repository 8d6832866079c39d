use Rattle.std.proofs.Common.{◌∙◌, List, [], ◌∷◌, ◌++◌, map, take, ap, sym, append_assoc}
use Rattle.std.proofs.lemmas.List.{map-append}
use Rattle.educe_settings.specs.Ranked.{kept_of}
use Rattle.educe_settings.proofs.Visited.{mapped_more}
use Rattle.educe_settings.specs.Settings.{Kept}
use Rattle.educe_make_markers.proofs.several_cases.add_each.Goals as goal

pub loop-ranked-preserved : goal.loop-ranked-preserved
loop-ranked-preserved c =
    let fields = c.args.fields.now in
    let ranked = c.ranked-item.result in
    let before = map kept_of c.args.all.now.items in
    let so_far = map kept_of (take c.loop-ranked.ranked-index fields) in
    ap (map kept_of) c.in_ok-push.ensures.items ∙ map-append kept_of c.loop-ranked.all.items (ranked ∷ []) ∙ ap (λ (front : List Kept). front ++ kept_of ranked ∷ []) c.loop-ranked.invariant
    ∙ append_assoc before so_far (kept_of ranked ∷ [])
    ∙ ap (λ (more : List Kept). before ++ more) (sym (mapped_more kept_of fields c.loop-ranked.ranked-index ranked ranked c.loop-ranked-test.true c.ranked-item.is))
