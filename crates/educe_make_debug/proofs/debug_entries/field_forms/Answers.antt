use Rattle.std.proofs.Common.{ap}
use Rattle.std.proofs.lemmas.Result.{IfOk-weaker}
use Rattle.educe_settings.specs.Ranked.{how_of, kept_of}
use Rattle.educe_handlers.specs.Readings.{reading_of}
use Rattle.educe_meaning.specs.Showing.{form_of}
use Rattle.educe_meaning.specs.ShownBodies.{AreFormsBy}
use Rattle.educe_make_debug.specs.Cases.{shown_of}
use Rattle.educe_make_debug.specs.Texts.{key_with}
use Rattle.educe_make_debug.specs.DebugNames.{names_of}
use Rattle.educe_make_debug.specs.Entries.{AreArgued}
use Rattle.educe_make_debug.proofs.EntryLists.{method_forms, order_forms}
use Rattle.educe_make_debug.proofs.debug_entries.field_forms.Goals as goal

pub returns-in-ByMethod : goal.returns-in-ByMethod
returns-in-ByMethod c =
    let names = names_of c.args.names.now in
    let form = form_of (shown_of c.args.case.now) in
    let reading = reading_of c.args.reading in
    let kept = kept_of c.args.ranked.now in
    let text = key_with c.args.case.now.named c.args.settings.now kept in
    let how = how_of c.args.ranked.now.how in
    let held = c.in_ok-held.held in
    let path = c.in-ByMethod.path.now in
    IfOk-weaker c.by_method.result (AreArgued names form text kept.field path held) (AreFormsBy names form text reading kept how)
    (λ forms argued. method_forms names form text reading kept held forms c.in_ok-held.ensures how path (ap how_of c.in-ByMethod.is) argued)
    (c.by_method.ensures form text c.in_ok-key.ensures)

pub returns-in-ByOrder : goal.returns-in-ByOrder
returns-in-ByOrder c =
    let names = names_of c.args.names.now in
    let form = form_of (shown_of c.args.case.now) in
    let reading = reading_of c.args.reading in
    let kept = kept_of c.args.ranked.now in
    let text = key_with c.args.case.now.named c.args.settings.now kept in
    let how = how_of c.args.ranked.now.how in
    let held = c.in_ok-held.held in
    let path = c.in-ByOrder.path.now in
    IfOk-weaker c.by_method-in-ByOrder.result (AreArgued names form text kept.field path held) (AreFormsBy names form text reading kept how)
    (λ forms argued. order_forms names form text reading kept held forms c.in_ok-held.ensures how path (ap how_of c.in-ByOrder.is) argued)
    (c.by_method-in-ByOrder.ensures form text c.in_ok-key.ensures)
