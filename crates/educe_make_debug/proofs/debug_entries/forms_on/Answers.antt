use Rattle.std.proofs.Common.{◌≡◌, ℕ, List, length, get_or, map, take, ap, subst, ◌∙◌, arith}
use Rattle.std.proofs.lemmas.List.{take_all}
use Rattle.educe_attrs.specs.FieldSettings.{FieldSettings}
use Rattle.educe_settings.specs.declared.ranked.Ranked.{Ranked}
use Rattle.educe_settings.specs.Ranked.{how_of, kept_of}
use Rattle.educe_handlers.specs.Readings.{reading_of}
use Rattle.educe_meaning.specs.Showing.{form_of}
use Rattle.educe_meaning.specs.ShownBodies.{AreFormsBy, AreEntries}
use Rattle.educe_make_debug.specs.Cases.{shown_of}
use Rattle.educe_make_debug.specs.DebugNames.{names_of}
use Rattle.educe_make_debug.proofs.EntryLists.{place_within, settings_are, key_is, entries_more}
use Rattle.educe_make_debug.proofs.debug_entries.forms_on.Goals as goal

pub loop-ranked-init : goal.loop-ranked-init
loop-ranked-init c = λ definition settled. c.new-forms.ensures

pub bounds-settings-place : goal.bounds-settings-place
bounds-settings-place c =
    let within = place_within c.args.case.now c.args.fields.now c.requires.fields c.loop-ranked.ranked-index c.ranked-item.result c.loop-ranked-test.true c.ranked-item.is in
    omega (arith, within, ap (λ (all : List FieldSettings). length all) c.as_slice-settings.ensures)

pub offset_bounds-settings-place : goal.offset_bounds-settings-place
offset_bounds-settings-place c =
    let within = place_within c.args.case.now c.args.fields.now c.requires.fields c.loop-ranked.ranked-index c.ranked-item.result c.loop-ranked-test.true c.ranked-item.is in
    omega (arith, within, ap (λ (all : List FieldSettings). length all) c.as_slice-settings.ensures)

pub loop-ranked-preserved : goal.loop-ranked-preserved
loop-ranked-preserved c = λ definition settled.
    let case = c.args.case.now in
    let names = names_of c.args.names.now in
    let reading = reading_of c.args.reading in
    let fields = c.args.fields.now in
    let i = c.loop-ranked.ranked-index in
    let ranked = c.ranked-item.result in
    let own = c.index-settings-place.result in
    let forms = c.in_ok-field_forms.field-0 in
    let found : own ≡ get_or case.settings ranked.place own = c.index-settings-place.is ∙ ap (λ (all : List FieldSettings). get_or all ranked.place own) c.as_slice-settings.ensures in
    let are = settings_are case fields c.requires.fields i ranked c.loop-ranked-test.true c.ranked-item.is definition own settled found in
    entries_more definition names (shown_of case) reading fields i ranked c.loop-ranked.forms _ forms c.loop-ranked-test.true c.ranked-item.is (c.loop-ranked.invariant definition settled)
    c.in_ok-append.ensures.ok
    (subst (λ (text : List ℕ). AreFormsBy names (form_of (shown_of case)) text reading (kept_of ranked) (how_of ranked.how) forms) (key_is case.named definition own (kept_of ranked) are)
    c.in_ok-field_forms.ensures)

pub returns : goal.returns
returns c = λ definition settled.
    let whole : take c.loop-ranked.ranked-index c.args.fields.now ≡ c.args.fields.now = take_all c.loop-ranked.ranked-index c.args.fields.now c.loop-ranked-test.false in
    subst (λ (fields : List Ranked). AreEntries definition (names_of c.args.names.now) (shown_of c.args.case.now) (reading_of c.args.reading) (map kept_of fields) c.loop-ranked.forms) whole
    (c.loop-ranked.invariant definition settled)
