use Rattle.std.proofs.Common.{◌≡◌, List, map, IfOk, ap, subst, ◌∙◌}
use Rattle.educe_attrs.specs.FieldSettings.{FieldSettings}
use Rattle.educe_settings.specs.Ranked.{kept_of}
use Rattle.educe_handlers.specs.Readings.{reading_of}
use Rattle.educe_settings.specs.Settings.{Kept, kept_by}
use Rattle.educe_settings.specs.Shown.{shown_fields}
use Rattle.educe_meaning.specs.ShownBodies.{AreEntries}
use Rattle.educe_make_debug.specs.Cases.{shown_of}
use Rattle.educe_make_debug.specs.DebugNames.{names_of}
use Rattle.educe_make_debug.proofs.debug_entries.entries.Goals as goal

pub forms_on-requires-clause-fields : goal.forms_on-requires-clause-fields
forms_on-requires-clause-fields c = ap (map kept_of) c.deref.ensures.value ∙ c.in_ok-kept.ensures

pub returns : goal.returns
returns c = λ definition settled.
    let case = c.args.case.now in
    let kept : map kept_of c.deref.result.now ≡ shown_fields definition (shown_of case) =
    ap (map kept_of) c.deref.ensures.value ∙ c.in_ok-kept.ensures ∙ ap (λ (all : List FieldSettings). kept_by 0 case.fields.now all) settled in
    subst (λ (all : List Kept). IfOk c.forms_on.result (AreEntries definition (names_of c.args.names.now) (shown_of case) (reading_of c.args.reading) all)) kept
    (c.forms_on.ensures definition settled)
