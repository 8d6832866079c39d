use Rattle.std.proofs.Common.{sym, ◌∙◌}
use Rattle.educe_settings.specs.Ranked.{kept_of}
use Rattle.educe_make_debug.specs.DebugNames.{names_of}
use Rattle.educe_make_debug.proofs.EntryKeys.{named_key, mapped_key}
use Rattle.educe_make_debug.proofs.debug_entries.entry_key.Goals as goal

pub returns-then-is_shown : goal.returns-then-is_shown
returns-then-is_shown c =
    let case = c.args.case.now in
    named_key (names_of c.args.names.now) c.args.settings.now (kept_of c.args.ranked.now) c.in_ok-text.text c.in_ok-text.ensures case.unit case.named case.name.text c.requires c.if-not-case.false
    (sym c.is_shown.ensures ∙ c.if-is_shown.true)

pub returns-in_ok-helper : goal.returns-in_ok-helper
returns-in_ok-helper c =
    let case = c.args.case.now in
    mapped_key (names_of c.args.names.now) c.args.settings.now (kept_of c.args.ranked.now) c.in_ok-text.text c.in_ok-text.ensures case.unit case.named case.name.text c.in_ok-helper.helper
    c.requires c.if-not-case.false (sym c.is_shown.ensures ∙ c.if-is_shown.false) c.in_ok-helper.ensures
