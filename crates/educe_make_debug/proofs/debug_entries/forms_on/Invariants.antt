use Rattle.std.proofs.Common.{map, take}
use Rattle.educe_syntax.specs.DeriveInput.{DeriveInput}
use Rattle.educe_settings.specs.Ranked.{kept_of}
use Rattle.educe_handlers.specs.Readings.{reading_of}
use Rattle.educe_meaning.specs.ShownBodies.{AreEntries}
use Rattle.educe_make_debug.specs.Cases.{shown_of, AreSettled}
use Rattle.educe_make_debug.specs.DebugNames.{names_of}
use Rattle.educe_make_debug.proofs.debug_entries.forms_on.Given as goal

abbrev pub invariant-loop-ranked : goal.invariant-loop-ranked
invariant-loop-ranked l =
    (definition : DeriveInput) → AreSettled definition l.case → AreEntries definition (names_of l.names) (shown_of l.case) (reading_of l.reading) (map kept_of (take l.ranked-index l.fields)) l.forms
