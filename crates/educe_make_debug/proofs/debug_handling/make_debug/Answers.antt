use Rattle.std.proofs.Common.{◌∙◌, map, ap, sym, subst}
use Rattle.std.specs.Prelude.{codes}
use Rattle.std.specs.List.{AllByRecursion}
use Rattle.educe_syntax.specs.Laws.{lawful_definitions}
use Rattle.educe_bound_traits.specs.declared.traits.Trait.TheVariants.{Debug}
use Rattle.educe_settings.specs.Ranked.{kept_of}
use Rattle.educe_handlers.proofs.Formed.{impl_with}
use Rattle.educe_meaning.specs.Blocks.{IsFunction}
use Rattle.educe_meaning.specs.ShownBodies.{IsDebugBody}
use Rattle.educe_meaning.proofs.ReadHeaders.{lawful_headers}
use Rattle.educe_make_debug.specs.DebugNames.{names_of}
use Rattle.educe_make_debug.proofs.Marked.{shown_visit}
use Rattle.educe_make_markers.specs.Marking.{MayMark}
use Rattle.educe_make_debug.proofs.debug_handling.make_debug.Goals as goal

pub debug_items-requires-clause-item : goal.debug_items-requires-clause-item
debug_items-requires-clause-item c =
    let ast = c.args.ast.now in
    impl_with Debug ast (IsFunction (codes "fmt") (IsDebugBody ast (names_of c.in_ok-names.names))) c.in_ok-functions.functions c.in_ok-item.item c.in_ok-item.ensures.item c.in_ok-functions.ensures

pub debug_items-requires-clause-shown : goal.debug_items-requires-clause-shown
debug_items-requires-clause-shown c = ap (map kept_of) c.deref.ensures.value ∙ c.in_ok-kept.ensures

pub debug_items-requires-clause-named : goal.debug_items-requires-clause-named
debug_items-requires-clause-named c = (lawful_definitions.parts c.args.ast.now.tokens c.args.ast.now c.requires.ready.is_read.whole).named

pub debug_items-requires-clause-generics : goal.debug_items-requires-clause-generics
debug_items-requires-clause-generics c =
    let ast = c.args.ast.now in lawful_headers.generics Debug ast c.in_ok-item.item.generics (lawful_definitions.parts ast.tokens ast c.requires.ready.is_read.whole) c.in_ok-item.ensures.item.header_is

pub debug_items-requires-clause-marks : goal.debug_items-requires-clause-marks
debug_items-requires-clause-marks c =
    subst (AllByRecursion MayMark) (sym (ap (map kept_of) c.deref.ensures.value ∙ c.in_ok-kept.ensures)) (shown_visit c.args.ast.now c.requires.ready.is_read c.requires.read)
