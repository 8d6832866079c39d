use Rattle.std.proofs.Common.{sym, subst}
use Rattle.std.specs.List.{AllByRecursion}
use Rattle.educe_syntax.specs.Laws.{lawful_definitions}
use Rattle.educe_syntax.specs.Readings.{IsReadType}
use Rattle.educe_bound_traits.specs.declared.traits.Trait.TheVariants.{Eq}
use Rattle.educe_handlers.proofs.Formed.{impl_with}
use Rattle.educe_meaning.specs.Blocks.{AreNone}
use Rattle.educe_meaning.proofs.ReadHeaders.{lawful_headers}
use Rattle.educe_cmp.specs.EqLaws.{lawful_checks}
use Rattle.educe_cmp.proofs.eq_handling.make_eq.Goals as goal

pub eq_items-requires-clause-item : goal.eq_items-requires-clause-item
eq_items-requires-clause-item c = impl_with Eq c.args.ast.now AreNone c.new.result c.in_ok-item.item c.in_ok-item.ensures.item c.new.ensures

pub eq_items-requires-clause-named : goal.eq_items-requires-clause-named
eq_items-requires-clause-named c = lawful_checks.named c.args.ast.now c.requires.ready.is_read

pub eq_items-requires-clause-generics : goal.eq_items-requires-clause-generics
eq_items-requires-clause-generics c =
    let ast = c.args.ast.now in lawful_headers.generics Eq ast c.in_ok-item.item.generics (lawful_definitions.parts ast.tokens ast c.requires.ready.is_read.whole) c.in_ok-item.ensures.item.header_is

pub eq_items-requires-clause-visits : goal.eq_items-requires-clause-visits
eq_items-requires-clause-visits c =
    subst (AllByRecursion IsReadType) (sym c.requires.types.touched_are) (lawful_checks.visits c.args.ast.now c.requires.ready.is_read)
