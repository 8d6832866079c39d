use Rattle.educe_cmp.specs.EqLaws.{lawful_checks}
use Rattle.educe_cmp.proofs.eq.EqHandlerTraitHandler.block.Goals as goal

pub seen_types-requires-clause-equal : goal.seen_types-requires-clause-equal
seen_types-requires-clause-equal c = λ is lists. c.requires.ready.uncaused.1.1.1.0 lists

pub returns-clause-means : goal.returns-clause-means
returns-clause-means c = λ few. lawful_checks.evaluates c.args.ast.now _ c.in_ok-make_eq.ensures.block
