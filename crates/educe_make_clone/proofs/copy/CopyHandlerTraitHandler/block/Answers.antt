use Rattle.std.proofs.Common.{ap}
use Rattle.std.proofs.lemmas.Bool.{false≢true}
use Rattle.educe_bound_traits.specs.Traits.{same_trait}
use Rattle.educe_bound_traits.specs.declared.traits.Trait.{Trait}
use Rattle.educe_bound_traits.specs.declared.traits.Trait.TheVariants.{Copy, Eq}
use Rattle.educe_handlers.proofs.Formed.{block_with}
use Rattle.educe_meaning.specs.Blocks.{AreNone}
use Rattle.educe_make_clone.specs.CloneLaws.{lawful_clones}
use Rattle.educe_make_clone.proofs.copy.CopyHandlerTraitHandler.block.Goals as goal

pub seen_types-requires-clause-equal : goal.seen_types-requires-clause-equal
seen_types-requires-clause-equal c = λ is lists. absurd (false≢true (ap (λ (own : Trait). same_trait own Eq) is))

pub returns-clause-block : goal.returns-clause-block
returns-clause-block c = block_with Copy c.args.ast.now AreNone _ _ c.in_ok-impl_block.ensures.block c.new.ensures

pub returns-clause-means : goal.returns-clause-means
returns-clause-means c = λ few.
    lawful_clones.copy_evaluates c.args.ast.now _ (block_with Copy c.args.ast.now AreNone _ _ c.in_ok-impl_block.ensures.block c.new.ensures)
