-- The functions of the block of `Default` evaluate to what they mean.
use Rattle.std.proofs.Common.{Bool, true, false, List, sym, subst}
use Rattle.std.specs.Prelude.{codes}
use Rattle.std.specs.List.{AllByRecursion}
use Rattle.educe_syntax.specs.DeriveInput.{DeriveInput}
use Rattle.educe_syntax.specs.Generics.{Generics}
use Rattle.educe_syntax.specs.Naming.{AreNamesApart}
use Rattle.educe_bound_traits.specs.declared.traits.Trait.TheVariants.{Default}
use Rattle.educe_body_items.specs.declared.items.Item.{Item}
use Rattle.educe_meaning.specs.Blocks.{AreNew, IsDefaultBlock, EachEvaluates}
use Rattle.educe_meaning.specs.DefaultLaws.{DefaultLaws}
use Rattle.educe_meaning.specs.Making.{IsDefaultBody, has_new, IsNewBody, MakesNew}
use Rattle.educe_meaning.proofs.Fitting.{function_means, item_evaluates}
use Rattle.educe_meaning.proofs.Making.{makes_default, makes_new}

module _ (d : DeriveInput) (apart : AreNamesApart d) where
  -- the function `new` of the impl that holds it, where there is one
  new_evaluates : (is_asked : Bool) (generics : Generics) (more : List Item) → AreNew is_asked d generics more → AllByRecursion (EachEvaluates d) more
  new_evaluates false generics more are = subst (AllByRecursion (EachEvaluates d)) (sym are) tt
  new_evaluates true generics more (own, are, new) =
      let each = function_means (λ f. MakesNew d f.body) (codes "new") IsNewBody (λ f named. makes_new d apart f.body) own.functions new.functions_are in
      subst (AllByRecursion (EachEvaluates d)) (sym are) (each, tt)

  -- the functions of the block
  block_evaluates : (items : List Item) → IsDefaultBlock d items → AllByRecursion (EachEvaluates d) items
  block_evaluates items k =
      let own = item_evaluates Default d (codes "default") (IsDefaultBody d) (λ f named. makes_default d apart f.body) k.item k.impl_is in
      subst (AllByRecursion (EachEvaluates d)) (sym k.are) (own, new_evaluates (has_new d) k.item.generics k.more k.more_are)

-- the laws of `Default` hold
pub lawful_defaults : DefaultLaws
lawful_defaults = record { evaluates = λ d items is block. block_evaluates d is.apart items block }
