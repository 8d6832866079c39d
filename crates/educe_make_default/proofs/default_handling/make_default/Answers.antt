use Rattle.std.proofs.Common.{Bool, subst}
use Rattle.std.specs.Prelude.{codes}
use Rattle.educe_bound_traits.specs.declared.traits.Trait.TheVariants.{Default}
use Rattle.educe_meaning.specs.Blocks.{IsFunction, AreNew}
use Rattle.educe_meaning.specs.Making.{IsDefaultBody}
use Rattle.educe_handlers.proofs.Formed.{impl_with}
use Rattle.educe_make_default.specs.MadeForms.{new_items}
use Rattle.educe_make_default.proofs.default_handling.make_default.Goals as goal

pub returns-clause-block : goal.returns-clause-block
returns-clause-block c =
    let ast = c.args.ast.now in
    let item = c.in_ok-item.item in
    record {
      item = item;
      more = new_items c.in_ok-new.new;
      are = c.in_ok-items.ensures;
      impl_is = impl_with Default ast (IsFunction (codes "default") (IsDefaultBody ast)) _ _ c.in_ok-item.ensures.item (c.in_ok-functions.ensures ast c.requires.form);
      more_are = subst (λ (b : Bool). AreNew b ast item.generics (new_items c.in_ok-new.new)) c.requires.new c.in_ok-new.ensures;
    }
