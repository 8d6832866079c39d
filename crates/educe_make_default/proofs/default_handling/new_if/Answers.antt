use Rattle.std.proofs.Common.{Bool, [], ◌∷◌, refl, subst, sym}
use Rattle.educe_syntax.specs.Generics.{Generics}
use Rattle.educe_body_items.specs.declared.items.Item.TheVariants.{New}
use Rattle.educe_meaning.specs.Blocks.{AreNew, IsNew}
use Rattle.educe_make_default.proofs.default_handling.new_if.Goals as goal

pub returns-in_ok-new_item : goal.returns-in_ok-new_item
returns-in_ok-new_item c =
    let ast = c.args.ast.now in
    let item = c.in_ok-new_item.field-0 in
    subst (λ (b : Bool). AreNew b ast c.args.generics.now (New item ∷ [])) (sym c.if-has_new.true)
    (item, refl, subst (λ (g : Generics). IsNew ast g item) c.in_ok-duplicate.ensures c.in_ok-new_item.ensures)
