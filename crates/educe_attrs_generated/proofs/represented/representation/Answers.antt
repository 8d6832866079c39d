use Rattle.std.proofs.Common.{sym, ap, ◌∙◌, subst, take, ◌++◌, ◌∷◌, []}
use Rattle.std.proofs.lemmas.List.{take_more, take_all}
use Rattle.educe_syntax.specs.Attribute.{Attribute}
use Rattle.educe_attrs_generated.specs.Represented.{AreHeld}
use Rattle.educe_attrs_generated.proofs.Held.{AreHeld-append}
use Rattle.educe_attrs_generated.proofs.represented.representation.Goals as goal

pub loop-attribute-init : goal.loop-attribute-init
loop-attribute-init c = subst (AreHeld []) (sym c.new-held.ensures) AreHeld.none_left

pub loop-attribute-preserved : goal.loop-attribute-preserved
loop-attribute-preserved c =
    let items = c.as_slice-attribute-items.result.now in
    let i = c.loop-attribute.attribute-index in
    let item = c.attribute-item.result in
    let more = ap (λ (a : Attribute). take i items ++ a ∷ []) c.attribute-item.is ∙ sym (take_more items i item c.loop-attribute-test.true) in
    subst (λ attributes. AreHeld attributes c.append.new.self) more
    (subst (AreHeld (take i items ++ item ∷ [])) (sym c.in_ok-append.ensures.ok)
    (AreHeld-append (take i items) item c.loop-attribute.held c.in_ok-represents.field-0 c.loop-attribute.invariant c.in_ok-represents.ensures))

pub returns : goal.returns
returns c =
    subst (λ attributes. AreHeld attributes c.loop-attribute.held)
    (take_all c.loop-attribute.attribute-index c.as_slice-attribute-items.result.now c.loop-attribute-test.false ∙ c.as_slice-attribute-items.ensures)
    c.loop-attribute.invariant
