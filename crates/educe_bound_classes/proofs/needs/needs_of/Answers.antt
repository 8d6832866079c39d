use Rattle.std.proofs.Common.{◌≡◌, List, [], ◌∷◌, ◌++◌, take, ap, sym, subst, ◌∙◌, arith, Bor}
use Rattle.std.proofs.lemmas.List.{take_more, map-append}
use Rattle.std.proofs.lemmas.Grind.{common_steps}
use Rattle.educe_tree.specs.declared.ty.Ty.{Ty}
use Rattle.educe_bound_classes.specs.declared.needs.Asked.{Asked}
use Rattle.educe_bound_classes.specs.Asked.{AddsAll, types_of}
use Rattle.educe_bound_classes.proofs.Asking.{adds_none, adds_type}
use Rattle.educe_bound_classes.proofs.needs.needs_of.Goals as goal

pub loop-ty-init : goal.loop-ty-init
loop-ty-init c =
    let asker = c.args.asker.now in
    subst (λ (xs : List Asked). AddsAll asker.exceptions.now asker.params.now asker.name.now [] [] xs) (sym c.new-asked.ensures.items)
    (adds_none asker.exceptions.now asker.params.now asker.name.now [])

pub loop-ty-preserved : goal.loop-ty-preserved
loop-ty-preserved c =
    let asker = c.args.asker.now in
    let items = c.args.types.now in
    let i = c.loop-ty.ty-index in
    let ty = c.ty-item.result in
    let more = ap types_of (take_more items i ty c.loop-ty-test.true ∙ ap (λ (x : Bor Ty). take i items ++ x ∷ []) (sym c.ty-item.is)) ∙ map-append (λ (x : Bor Ty). x.now) (take i items) (ty ∷ []) in
    subst (λ (ts : List Ty). AddsAll asker.exceptions.now asker.params.now asker.name.now ts [] c.append_needs.new.asked.items) (sym more)
    (adds_type asker.exceptions.now asker.params.now asker.name.now (types_of (take i items)) ty.now [] c.loop-ty.asked.items c.append_needs.new.asked.items c.loop-ty.invariant c.in_ok-append_needs.ensures.ok)

pub returns : goal.returns
returns c =
    let asker = c.args.asker.now in
    let items = c.args.types.now in
    let whole : take c.loop-ty.ty-index items ≡ items = grind (arith, common_steps) in
    subst (λ (ts : List (Bor Ty)). AddsAll asker.exceptions.now asker.params.now asker.name.now (types_of ts) [] c.loop-ty.asked.items) whole c.loop-ty.invariant
