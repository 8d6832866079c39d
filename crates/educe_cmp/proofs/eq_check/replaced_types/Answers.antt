use Rattle.std.proofs.Common.{List, sym, subst}
use Rattle.std.specs.Borrow.{Bor}
use Rattle.std.specs.List.{AllByRecursion, AllZip}
use Rattle.std.proofs.lemmas.List.{take_all}
use Rattle.educe_syntax.specs.Readings.{IsReadType}
use Rattle.educe_syntax.specs.Ty.{Ty}
use Rattle.educe_syntax_self.specs.Visits.{IsVisitedType}
use Rattle.educe_settings.proofs.Lists.{zip_more, zip_mapped}
use Rattle.educe_settings.specs.EveryType.{behind}
use Rattle.educe_cmp.proofs.CheckedTypes.{at_index}
use Rattle.educe_cmp.proofs.eq_check.replaced_types.Goals as goal

pub visit_type-requires : goal.visit_type-requires
visit_type-requires c =
    at_index IsReadType c.deref-own-items.result.now c.loop-own.own-index c.own-item.result c.own-item.result c.loop-own-test.true c.own-item.is
    (subst (λ (items : List (Bor Ty)). AllByRecursion IsReadType (behind items)) (sym c.deref-own-items.ensures.value) c.requires)

pub loop-own-preserved : goal.loop-own-preserved
loop-own-preserved c =
    let own = c.own-item.result in
    zip_more (λ (t : Bor Ty) (new : Ty). IsVisitedType c.args.replace.now.head t.now new) c.deref-own-items.result.now c.loop-own.own-index own own c.loop-own.found c.push.new.self
    c.in_ok-visit_type.field-0 c.loop-own-test.true c.own-item.is c.loop-own.invariant c.in_ok-push.ensures.ok c.in_ok-visit_type.ensures

pub returns : goal.returns
returns c =
    let R = IsVisitedType c.args.replace.now.head in
    let items = c.deref-own-items.result.now in
    let all = subst (λ (front : List (Bor Ty)). AllZip (λ (t : Bor Ty) (new : Ty). R t.now new) front c.loop-own.found) (take_all c.loop-own.own-index items c.loop-own-test.false) c.loop-own.invariant in
    subst (λ (items : List (Bor Ty)). AllZip R (behind items) c.loop-own.found) c.deref-own-items.ensures.value (zip_mapped R (λ (t : Bor Ty). t.now) items c.loop-own.found all)
