use Rattle.std.proofs.Common.{List, map, subst, sym}
use Rattle.educe_settings.specs.declared.ranked.Ranked.{Ranked}
use Rattle.educe_settings.specs.Ranked.{kept_of}
use Rattle.educe_settings.specs.Settings.{kept_fields}
use Rattle.educe_settings.specs.Order.{IsInOrder}
use Rattle.educe_settings_types.proofs.Sees.{sees_one}
use Rattle.educe_settings_types.proofs.visits.see_case.Goals as goal

pub returns-clause-types : goal.returns-clause-types
returns-clause-types c =
    let which = c.args.task.trait_ in
    let ast = c.args.task.ast.now in
    let fields = c.args.fields.now in
    let ordered = subst (λ (own : List Ranked). IsInOrder which (kept_fields which ast fields) (map kept_of own)) (sym c.deref.ensures.value) c.in_ok-ordered.ensures.in_order in
    sees_one which ast fields (map kept_of c.deref.result.now) _ _ ordered c.in_ok-see_each.ensures.read c.in_ok-see_each.ensures.touched
