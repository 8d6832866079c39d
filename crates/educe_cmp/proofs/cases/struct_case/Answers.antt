use Rattle.std.proofs.Common.{◌∙◌, List, map, subst, sym}
use Rattle.educe_settings.specs.declared.ranked.Ranked.{Ranked}
use Rattle.educe_settings.specs.Ranked.{kept_of}
use Rattle.educe_settings.specs.Settings.{kept_fields}
use Rattle.educe_settings.specs.Order.{IsInOrder}
use Rattle.educe_cmp.proofs.cases.struct_case.Goals as goal

pub fields_in_order-requires-clause-settings : goal.fields_in_order-requires-clause-settings
fields_in_order-requires-clause-settings c = c.as_slice.ensures ∙ c.in_ok-settings.ensures.are

pub returns-clause-ok : goal.returns-clause-ok
returns-clause-ok c =
    let ast = c.args.task.ast.now in
    let fields = c.args.fields.now in
    let ordered = subst (λ (own : List Ranked). IsInOrder c.args.task.trait_ (kept_fields c.args.task.trait_ ast fields) (map kept_of own)) (sym c.deref.ensures.value) c.in_ok-ordered.ensures.in_order in
    c.in_ok-struct_body.ensures fields (subst (λ own. IsInOrder own (kept_fields own ast fields) (map kept_of c.deref.result.now)) c.requires.same ordered)
