use Rattle.std.proofs.Common.{◌≡◌, ◌∙◌, List, map, subst, sym}
use Rattle.educe_settings.specs.declared.ranked.Ranked.{Ranked}
use Rattle.educe_settings.specs.Ranked.{kept_of}
use Rattle.educe_settings.specs.Cases.{fields_in}
use Rattle.educe_settings.specs.Settings.{settings_of, kept_fields}
use Rattle.educe_settings.specs.Order.{IsInOrder}
use Rattle.educe_cmp.proofs.cases.variant_arm.Goals as goal

pub variant_fields-requires-clause-settings : goal.variant_fields-requires-clause-settings
variant_fields-requires-clause-settings c = c.as_slice-settings.ensures ∙ c.in_ok-settings.ensures.are

pub returns-clause-ok : goal.returns-clause-ok
returns-clause-ok c =
    let which = c.args.task.trait_ in
    let ast = c.args.task.ast.now in
    let fields = fields_in c.args.variant.now in
    let settings = c.as_slice-settings.result.now in
    let are : settings ≡ map (settings_of which ast) fields = c.as_slice-settings.ensures ∙ c.in_ok-settings.ensures.are in
    let ordered = subst (λ (all : List Ranked). IsInOrder which (kept_fields which ast fields) (map kept_of all)) (sym c.deref.ensures.value) c.in_ok-ordered.ensures.in_order in
    c.in_ok-arm.ensures ast (subst (λ own. settings ≡ map (settings_of own ast) fields) c.requires.same are)
    (subst (λ own. IsInOrder own (kept_fields own ast fields) (map kept_of c.deref.result.now)) c.requires.same ordered)
