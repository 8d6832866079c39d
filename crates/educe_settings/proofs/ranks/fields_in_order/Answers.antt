use Rattle.std.proofs.Common.{List, ap, length, map, subst}
use Rattle.std.specs.Prelude.{IsTrue, IfOk}
use Rattle.std.proofs.lemmas.List.{length-map}
use Rattle.std.proofs.lemmas.Result.{IfOk-weaker}
use Rattle.educe_attrs.specs.Causes.{NoCause}
use Rattle.educe_attrs.specs.FieldSettings.{FieldSettings}
use Rattle.educe_settings.specs.Handled.{OfCase}
use Rattle.educe_settings.specs.Rows.{is_order}
use Rattle.educe_settings.specs.Settings.{kept_by, RanksDiffer}
use Rattle.educe_settings.specs.Order.{IsInOrder}
use Rattle.educe_settings.specs.Ranked.{kept_of}
use Rattle.educe_settings.proofs.Uncaused.{case_uncaused, ranks_refused}
use Rattle.educe_settings.proofs.ranks.fields_in_order.Goals as goal

pub ordered_fields-requires : goal.ordered_fields-requires
ordered_fields-requires c = simp length-map at (ap length c.requires.settings)

pub returns-clause-in_order : goal.returns-clause-in_order
returns-clause-in_order c =
    let which = c.args.task.trait_ in
    let fields = c.args.fields.now in
    subst (λ (all : List FieldSettings). IfOk c.ordered_fields.result (λ found. IsInOrder which (kept_by 0 fields all) (map kept_of found.items))) c.requires.settings c.ordered_fields.ensures.in_order

pub returns-clause-uncaused : goal.returns-clause-uncaused
returns-clause-uncaused c =
    let which = c.args.task.trait_ in
    let ast = c.args.task.ast.now in
    let fields = c.args.fields.now in
    IfOk-weaker c.ordered_fields.result (λ _. IsTrue (is_order which) → RanksDiffer (kept_by 0 fields c.args.settings.now)) (λ _. NoCause (OfCase which ast fields))
    (λ found apart. case_uncaused which ast fields c.requires.read (λ orders. subst (λ (all : List FieldSettings). RanksDiffer (kept_by 0 fields all)) c.requires.settings (apart orders)))
    c.ordered_fields.ensures.apart

pub returns-clause-err : goal.returns-clause-err
returns-clause-err c =
    ranks_refused c.args.task.trait_ c.args.task.ast.now c.args.fields.now c.args.settings.now c.ordered_fields.result c.requires.settings c.requires.read
    c.ordered_fields.ensures.orders c.ordered_fields.ensures.err
