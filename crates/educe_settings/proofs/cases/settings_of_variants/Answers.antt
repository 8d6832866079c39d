use Rattle.std.proofs.Common.{◌≡◌, List, map, subst}
use Rattle.std.proofs.lemmas.List.{take_all}
use Rattle.educe_syntax.specs.Variant.{Variant}
use Rattle.educe_settings.specs.CaseSettings.{settings_in}
use Rattle.educe_settings.proofs.Uncaused.{case_unranked, variant_uncaused, variants_more, variants_all, variant_stopped}
use Rattle.educe_settings.proofs.SettingLists.{settings_more}
use Rattle.educe_settings.specs.Cases.{fields_in}
use Rattle.educe_settings.proofs.cases.settings_of_variants.Goals as goal

pub returns-in-Err-clause-err : goal.returns-in-Err-clause-err
returns-in-Err-clause-err c =
    variant_stopped c.args.task.trait_ c.args.task.ast.now c.args.variants.now c.loop-variant.variant-index c.variant-item.result c.loop-variant-test.true c.variant-item.is
    c.in-Err.stop c.in-Err.ensures.err

pub loop-variant-preserved : goal.loop-variant-preserved
loop-variant-preserved c =
    let which = c.args.task.trait_ in
    let ast = c.args.task.ast.now in
    let variants = c.args.variants.now in
    let variant = c.variant-item.result in
    let i = c.loop-variant.variant-index in
    let less = c.loop-variant-test.true in
    let item = c.variant-item.is in
    let said = c.in-Ok.ensures in
    let none = variant_uncaused which ast variant said.place (case_unranked which ast (fields_in variant) c.requires.unranked said.read) in
    record {
      are = settings_more which ast variants i variant variant c.loop-variant.all c.push.new.self c.in-Ok.settings less item c.loop-variant.invariant.are c.in_ok-push-in-Ok.ensures.ok said.are;
      uncaused = variants_more which ast variants i variant variant less item c.loop-variant.invariant.uncaused none;
    }

pub returns-clause-are : goal.returns-clause-are
returns-clause-are c =
    subst (λ (front : List Variant). c.loop-variant.all ≡ settings_in c.args.task.trait_ c.args.task.ast.now (map fields_in front))
    (take_all c.loop-variant.variant-index c.args.variants.now c.loop-variant-test.false) c.loop-variant.invariant.are

pub returns-clause-uncaused : goal.returns-clause-uncaused
returns-clause-uncaused c =
    variants_all c.args.task.trait_ c.args.task.ast.now c.args.variants.now c.loop-variant.variant-index c.loop-variant-test.false c.loop-variant.invariant.uncaused
