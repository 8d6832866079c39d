use Rattle.std.proofs.Common.{List, map, subst}
use Rattle.std.proofs.lemmas.List.{take_all}
use Rattle.educe_syntax.specs.Variant.{Variant}
use Rattle.educe_settings_types.specs.Visits.{Sees}
use Rattle.educe_settings.proofs.Uncaused.{variant_stopped}
use Rattle.educe_settings_types.proofs.Sees.{sees_none, sees_more}
use Rattle.educe_settings.specs.Cases.{fields_in}
use Rattle.educe_settings_types.proofs.visits.see_variants.Goals as goal

pub returns-in-Err-clause-err : goal.returns-in-Err-clause-err
returns-in-Err-clause-err c =
    variant_stopped c.args.task.trait_ c.args.task.ast.now c.args.variants.now c.loop-variant.variant-index c.variant-item.result c.loop-variant-test.true c.variant-item.is
    c.in-Err.stop c.in-Err.ensures.err

pub loop-variant-init : goal.loop-variant-init
loop-variant-init c = sees_none c.args.task.trait_ c.args.task.ast.now c.args.types.now

pub loop-variant-preserved : goal.loop-variant-preserved
loop-variant-preserved c =
    let variant = c.variant-item.result in
    sees_more c.args.task.trait_ c.args.task.ast.now c.args.variants.now c.loop-variant.variant-index variant variant _ _ _ c.loop-variant-test.true c.variant-item.is c.loop-variant.invariant
    c.in-Ok.ensures.types

pub returns-clause-types : goal.returns-clause-types
returns-clause-types c =
    subst (λ (front : List Variant). Sees c.args.task.trait_ c.args.task.ast.now (map fields_in front) c.args.types.now c.loop-variant.types)
    (take_all c.loop-variant.variant-index c.args.variants.now c.loop-variant-test.false) c.loop-variant.invariant
