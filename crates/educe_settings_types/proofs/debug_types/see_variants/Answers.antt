use Rattle.std.proofs.Common.{List, sym, subst}
use Rattle.std.specs.List.{flat_map}
use Rattle.std.proofs.lemmas.List.{take_all}
use Rattle.educe_syntax.specs.Variant.{Variant}
use Rattle.educe_settings.proofs.Elements.{In-at}
use Rattle.educe_settings.proofs.Uncaused.{in_among}
use Rattle.educe_settings.specs.Settings.{Kept}
use Rattle.educe_settings.specs.Shown.{variant_shown, shown_fields}
use Rattle.educe_settings_types.specs.Visits.{SeesEach}
use Rattle.educe_settings_types.proofs.ShownTypes.{sees_nothing, sees_next}
use Rattle.educe_settings_types.proofs.debug_types.see_variants.Goals as goal

pub loop-variant-init : goal.loop-variant-init
loop-variant-init c = sees_nothing c.args.types.now

pub see_variant-requires-clause-variant : goal.see_variant-requires-clause-variant
see_variant-requires-clause-variant c =
    let variants = c.args.variants.now in
    let variant = c.variant-item.result in
    let found = In-at variants c.loop-variant.variant-index variant variant c.loop-variant-test.true (sym c.variant-item.is) in
    record { variants = variants; is = c.requires.shape; among = in_among variant variants found }

pub loop-variant-preserved : goal.loop-variant-preserved
loop-variant-preserved c =
    let ast = c.args.task.ast.now in
    sees_next (λ (v : Variant). shown_fields ast (variant_shown ast v)) c.args.variants.now c.loop-variant.variant-index c.variant-item.result _ _ _ c.loop-variant-test.true c.variant-item.is
    c.loop-variant.invariant c.in-Ok.ensures.types

pub returns-clause-types : goal.returns-clause-types
returns-clause-types c =
    let ast = c.args.task.ast.now in
    let Fields : Variant → List Kept = λ v. shown_fields ast (variant_shown ast v) in
    subst (λ (front : List Variant). SeesEach (flat_map Fields front) c.args.types.now c.loop-variant.types) (take_all c.loop-variant.variant-index c.args.variants.now c.loop-variant-test.false)
    c.loop-variant.invariant
