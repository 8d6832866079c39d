use Rattle.std.proofs.Common.{List, sym, subst}
use Rattle.std.proofs.lemmas.List.{take_all}
use Rattle.educe_syntax.specs.Variant.{Variant}
use Rattle.educe_settings.proofs.Lists.{zip_more}
use Rattle.educe_settings.proofs.Uncaused.{in_among}
use Rattle.educe_settings.specs.Shown.{variant_shown}
use Rattle.educe_settings.proofs.Elements.{In-at}
use Rattle.educe_make_debug.specs.Cases.{IsCaseOf, AreVariantCases}
use Rattle.educe_settings_types.specs.Read.{IsVariantRead, AreVariantsRead}
use Rattle.educe_make_debug.proofs.Cases.{each_more}
use Rattle.educe_make_debug.proofs.debug_cases.variant_cases.Goals as goal

pub loop-variant-init : goal.loop-variant-init
loop-variant-init c = record { are = rw c.new-cases.ensures tt; read = tt }

pub variant_case-requires-clause-variant : goal.variant_case-requires-clause-variant
variant_case-requires-clause-variant c =
    let variants = c.args.variants.now in
    let variant = c.variant-item.result in
    let found = In-at variants c.loop-variant.variant-index variant variant c.loop-variant-test.true (sym c.variant-item.is) in
    record { variants = variants; is = c.requires.shape; among = in_among variant variants found }

pub loop-variant-preserved : goal.loop-variant-preserved
loop-variant-preserved c =
    let ast = c.args.task.ast.now in
    let variants = c.args.variants.now in
    let variant = c.variant-item.result in
    let i = c.loop-variant.variant-index in
    let less = c.loop-variant-test.true in
    record {
      are = zip_more (λ v case. IsCaseOf ast (variant_shown ast v) case) variants i variant variant _ _ c.in-Ok.case less c.variant-item.is c.loop-variant.invariant.are c.in_ok-push-in-Ok.ensures.ok
          c.in-Ok.ensures.are;
      read = each_more (IsVariantRead ast) variants i variant variant less c.variant-item.is c.loop-variant.invariant.read c.in-Ok.ensures.read;
    }

pub returns-clause-are : goal.returns-clause-are
returns-clause-are c =
    subst (λ (front : List Variant). AreVariantCases c.args.task.ast.now front c.loop-variant.cases) (take_all c.loop-variant.variant-index c.args.variants.now c.loop-variant-test.false)
    c.loop-variant.invariant.are

pub returns-clause-read : goal.returns-clause-read
returns-clause-read c =
    subst (AreVariantsRead c.args.task.ast.now) (take_all c.loop-variant.variant-index c.args.variants.now c.loop-variant-test.false) c.loop-variant.invariant.read
