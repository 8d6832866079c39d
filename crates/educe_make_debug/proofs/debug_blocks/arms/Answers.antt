use Rattle.std.proofs.Common.{◌≡◌, List, length, get_or, ap, sym, subst, ◌∙◌, arith}
use Rattle.std.specs.List.{AllZip}
use Rattle.std.proofs.lemmas.List.{take_all}
use Rattle.educe_syntax.specs.Variant.{Variant}
use Rattle.educe_settings.proofs.Lists.{zip_more}
use Rattle.educe_settings.specs.Shown.{ShownCase}
use Rattle.educe_meaning.specs.ShownBodies.{IsDebugArm}
use Rattle.educe_make_debug.specs.declared.debug_shown.Case.{Case}
use Rattle.educe_make_debug.specs.DebugNames.{names_of}
use Rattle.educe_make_debug.proofs.ShownBlocks.{cases_each, variant_case}
use Rattle.educe_make_debug.proofs.debug_blocks.arms.Goals as goal

pub loop-place-init : goal.loop-place-init
loop-place-init c = rw c.new-arms.ensures tt

pub bounds-cases-place : goal.bounds-cases-place
bounds-cases-place c =
    let each = cases_each c.args.shown.now c.requires.shown c.args.variants.now c.requires.shape in
    omega (arith, each, c.loop-place-test.true, ap (λ (cases : List Case). length cases) c.as_slice-cases.ensures)

pub arm-requires : goal.arm-requires
arm-requires c =
    let case = c.index-cases-place.result in
    let found : case ≡ get_or c.args.shown.now.cases c.loop-place.place case =
    c.index-cases-place.is ∙ ap (λ (cases : List Case). get_or cases c.loop-place.place case) c.as_slice-cases.ensures in
    let own = variant_case c.args.shown.now c.requires.shown c.args.variants.now c.requires.shape c.loop-place.place c.index-variants-place.result case c.loop-place-test.true c.index-variants-place.is
    found in
    sym (ap (λ (shown : ShownCase). shown.fields) own.is)

pub loop-place-preserved : goal.loop-place-preserved
loop-place-preserved c =
    let d = c.args.shown.now.ast.now in
    let variants = c.args.variants.now in
    let variant = c.index-variants-place.result in
    let case = c.index-cases-place.result in
    let found : case ≡ get_or c.args.shown.now.cases c.loop-place.place case =
    c.index-cases-place.is ∙ ap (λ (cases : List Case). get_or cases c.loop-place.place case) c.as_slice-cases.ensures in
    let own = variant_case c.args.shown.now c.requires.shown variants c.requires.shape c.loop-place.place variant case c.loop-place-test.true c.index-variants-place.is found in
    zip_more (IsDebugArm d (names_of c.args.names.now)) variants c.loop-place.place variant variant c.loop-place.arms _ _ c.loop-place-test.true c.index-variants-place.is c.loop-place.invariant
    c.in_ok-push.ensures.ok (c.in_ok-arm.ensures d own)

pub returns : goal.returns
returns c =
    subst (λ (front : List Variant). AllZip (IsDebugArm c.args.shown.now.ast.now (names_of c.args.names.now)) front c.loop-place.arms)
    (take_all c.loop-place.place c.args.variants.now c.loop-place-test.false) c.loop-place.invariant
