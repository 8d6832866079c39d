use Rattle.std.proofs.Common.{subst}
use Rattle.std.specs.List.{AllZip}
use Rattle.std.proofs.lemmas.List.{take_all}
use Rattle.educe_settings.proofs.Lists.{zip_more}
use Rattle.educe_settings.proofs.Uncaused.{variants_more, variants_all, variant_stopped}
use Rattle.educe_meaning.specs.Arms.{IsArm}
use Rattle.educe_cmp.specs.Names.{names_of}
use Rattle.educe_cmp.proofs.cases.variant_arms.Goals as goal

pub returns-in-Err-clause-err : goal.returns-in-Err-clause-err
returns-in-Err-clause-err c =
    variant_stopped c.args.task.trait_ c.args.task.ast.now c.args.variants.now c.loop-variant.variant-index c.variant-item.result c.loop-variant-test.true c.variant-item.is
    c.in-Err.stop c.in-Err.ensures.err

pub loop-variant-init : goal.loop-variant-init
loop-variant-init c = record {
  arms = rw c.new-arms.ensures tt;
  uncaused = tt;
}

pub loop-variant-preserved : goal.loop-variant-preserved
loop-variant-preserved c =
    let which = c.args.task.trait_ in
    let ast = c.args.task.ast.now in
    let variants = c.args.variants.now in
    let variant = c.variant-item.result in
    let i = c.loop-variant.variant-index in
    let less = c.loop-variant-test.true in
    record {
      arms = zip_more (IsArm c.args.which ast (names_of c.args.names.now)) variants i variant variant c.loop-variant.arms c.push.new.self c.in-Ok.arm
          less c.variant-item.is c.loop-variant.invariant.arms c.in_ok-push-in-Ok.ensures.ok c.in-Ok.ensures.ok;
      uncaused = variants_more which ast variants i variant variant less c.variant-item.is c.loop-variant.invariant.uncaused c.in-Ok.ensures.uncaused;
    }

pub returns-clause-ok : goal.returns-clause-ok
returns-clause-ok c =
    let variants = c.args.variants.now in
    subst (λ front. AllZip (IsArm c.args.which c.args.task.ast.now (names_of c.args.names.now)) front c.loop-variant.arms)
    (take_all c.loop-variant.variant-index variants c.loop-variant-test.false) c.loop-variant.invariant.arms

pub returns-clause-uncaused : goal.returns-clause-uncaused
returns-clause-uncaused c =
    variants_all c.args.task.trait_ c.args.task.ast.now c.args.variants.now c.loop-variant.variant-index c.loop-variant-test.false c.loop-variant.invariant.uncaused
