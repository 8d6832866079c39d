use Rattle.std.proofs.Common.{subst}
use Rattle.std.proofs.lemmas.List.{take_all}
use Rattle.educe_settings.proofs.Uncaused.{variants_more, variants_all, variant_stopped}
use Rattle.educe_meaning.specs.Arms.{AreArms}
use Rattle.educe_meaning.specs.HashBodies.{IsHashArm}
use Rattle.educe_make_hash.specs.HashNames.{names_of}
use Rattle.educe_make_hash.proofs.ArmLists.{arms_more}
use Rattle.educe_make_hash.proofs.hash_cases.variant_arms.Goals as goal

pub returns-in-Err-clause-err : goal.returns-in-Err-clause-err
returns-in-Err-clause-err c =
    variant_stopped c.args.task.trait_ c.args.task.ast.now c.args.variants.now c.loop-place.place c.index-variants-place.result c.loop-place-test.true c.index-variants-place.is
    c.in-Err.stop c.in-Err.ensures.err

pub loop-place-init : goal.loop-place-init
loop-place-init c = record {
  arms = rw c.new-arms.ensures tt;
  uncaused = tt;
}

pub loop-place-preserved : goal.loop-place-preserved
loop-place-preserved c =
    let which = c.args.task.trait_ in
    let ast = c.args.task.ast.now in
    let variants = c.args.variants.now in
    let variant = c.index-variants-place.result in
    let i = c.loop-place.place in
    let less = c.loop-place-test.true in
    record {
      arms = arms_more (IsHashArm ast (names_of c.args.names.now)) variants i variant variant c.loop-place.arms c.push.new.self c.in-Ok.arm
          less c.index-variants-place.is c.loop-place.invariant.arms c.in_ok-push-in-Ok.ensures.ok c.in-Ok.ensures.ok;
      uncaused = variants_more which ast variants i variant variant less c.index-variants-place.is c.loop-place.invariant.uncaused c.in-Ok.ensures.uncaused;
    }

pub returns-clause-ok : goal.returns-clause-ok
returns-clause-ok c =
    let variants = c.args.variants.now in
    subst (λ front. AreArms (IsHashArm c.args.task.ast.now (names_of c.args.names.now)) 0 front c.loop-place.arms)
    (take_all c.loop-place.place variants c.loop-place-test.false) c.loop-place.invariant.arms

pub returns-clause-uncaused : goal.returns-clause-uncaused
returns-clause-uncaused c =
    variants_all c.args.task.trait_ c.args.task.ast.now c.args.variants.now c.loop-place.place c.loop-place-test.false c.loop-place.invariant.uncaused
