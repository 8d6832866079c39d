use Rattle.std.proofs.Common.{◌∙◌, List, subst, arith}
use Rattle.std.specs.List.{AllZip}
use Rattle.std.proofs.lemmas.List.{take_all}
use Rattle.educe_syntax.specs.Variant.{Variant}
use Rattle.educe_bound_traits.specs.declared.traits.Trait.TheVariants.{Clone}
use Rattle.educe_settings.proofs.Lists.{zip_more}
use Rattle.educe_meaning.specs.CloneBodies.{IsCloneArm, IsFromArm}
use Rattle.educe_make_clone.specs.CloneNames.{names_of}
use Rattle.educe_settings.proofs.SettingsAt.{settings_each, settings_at}
use Rattle.educe_make_clone.proofs.clone_cases.all_arms.Goals as goal

pub loop-place-init : goal.loop-place-init
loop-place-init c = record {
  own = rw c.new-clone.ensures tt;
  from = rw c.new-clone_from.ensures tt;
}

pub bounds-settings-place : goal.bounds-settings-place
bounds-settings-place c =
    let each = settings_each Clone c.args.task.ast.now c.args.variants.now c.args.settings.now c.requires.settings in
    omega (arith, each, c.loop-place-test.true)

pub variant_arms-requires-clause-settings : goal.variant_arms-requires-clause-settings
variant_arms-requires-clause-settings c =
    c.as_slice-settings.ensures
    ∙ settings_at Clone c.args.task.ast.now c.args.variants.now c.args.settings.now c.requires.settings c.loop-place.place c.index-variants-place.result c.index-settings-place.result
    c.loop-place-test.true c.index-variants-place.is c.index-settings-place.is

pub loop-place-preserved : goal.loop-place-preserved
loop-place-preserved c =
    let ast = c.args.task.ast.now in
    let names = names_of c.args.names.now in
    let variants = c.args.variants.now in
    let variant = c.index-variants-place.result in
    let i = c.loop-place.place in
    let less = c.loop-place-test.true in
    let item = c.index-variants-place.is in
    record {
      own = zip_more (IsCloneArm ast names) variants i variant variant c.loop-place.clone _ _ less item c.loop-place.invariant.own c.in_ok-push.ensures.ok c.in_ok-own.ensures.clone;
      from = zip_more (IsFromArm ast names) variants i variant variant c.loop-place.clone_from _ _ less item c.loop-place.invariant.from c.in_ok-push-2.ensures.ok
          c.in_ok-own.ensures.clone_from;
    }

pub returns-clause-clone : goal.returns-clause-clone
returns-clause-clone c =
    subst (λ (front : List Variant). AllZip (IsCloneArm c.args.task.ast.now (names_of c.args.names.now)) front c.loop-place.clone)
    (take_all c.loop-place.place c.args.variants.now c.loop-place-test.false) c.loop-place.invariant.own

pub returns-clause-clone_from : goal.returns-clause-clone_from
returns-clause-clone_from c =
    subst (λ (front : List Variant). AllZip (IsFromArm c.args.task.ast.now (names_of c.args.names.now)) front c.loop-place.clone_from)
    (take_all c.loop-place.place c.args.variants.now c.loop-place-test.false) c.loop-place.invariant.from
