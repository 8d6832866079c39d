use Rattle.std.proofs.Common.{map, ap, ◌∙◌}
use Rattle.educe_bound_traits.specs.declared.traits.Trait.TheVariants.{Clone}
use Rattle.educe_settings.specs.Ranked.{kept_of}
use Rattle.educe_settings.specs.Settings.{kept_fields}
use Rattle.educe_make_clone.proofs.clone_cases.variant_arms.Goals as goal

pub returns-clause-clone_from : goal.returns-clause-clone_from
returns-clause-clone_from c =
    let ast = c.args.task.ast.now in
    let kept = ap (map kept_of) c.deref-2.ensures.value ∙ c.in_ok-kept.ensures ∙ ap (kept_fields Clone ast) c.as_slice-fields.ensures in
    c.in_ok-from.ensures ast c.requires.settings kept
