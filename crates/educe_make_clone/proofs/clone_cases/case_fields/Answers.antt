use Rattle.std.proofs.Common.{◌≡◌, ◌∙◌, ap, length, map}
use Rattle.std.proofs.lemmas.List.{length-map}
use Rattle.std.proofs.lemmas.Result.{IfOk-weaker}
use Rattle.educe_bound_traits.specs.declared.traits.Trait.TheVariants.{Clone}
use Rattle.educe_settings.specs.Ranked.{kept_of}
use Rattle.educe_settings.specs.Settings.{kept_by, kept_fields}
use Rattle.educe_make_clone.proofs.clone_cases.case_fields.Goals as goal

pub kept_fields-requires : goal.kept_fields-requires
kept_fields-requires c = simp length-map at (ap length c.requires.settings)

pub returns : goal.returns
returns c =
    let fields = c.args.fields.now in
    IfOk-weaker c.kept_fields.result _ (λ found. map kept_of found.items ≡ kept_fields Clone c.args.task.ast.now fields) (λ found kept. kept ∙ ap (kept_by 0 fields) c.requires.settings) c.kept_fields.ensures
