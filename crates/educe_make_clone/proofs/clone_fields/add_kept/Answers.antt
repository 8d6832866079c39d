use Rattle.std.proofs.Common.{List, ◌++◌, map, length, ap, ◌∙◌}
use Rattle.std.proofs.lemmas.List.{length-map}
use Rattle.std.proofs.lemmas.Result.{on_ok_weaker}
use Rattle.educe_settings.specs.Ranked.{kept_of}
use Rattle.educe_settings.specs.Settings.{Kept, kept_by}
use Rattle.educe_make_clone.proofs.clone_fields.add_kept.Goals as goal

pub add_case-requires : goal.add_case-requires
add_case-requires c = simp length-map at (ap length c.requires)

pub returns : goal.returns
returns c =
    let before = map kept_of c.args.all.now.items in
    on_ok_weaker c.add_case.result (λ added. added ∙ ap (λ (own : List Kept). before ++ own) (ap (kept_by 0 c.args.fields.now) c.requires)) c.add_case.ensures
