use Rattle.std.proofs.Common.{List, ◌++◌, map, ap, ◌∙◌}
use Rattle.std.proofs.lemmas.Result.{on_ok_weaker}
use Rattle.educe_settings.specs.Ranked.{kept_of}
use Rattle.educe_settings.specs.Settings.{Kept}
use Rattle.educe_make_markers.proofs.several_cases.add_case.Goals as goal

pub returns : goal.returns
returns c =
    let before = map kept_of c.args.all.now.items in
    on_ok_weaker c.add_each.result (λ added. added ∙ ap (λ (own : List Kept). before ++ own) (ap (map kept_of) c.deref.ensures.value ∙ c.in_ok-kept.ensures)) c.add_each.ensures
