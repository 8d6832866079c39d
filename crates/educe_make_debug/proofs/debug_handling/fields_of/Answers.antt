use Rattle.std.proofs.Common.{◌≡◌, ◌∙◌, map, ap}
use Rattle.std.specs.List.{flat_map}
use Rattle.std.proofs.lemmas.Result.{IfOk-weaker}
use Rattle.educe_settings.specs.Ranked.{kept_of}
use Rattle.educe_settings.specs.Shown.{all_shown}
use Rattle.educe_make_debug.specs.Cases.{kept_in}
use Rattle.educe_make_debug.proofs.Enough.{shown_kept}
use Rattle.educe_make_debug.proofs.debug_handling.fields_of.Goals as goal

pub returns : goal.returns
returns c =
    let ast = c.args.ast.now in
    let same = ap (flat_map kept_in) c.as_slice.ensures ∙ shown_kept c.args.shown.now ast c.requires.ast c.requires.shown in
    IfOk-weaker c.all_shown.result _ (λ kept. map kept_of kept.items ≡ all_shown ast) (λ kept is. is ∙ same) c.all_shown.ensures
