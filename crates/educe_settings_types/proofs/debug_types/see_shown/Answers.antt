use Rattle.std.proofs.Common.{◌≡◌, ◌∙◌, List, ◌++◌, length, map, ap}
use Rattle.std.proofs.lemmas.List.{length-map}
use Rattle.educe_settings.specs.Ranked.{kept_of}
use Rattle.educe_settings.specs.SeenTypes.{read_of, touched_of}
use Rattle.educe_settings.specs.Settings.{Kept, kept_by}
use Rattle.educe_settings.specs.Shown.{entry_settings}
use Rattle.educe_settings.specs.Types.{read_types, touched_types}
use Rattle.educe_settings_types.proofs.debug_types.see_shown.Goals as goal

pub kept_fields-requires : goal.kept_fields-requires
kept_fields-requires c = ap length (c.as_slice.ensures ∙ c.in_ok-settings.ensures.are) ∙ length-map c.args.fields.now (entry_settings c.args.named c.args.task.ast.now)

pub returns-clause-types : goal.returns-clause-types
returns-clause-types c =
    let ast = c.args.task.ast.now in
    let fields = c.args.fields.now in
    let before = c.args.types.now in
    let same : map kept_of c.deref.result.now ≡ kept_by 0 fields (map (entry_settings c.args.named ast) fields) =
    ap (map kept_of) c.deref.ensures.value ∙ c.in_ok-shown.ensures ∙ ap (kept_by 0 fields) (c.as_slice.ensures ∙ c.in_ok-settings.ensures.are) in
    record {
      read_is = c.in_ok-see_each.ensures.read ∙ ap (λ (own : List Kept). read_of before ++ read_types own) same;
      touched_is = c.in_ok-see_each.ensures.touched ∙ ap (λ (own : List Kept). touched_of before ++ touched_types own) same;
    }
