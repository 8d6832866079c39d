use Rattle.std.proofs.Common.{◌≡◌, [], ◌∷◌, sym, subst}
use Rattle.std.specs.Prelude.{codes}
use Rattle.std.proofs.lemmas.Result.{IfOk-weaker}
use Rattle.educe_body.specs.Chosen.{IsPrefix}
use Rattle.educe_meaning.specs.ShownBodies.{AreDebugNames, plain_fmt_names, plain_marker_names}
use Rattle.educe_make_debug.specs.declared.debug_names.DebugNames.{DebugNames}
use Rattle.educe_make_debug.specs.DebugNames.{names_of, fmt_texts, with_marker}
use Rattle.educe_make_debug.proofs.ChosenBehind.{chosen_behind}
use Rattle.educe_make_debug.proofs.debug_names.DebugNames.choose.Goals as goal

pub returns : goal.returns
returns c =
    let names = c.in_ok-names.names in
    let marker = c.in_ok-marker.marker in
    let all = with_marker names c.in_ok-prefix.prefix marker in
    let are : AreDebugNames c.args.ast.now all = record {
      are = record {
        words = c.in_ok-used.used;
        words_are = c.in_ok-used.ensures;
        chosen = chosen_behind _ _ plain_fmt_names (fmt_texts names) plain_marker_names (marker.first.text ∷ marker.second.text ∷ []) c.in_ok-names.ensures.chosen c.in_ok-names.ensures.held c.in_ok-marker.ensures.chosen;
      };
      prefix_is = subst (λ words. IsPrefix words (codes "_") c.in_ok-prefix.prefix) c.in_ok-names.ensures.held c.in_ok-prefix.ensures.chosen;
    } in
    IfOk-weaker c.with_marker.result (λ (own : DebugNames). names_of own ≡ all) (λ (own : DebugNames). AreDebugNames c.args.ast.now (names_of own))
    (λ own is. subst (AreDebugNames c.args.ast.now) (sym is) are) c.with_marker.ensures
