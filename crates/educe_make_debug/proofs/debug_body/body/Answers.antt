use Rattle.std.proofs.Common.{◌≡◌, Bool, List, ap, subst, ◌∙◌}
use Rattle.std.specs.List.{list_any}
use Rattle.educe_settings.proofs.Lists.{one_pushed}
use Rattle.educe_meaning.specs.Showing.{form_of}
use Rattle.educe_meaning.specs.ShownBodies.{is_map, uses_map, HasHelper}
use Rattle.educe_make_debug.specs.Cases.{shown_of}
use Rattle.educe_make_debug.specs.declared.debug_shown.Case.{Case}
use Rattle.educe_make_debug.specs.DebugNames.{names_of}
use Rattle.educe_make_debug.proofs.ShownBlocks.{maps_are}
use Rattle.educe_make_debug.proofs.debug_body.body.Goals as goal

pub returns : goal.returns
returns c =
    let shown = c.args.shown.now in
    let names = names_of c.args.names.now in
    let forms = c.in_ok-forms.forms in
    let used : c.uses_map.result ≡ uses_map shown.ast.now =
    c.uses_map.ensures ∙ ap (λ (cases : List Case). list_any (λ (case : Case). is_map (form_of (shown_of case))) cases) c.as_slice.ensures ∙ maps_are shown.ast.now shown.cases c.requires.shown.cases_are in
    record {
      param = c.new.result;
      params_are = one_pushed _ _ _ c.new-params.ensures c.in_ok-push.ensures.ok;
      param_is = c.new.ensures ∙ c.in_ok-duplicate.ensures;
      forms = forms;
      forms_are = c.in_ok-forms.ensures;
      block_is = subst (λ (b : Bool). HasHelper b names forms c.in_ok-block.block) used c.in_ok-block.ensures;
    }
