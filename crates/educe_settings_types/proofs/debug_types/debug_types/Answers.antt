use Rattle.std.proofs.Common.{◌∙◌, List, ◌++◌, ap}
use Rattle.educe_syntax.specs.Ty.{Ty}
use Rattle.educe_settings.specs.Shown.{all_shown}
use Rattle.educe_settings.specs.Types.{read_types, touched_types}
use Rattle.educe_settings_types.proofs.debug_types.debug_types.Goals as goal

pub returns-clause-types : goal.returns-clause-types
returns-clause-types c =
    let shown = all_shown c.args.ast.now in
    let sees = c.in_ok-see_all.ensures.types in
    record {
      read_are = sees.read_is ∙ ap (λ (front : List Ty). front ++ read_types shown) c.no_types-types.ensures.read;
      touched_are = sees.touched_is ∙ ap (λ (front : List Ty). front ++ touched_types shown) c.no_types-types.ensures.touched;
    }
