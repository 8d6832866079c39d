use Rattle.std.proofs.Common.{[], ◌∷◌, ◌∙◌}
use Rattle.educe_handlers.proofs.Chosen.{chosen_first, held_more}
use Rattle.educe_make_debug.proofs.debug_names.select_two.Goals as goal

pub returns-clause-chosen : goal.returns-clause-chosen
returns-clause-chosen c =
    let one = c.in_ok-one.ensures in
    let other = c.in_ok-other.ensures in
    chosen_first _ _ c.args.first.now _ (c.args.second.now ∷ []) (c.in_ok-other.other.text ∷ []) one.chosen one.held
    (chosen_first _ _ c.args.second.now _ [] [] other.chosen other.held tt)

pub returns-clause-held : goal.returns-clause-held
returns-clause-held c = c.in_ok-other.ensures.held ∙ held_more _ _ _ _ c.in_ok-one.ensures.held
