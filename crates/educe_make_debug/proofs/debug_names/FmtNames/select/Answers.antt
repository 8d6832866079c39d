use Rattle.std.proofs.Common.{[], ◌∷◌, ◌∙◌}
use Rattle.std.specs.Prelude.{codes}
use Rattle.educe_handlers.proofs.Chosen.{chosen_first, held_more}
use Rattle.educe_make_debug.proofs.ChosenBehind.{chosen_behind, held_behind}
use Rattle.educe_make_debug.proofs.debug_names.FmtNames.select.Goals as goal

pub returns-clause-chosen : goal.returns-clause-chosen
returns-clause-chosen c =
    let own = c.in_ok-own.ensures in
    let wrapped = c.in_ok-wrapped.ensures in
    let helper = c.in_ok-helper.ensures in
    let types = c.in_ok-types.ensures in
    let values = c.in_ok-values.ensures in
    let plain_4 = codes "educe__value" ∷ codes "educe__formatter" ∷ [] in
    let plain_3 = codes "V" ∷ codes "F" ∷ plain_4 in
    let plain_2 = codes "Educe__RawString" ∷ plain_3 in
    let plain_1 = codes "arg" ∷ codes "Educe__DebugField" ∷ plain_2 in
    let texts_4 = c.in_ok-values.values.first.text ∷ c.in_ok-values.values.second.text ∷ [] in
    let texts_3 = c.in_ok-types.types.first.text ∷ c.in_ok-types.types.second.text ∷ texts_4 in
    let texts_2 = c.in_ok-helper.helper.text ∷ texts_3 in
    let texts_1 = c.in_ok-wrapped.wrapped.first.text ∷ c.in_ok-wrapped.wrapped.second.text ∷ texts_2 in
    chosen_behind _ _ (codes "f" ∷ codes "builder" ∷ []) (c.in_ok-own.own.first.text ∷ c.in_ok-own.own.second.text ∷ []) plain_1 texts_1 own.chosen own.held
    (chosen_behind _ _ (codes "arg" ∷ codes "Educe__DebugField" ∷ []) (c.in_ok-wrapped.wrapped.first.text ∷ c.in_ok-wrapped.wrapped.second.text ∷ []) plain_2 texts_2 wrapped.chosen wrapped.held
    (chosen_first _ _ (codes "Educe__RawString") c.in_ok-helper.helper.text plain_3 texts_3 helper.chosen helper.held
    (chosen_behind _ _ (codes "V" ∷ codes "F" ∷ []) (c.in_ok-types.types.first.text ∷ c.in_ok-types.types.second.text ∷ []) plain_4 texts_4 types.chosen types.held values.chosen)))

pub returns-clause-held : goal.returns-clause-held
returns-clause-held c =
    c.in_ok-values.ensures.held
    ∙ held_behind _ _ (c.in_ok-types.types.first.text ∷ c.in_ok-types.types.second.text ∷ []) _ c.in_ok-types.ensures.held
    ∙ held_more _ _ _ _ c.in_ok-helper.ensures.held
    ∙ held_behind _ _ (c.in_ok-wrapped.wrapped.first.text ∷ c.in_ok-wrapped.wrapped.second.text ∷ []) _ c.in_ok-wrapped.ensures.held
    ∙ held_behind _ _ (c.in_ok-own.own.first.text ∷ c.in_ok-own.own.second.text ∷ []) _ c.in_ok-own.ensures.held
