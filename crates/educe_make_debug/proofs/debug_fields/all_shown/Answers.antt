use Rattle.std.proofs.Common.{◌∙◌, List, [], ◌∷◌, ◌++◌, map, take, ap, sym, append-nil}
use Rattle.std.specs.List.{flat_map}
use Rattle.std.proofs.lemmas.Grind.{flat_map-append}
use Rattle.std.proofs.lemmas.List.{take_all, take_more}
use Rattle.educe_settings.specs.Ranked.{kept_of}
use Rattle.educe_settings.specs.Settings.{Kept, kept_by}
use Rattle.educe_make_debug.specs.Cases.{kept_in}
use Rattle.educe_make_debug.specs.declared.debug_shown.Case.{Case}
use Rattle.educe_make_debug.proofs.debug_fields.all_shown.Goals as goal

pub loop-case-init : goal.loop-case-init
loop-case-init c = ap (map kept_of) c.new-all.ensures.items

pub loop-case-preserved : goal.loop-case-preserved
loop-case-preserved c =
    let cases = c.args.cases.now in
    let case = c.case-item.result in
    let i = c.loop-case.case-index in
    let front = take i cases in
    let more = take_more cases i case c.loop-case-test.true ∙ ap (λ (own : Case). front ++ own ∷ []) (sym c.case-item.is) in
    c.in_ok-add_case.ensures ∙ (λ j. c.loop-case.invariant j ++ kept_by 0 case.fields.now (c.as_slice.ensures j))
    ∙ sym (ap (flat_map kept_in) more ∙ flat_map-append kept_in front (case ∷ []) ∙ ap (λ (own : List Kept). flat_map kept_in front ++ own) (append-nil (kept_in case)))

pub returns : goal.returns
returns c = c.loop-case.invariant ∙ ap (λ (front : List Case). flat_map kept_in front) (take_all c.loop-case.case-index c.args.cases.now c.loop-case-test.false)
