use Rattle.std.proofs.Common.{◌≡◌, ◌∙◌, true, List, [], length, ap, sym, subst}
use Rattle.std.specs.List.{AllByRecursion}
use Rattle.std.proofs.lemmas.List.{take_all}
use Rattle.std.proofs.lemmas.Result.{IfErr-weaker}
use Rattle.educe_tokens.specs.declared.error.Kind.TheVariants.{UnitEnumNeedName}
use Rattle.educe_syntax.specs.DeriveInput.{DeriveInput}
use Rattle.educe_attrs.specs.Causes.{OfStop}
use Rattle.educe_attrs.specs.Phases.{OfHandler}
use Rattle.educe_bound_traits.specs.declared.traits.Trait.TheVariants.{Debug}
use Rattle.educe_settings.specs.Handled.{handling}
use Rattle.educe_settings.specs.Settings.{type_settings}
use Rattle.educe_settings.specs.Shown.{type_text, name_needed}
use Rattle.educe_settings.proofs.Stops.{stop_passed}
use Rattle.educe_make_debug.specs.Cases.{AreCases}
use Rattle.educe_make_debug.specs.declared.debug_shown.Case.{Case}
use Rattle.educe_make_debug.specs.Needs.{shows, IsNeeded}
use Rattle.educe_make_debug.proofs.Cases.{each_more}
use Rattle.educe_make_debug.proofs.Needs.{no_items, case_refused, enum_refused, needed_of, need_stopped}
use Rattle.educe_make_debug.proofs.debug_needs.check_names.Goals as goal

pub returns-then-len-eq0-clause-err : goal.returns-then-len-eq0-clause-err
returns-then-len-eq0-clause-err c =
    let ast = c.args.task.ast.now in
    let shown = c.args.shown.now in
    let are : AreCases ast shown.cases = subst (λ (d : DeriveInput). AreCases d shown.cases) c.requires.ast c.requires.shown.cases_are in
    let name_is : shown.name.text ≡ type_text ast (type_settings Debug ast) = c.requires.shown.name_is ∙ ap (λ (d : DeriveInput). type_text d (type_settings Debug d)) c.requires.ast in
    let none : shown.cases ≡ [] = no_items shown.cases (sym c.len.ensures ∙ c.if-len-eq0.true) in
    IfErr-weaker c.check.result _ (λ s. OfStop (OfHandler (handling ast) Debug) s)
    (need_stopped ast c.is_shown.result UnitEnumNeedName ast.ident.span
    (λ unshown. enum_refused ast c.args.task.listed.now c.requires.typed shown.cases are none shown.name.text name_is (sym c.is_shown.ensures ∙ unshown)))
    c.check.ensures.err

pub loop-case-init : goal.loop-case-init
loop-case-init c = tt

pub returns-in_err-check-clause-err : goal.returns-in_err-check-clause-err
returns-in_err-check-clause-err c =
    let ast = c.args.task.ast.now in
    let cases : List Case = c.as_slice-case-items.result.now in
    let case = c.case-item.result in
    let are : AreCases ast c.args.shown.now.cases = subst (λ (d : DeriveInput). AreCases d c.args.shown.now.cases) c.requires.ast c.requires.shown.cases_are in
    let own : AreCases ast cases = subst (AreCases ast) (sym c.as_slice-case-items.ensures) are in
    stop_passed (IsNeeded c.shows.result (name_needed case.need case.place)) (OfHandler (handling ast) Debug)
    (needed_of ast c.shows.result case.need case.place
    (λ none. case_refused ast c.args.task.listed.now c.requires.typed c.requires.read cases own c.loop-case.case-index case c.loop-case-test.true c.case-item.is (sym c.shows.ensures ∙ none)))
    c.from_residual.result c.in_err-check.field-0.0 c.from_residual.ensures.1 c.in_err-check.ensures.err

pub loop-case-preserved : goal.loop-case-preserved
loop-case-preserved c =
    let cases : List Case = c.as_slice-case-items.result.now in
    let case = c.case-item.result in
    each_more (λ own. shows own ≡ true) cases c.loop-case.case-index case case c.loop-case-test.true c.case-item.is c.loop-case.invariant (sym c.shows.ensures ∙ c.in_ok-check.ensures.ok)

pub returns-clause-ok : goal.returns-clause-ok
returns-clause-ok c =
    let all = take_all c.loop-case.case-index c.as_slice-case-items.result.now c.loop-case-test.false ∙ c.as_slice-case-items.ensures in
    record {
      cases = subst (AllByRecursion (λ case. shows case ≡ true)) all c.loop-case.invariant;
      name = λ none. absurd (c.if-len-eq0.false (c.len.ensures ∙ ap length none));
    }
