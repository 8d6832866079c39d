use Rattle.std.proofs.Common.{◌≡◌, Some, IfOk, sym, ap, subst, ◌∙◌, ◌++◌, drop, ◌+◌, arith}
use Rattle.std.specs.Prelude.{Result, true, false}
use Rattle.std.specs.declared.alloc.AllocError.{AllocError}
use Rattle.educe_body_forms.specs.declared.form.Form.{Form}
use Rattle.educe_body_values.specs.declared.flow.Flow.{Flow}
use Rattle.educe_body_values.specs.declared.flow.Flow.TheVariants.{Gives, Returns, Stuck}
use Rattle.educe_body_values.specs.Scoping.{callee_in}
use Rattle.educe_body_values.specs.Meaning.{scene_at, form_value, args_list, arms_list, held_list, call_named, call_value, look_up, with_named, go_on, assign, entry_flow, argument_flow, or_nothing, field_named, Scene, built}
use Rattle.educe_body_values.proofs.Rows.{form_value-Call, form_value-Not, form_value-SomeOf, form_value-IfReturn, form_value-Return, form_value-HashPart, form_value-Construct, form_value-MatchOrdering, form_value-MatchValue, form_value-Block, form_value-AssignField, form_value-AssignThrough, form_value-BuilderEntry, form_value-MethodArgument, match_held, if_let_known, args_list-step, args_list-gathered, args_list-all, counted-gathers, inits_list-step, inits_list-gathered, inits_list-fewer, inits_list-all}
use Rattle.educe_body_eval.proofs.evaluator.+run.Goals as goal

-- a result that ends as one flow ends as another that is the same
ends_alike : (result : Result Flow AllocError) (flow other : Flow) → flow ≡ other → IfOk result (λ given. given ≡ flow) → IfOk result (λ given. given ≡ other)
ends_alike result flow other same ends = subst (λ (flow : Flow). IfOk result (λ given. given ≡ flow)) same ends

pub run_form-returns-in-Call : goal.run_form-returns-in-Call
run_form-returns-in-Call t c =
    let s = scene_at c.args.stage.now in
    let arm = c.in-Call in
    ends_alike c.run_call.result _ _
    (ap (λ path. args_list s c.args.env arm.arguments (call_value s c.args.env.names path)) c.get.ensures ∙ sym (ap (form_value s c.args.env) arm.is ∙ form_value-Call s c.args.env arm.path arm.arguments))
    c.run_call.ensures

pub run_form-returns-in_ok-run_form-in-Not : goal.run_form-returns-in_ok-run_form-in-Not
run_form-returns-in_ok-run_form-in-Not t c =
    let s = scene_at c.args.stage.now in
    rw (c.in-Not.is, form_value-Not s c.args.env c.in-Not.inner, sym c.get-in-Not.ensures) (rw c.in_ok-run_form-in-Not.ensures at c.opposite.ensures)

pub run_form-returns-in_ok-run_form-in-SomeOf : goal.run_form-returns-in_ok-run_form-in-SomeOf
run_form-returns-in_ok-run_form-in-SomeOf t c =
    let s = scene_at c.args.stage.now in
    rw (c.in-SomeOf.is, form_value-SomeOf s c.args.env c.in-SomeOf.inner, sym c.get-in-SomeOf.ensures) (rw c.in_ok-run_form-in-SomeOf.ensures at c.some_of.ensures)

pub run_form-returns-in_ok-run_form-in-IfReturn : goal.run_form-returns-in_ok-run_form-in-IfReturn
run_form-returns-in_ok-run_form-in-IfReturn t c =
    let s = scene_at c.args.stage.now in
    rw (c.in-IfReturn.is, form_value-IfReturn s c.args.env c.in-IfReturn.test, sym c.get-in-IfReturn.ensures) (rw c.in_ok-run_form-in-IfReturn.ensures at c.end_if.ensures)

pub run_form-returns-in_ok-run_form-in-Return : goal.run_form-returns-in_ok-run_form-in-Return
run_form-returns-in_ok-run_form-in-Return t c =
    let s = scene_at c.args.stage.now in
    rw (c.in-Return.is, form_value-Return s c.args.env c.in-Return.inner, sym c.get-in-Return.ensures) (rw c.in_ok-run_form-in-Return.ensures at c.returned.ensures)

pub run_form-returns-in_ok-run_form-in-HashPart : goal.run_form-returns-in_ok-run_form-in-HashPart
run_form-returns-in_ok-run_form-in-HashPart t c =
    let s = scene_at c.args.stage.now in
    rw (c.in-HashPart.is, form_value-HashPart s c.args.env c.in-HashPart.inner, sym c.get-in-HashPart.ensures) (rw c.in_ok-run_form-in-HashPart.ensures at c.hash_part.ensures)

pub run_form-returns-in-AssignField : goal.run_form-returns-in-AssignField
run_form-returns-in-AssignField t c =
    let s = scene_at c.args.stage.now in
    let arm = c.in-AssignField in
    ends_alike c.run_field.result _ _
    (
    (λ i. go_on (form_value s c.args.env (c.get-in-AssignField-2.ensures i)) (assign s (c.get-in-AssignField.ensures i) arm.handed (field_named s arm.key.text)))
    ∙ sym (ap (form_value s c.args.env) arm.is ∙ form_value-AssignField s c.args.env arm.key arm.path arm.inner arm.handed)
    )
    c.run_field.ensures

pub run_form-returns-in-AssignThrough : goal.run_form-returns-in-AssignThrough
run_form-returns-in-AssignThrough t c =
    let s = scene_at c.args.stage.now in
    let arm = c.in-AssignThrough in
    ends_alike c.run_through.result _ _
    (
    (λ i. go_on (form_value s c.args.env (c.get-in-AssignThrough-2.ensures i)) (assign s (c.get-in-AssignThrough.ensures i) arm.handed (look_up c.args.env.names arm.name.text)))
    ∙ sym (ap (form_value s c.args.env) arm.is ∙ form_value-AssignThrough s c.args.env arm.name arm.path arm.inner arm.handed)
    )
    c.run_through.ensures

pub run_form-returns-in-BuilderEntry : goal.run_form-returns-in-BuilderEntry
run_form-returns-in-BuilderEntry t c =
    let s = scene_at c.args.stage.now in
    let arm = c.in-BuilderEntry in
    ends_alike c.run_entry.result _ _
    (
    (λ i. go_on (form_value s c.args.env (c.get-in-BuilderEntry.ensures i)) (entry_flow (look_up c.args.env.names arm.builder.text) arm.key))
    ∙ sym (ap (form_value s c.args.env) arm.is ∙ form_value-BuilderEntry s c.args.env arm.builder arm.key arm.inner arm.field-3)
    )
    c.run_entry.ensures

pub run_field-returns : goal.run_field-returns
run_field-returns t c =
    let s = scene_at c.args.stage.now in
    ends_alike c.run_assign.result _ _ (ap (λ target. go_on (form_value s c.args.env c.args.inner.now) (assign s c.args.path.now c.args.handed target)) c.field_named-target.ensures) c.run_assign.ensures

pub run_through-returns : goal.run_through-returns
run_through-returns t c =
    let s = scene_at c.args.stage.now in
    let target = c.find-target.ensures ∙ ap (λ names. look_up names c.args.name.now.text) c.as_slice.ensures in
    ends_alike c.run_assign.result _ _ (ap (λ target. go_on (form_value s c.args.env c.args.inner.now) (assign s c.args.path.now c.args.handed target)) target) c.run_assign.ensures

pub run_entry-returns : goal.run_entry-returns
run_entry-returns t c =
    let found = c.find-found.ensures ∙ ap (λ names. look_up names c.args.builder.now.text) c.as_slice.ensures in
    ends_alike c.entry_flow.result _ _ (λ i. go_on (c.in_ok-inner.ensures i) (entry_flow (found i) c.args.key.now)) c.entry_flow.ensures

pub run_form-returns-in-None : goal.run_form-returns-in-None
run_form-returns-in-None t c =
    let s = scene_at c.args.stage.now in
    let arm = c.in-MatchOrdering in
    rw (arm.is, form_value-MatchOrdering s c.args.env arm.matched arm.partial arm.held arm.greater arm.less, c.in-None.is, sym c.get-in-MatchOrdering.ensures)
    (rw c.in_ok-matched-in-MatchOrdering.ensures at c.take_arm.ensures)

pub run_form-returns-in-Some : goal.run_form-returns-in-Some
run_form-returns-in-Some t c =
    let s = scene_at c.args.stage.now in
    let arm = c.in-MatchOrdering in
    let flow = c.in_ok-matched-in-MatchOrdering.matched in
    let gives = subst (λ (x : Form). flow ≡ form_value s c.args.env x) c.get-in-MatchOrdering.ensures c.in_ok-matched-in-MatchOrdering.ensures in
    ends_alike c.run_at_equal.result _ _
    (sym (match_held s c.args.env c.args.form.now arm.matched arm.partial arm.held c.in-Some.block arm.greater arm.less flow arm.is c.in-Some.is gives))
    c.run_at_equal.ensures

pub run_form-returns-in-Some-true : goal.run_form-returns-in-Some-true
run_form-returns-in-Some-true t c =
    let s = scene_at c.args.stage.now in
    let arm = c.in-IfLet in
    let found = c.find-found.ensures ∙ ap (λ names. look_up names arm.name.text) c.as_slice-in-IfLet.ensures in
    let test = sym c.in_ok-fits_named-in-IfLet.ensures ∙ c.in-Some-true.is ∙ ap Some c.in-Some-true.field-0-test in
    ends_alike c.run_taken.result _ _
    (sym (if_let_known s c.args.env c.args.form.now arm.pattern arm.name arm.forms arm.others c.find-found.result true arm.is found test))
    c.run_taken.ensures

pub run_form-returns-in-Some-others : goal.run_form-returns-in-Some-others
run_form-returns-in-Some-others t c =
    let s = scene_at c.args.stage.now in
    let arm = c.in-IfLet in
    let found = c.find-found.ensures ∙ ap (λ names. look_up names arm.name.text) c.as_slice-in-IfLet.ensures in
    let test = sym c.in_ok-fits_named-in-IfLet.ensures ∙ c.in-Some-false.is ∙ ap Some c.in-Some-false.field-0-test in
    ends_alike c.run_inner.result _ _
    (
    ap (λ others. or_nothing c.args.env (held_list s others)) (sym c.in-Some-others.is)
    ∙ sym (if_let_known s c.args.env c.args.form.now arm.pattern arm.name arm.forms arm.others c.find-found.result false arm.is found test)
    )
    c.run_inner.ensures

pub run_form-returns-in-MatchValue : goal.run_form-returns-in-MatchValue
run_form-returns-in-MatchValue t c =
    let s = scene_at c.args.stage.now in
    let arm = c.in-MatchValue in
    ends_alike c.run_arms.result _ _
    (
    ap (λ arms. with_named s c.args.env (look_up c.args.env.names arm.name.text) (arms_list s c.args.env arms)) c.as_slice.ensures
    ∙ sym (ap (form_value s c.args.env) arm.is ∙ form_value-MatchValue s c.args.env arm.name arm.arms)
    )
    c.run_arms.ensures

pub run_form-returns-in-Construct : goal.run_form-returns-in-Construct
run_form-returns-in-Construct t c =
    let s = scene_at c.args.stage.now in
    let arm = c.in-Construct in
    ends_alike c.run_construct.result _ _ (sym (ap (form_value s c.args.env) arm.is ∙ form_value-Construct s c.args.env arm.name arm.field-1 arm.inits)) c.run_construct.ensures

pub run_form-returns-in_ok-inner-in-MethodArgument : goal.run_form-returns-in_ok-inner-in-MethodArgument
run_form-returns-in_ok-inner-in-MethodArgument t c =
    let s = scene_at c.args.stage.now in
    let arm = c.in-MethodArgument in
    let gives = c.in_ok-inner-in-MethodArgument.ensures ∙ ap (form_value s c.args.env) c.get-in-MethodArgument.ensures in
    ends_alike c.argument_flow.result _ _
    (
    (λ i. go_on (gives i) (argument_flow (c.get-in-MethodArgument-2.ensures i) arm.ty (c.get-in-MethodArgument-3.ensures i)))
    ∙ sym (ap (form_value s c.args.env) arm.is ∙ form_value-MethodArgument s c.args.env arm.own arm.inner arm.ty arm.path)
    )
    c.argument_flow.ensures

pub run_form-returns-in-Block : goal.run_form-returns-in-Block
run_form-returns-in-Block t c =
    let s = scene_at c.args.stage.now in
    ends_alike c.run_inner-in-Block.result _ _ (sym (ap (form_value s c.args.env) c.in-Block.is ∙ form_value-Block s c.args.env c.in-Block.forms)) c.run_inner-in-Block.ensures

pub run_call-returns-in-Returns : goal.run_call-returns-in-Returns
run_call-returns-in-Returns t c =
    let s = scene_at c.args.stage.now in
    let next = call_value s c.args.env.names c.args.path.now in
    sym (
    args_list-step s c.loop-argument.env c.as_slice-argument-items.result.now c.loop-argument.argument-index c.argument-item.result c.in_ok-next.field-0 (Returns c.in-Returns.end c.in-Returns.thing)
    (λ env more. next env (c.loop-argument.things ++ more)) c.loop-argument-test.true c.argument-item.is c.in_ok-next.ensures c.in-Returns.is
    )
    ∙ c.loop-argument.invariant.rest

pub run_call-returns-in-Stuck : goal.run_call-returns-in-Stuck
run_call-returns-in-Stuck t c =
    let s = scene_at c.args.stage.now in
    let next = call_value s c.args.env.names c.args.path.now in
    sym (
    args_list-step s c.loop-argument.env c.as_slice-argument-items.result.now c.loop-argument.argument-index c.argument-item.result c.in_ok-next.field-0 Stuck
    (λ env more. next env (c.loop-argument.things ++ more)) c.loop-argument-test.true c.argument-item.is c.in_ok-next.ensures c.in-Stuck.is
    )
    ∙ c.loop-argument.invariant.rest

pub run_call-loop-argument-preserved : goal.run_call-loop-argument-preserved
run_call-loop-argument-preserved t c =
    let s = scene_at c.args.stage.now in
    let next = call_value s c.args.env.names c.args.path.now in
    let forms = c.as_slice-argument-items.result.now in
    let before = c.loop-argument.things in
    record {
      rest = args_list-gathered s c.in-Gives.next c.args.stage.now.answers.now (callee_in c.args.env.names c.args.path.now) before c.in_ok-things-in-Gives.things c.in-Gives.thing (drop (c.loop-argument.argument-index + 1) forms) c.in_ok-things-in-Gives.ensures
          ∙ sym (
          args_list-step s c.loop-argument.env forms c.loop-argument.argument-index c.argument-item.result c.in_ok-next.field-0 (Gives c.in-Gives.next c.in-Gives.thing)
          (λ env more. next env (before ++ more)) c.loop-argument-test.true c.argument-item.is c.in_ok-next.ensures c.in-Gives.is
          )
          ∙ c.loop-argument.invariant.rest;
      same = c.loop-argument.invariant.same;
      all = counted-gathers before c.in_ok-things-in-Gives.things c.in-Gives.thing c.loop-argument.invariant.all c.in_ok-things-in-Gives.ensures;
    }

pub run_call-returns : goal.run_call-returns
run_call-returns t c =
    let s = scene_at c.args.stage.now in
    let next = call_value s c.args.env.names c.args.path.now in
    c.called.ensures ∙ (λ i. call_named c.args.stage.now.answers.now (c.loop-argument.invariant.same i) c.loop-argument.env (c.as_slice-2.ensures i))
    ∙ args_list-all s c.loop-argument.env c.as_slice-argument-items.result.now c.loop-argument.argument-index c.loop-argument.things next c.loop-argument-test.false
    ∙ c.loop-argument.invariant.rest

pub run_inits-loop-i-preserved : goal.run_inits-loop-i-preserved
run_inits-loop-i-preserved t c =
    let s = scene_at c.args.stage.now in
    let loop = c.loop-i in
    let inits = c.args.inits.now in
    let fields = c.args.fields.now in
    let next = built c.args.variant in
    let gives = c.in_ok-next.ensures ∙ ap (λ (scene : Scene). form_value scene loop.env c.index-inits-i.result.value) c.for_field.ensures in
    let test = sym c.has_key.ensures ∙ c.if-not-has_key.false in
    inits_list-gathered s c.in-Gives.next loop.values c.push.new.self c.in-Some.value (drop (loop.i + 1) inits) (drop (loop.i + 1) fields) next c.in_ok-push-in-Gives.ensures.ok
    ∙ sym (
    inits_list-step s loop.env c.in-Gives.next inits fields loop.i c.index-inits-i.result c.index-fields-i.result c.in_ok-next.field-0 c.in-Gives.thing c.in-Some.value (λ env more. next env (loop.values ++ more))
    c.loop-i-test.true c.if-i-fields.false c.index-inits-i.is c.index-fields-i.is test gives c.in-Gives.is (sym c.in-Some.ensures)
    )
    ∙ loop.invariant

pub run_inits-returns-then-inits-fields : goal.run_inits-returns-then-inits-fields
run_inits-returns-then-inits-fields t c =
    let s = scene_at c.args.stage.now in
    sym (inits_list-fewer s c.loop-i.env c.args.inits.now c.args.fields.now c.loop-i.i (λ env more. built c.args.variant env (c.loop-i.values ++ more)) c.loop-i-test.false (omega arith)) ∙ c.loop-i.invariant

pub run_inits-returns : goal.run_inits-returns
run_inits-returns t c =
    let s = scene_at c.args.stage.now in
    c.built.ensures c.loop-i.env
    ∙ inits_list-all s c.loop-i.env c.args.inits.now c.args.fields.now c.loop-i.i c.loop-i.values (built c.args.variant) c.loop-i-test.false (omega arith)
    ∙ c.loop-i.invariant
