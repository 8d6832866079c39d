use Rattle.std.proofs.Common.{◌≡◌, ◌∙◌, IfOk, ap, subst}
use Rattle.educe_body_values.specs.declared.flow.Flow.{Flow}
use Rattle.educe_body_values.specs.Meaning.{call_named, go_on, if_made, stored}
use Rattle.educe_body_values.specs.Scoping.{callee_in}
use Rattle.educe_body_values.proofs.Rows.{call_named-gathered}
use Rattle.educe_body_eval.proofs.assigning.assign_call.Goals as goal

pub returns : goal.returns
returns c =
    let table = c.args.stage.now.answers.now in
    let callee = c.in_ok-callee.ensures ∙ ap (λ names. callee_in names c.args.path.now) c.as_slice.ensures in
    let made = c.called-made.ensures
    ∙ (λ i. call_named table (callee i) c.args.env (c.as_slice-2.ensures i))
    ∙ call_named-gathered table (callee_in c.args.env.names c.args.path.now) c.args.env c.args.front c.in_ok-arguments.arguments c.args.thing c.in_ok-arguments.ensures in
    subst (λ (made : Flow). IfOk c.store.result (λ flow. flow ≡ go_on made (if_made (stored c.args.target.now)))) made c.store.ensures
