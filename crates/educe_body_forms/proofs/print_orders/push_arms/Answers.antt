use Rattle.std.proofs.lemmas.Result.{on_ok_weaker}
use Rattle.educe_tokens.proofs.Appending.{Appends-append, HasPrefix-trans}
use Rattle.educe_body_forms.proofs.print_orders.push_arms.Goals as goal

pub returns-clause-ok : goal.returns-clause-ok
returns-clause-ok c =
    let equal = Appends-append c.in_ok-push_answer.ensures.ok c.in_ok-quote.ensures.ok in
    let arms = Appends-append (Appends-append equal c.in_ok-push_returning_arm.ensures.ok) c.in_ok-push_returning_arm-2.ensures.ok in
    on_ok_weaker _ (λ back. Appends-append arms back) c.push_none_arm.ensures.ok

pub returns-clause-prefix : goal.returns-clause-prefix
returns-clause-prefix c =
    let equal = HasPrefix-trans c.in_ok-push_answer.ensures.prefix c.in_ok-quote.ensures.prefix in
    let arms = HasPrefix-trans (HasPrefix-trans equal c.in_ok-push_returning_arm.ensures.prefix) c.in_ok-push_returning_arm-2.ensures.prefix in
    HasPrefix-trans arms c.push_none_arm.ensures.prefix
