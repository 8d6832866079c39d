use Rattle.std.proofs.lemmas.Result.{on_ok_weaker}
use Rattle.educe_tokens.proofs.Appending.{Appends-append}
use Rattle.educe_body_forms.proofs.print_orders.push_giving_arm.Goals as goal

pub returns-clause-ok : goal.returns-clause-ok
returns-clause-ok c =
    let front = Appends-append c.in_ok-push_order.ensures.ok c.in_ok-quote.ensures.ok in
    on_ok_weaker _ (λ back. Appends-append (Appends-append front c.in_ok-push_given.ensures.ok) back) c.quote-2.ensures.ok
