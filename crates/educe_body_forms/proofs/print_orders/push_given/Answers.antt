use Rattle.std.proofs.Common.{sym, ap}
use Rattle.std.proofs.lemmas.Result.{on_ok_weaker}
use Rattle.educe_tokens.proofs.Appending.{Appends-append, Appends-same}
use Rattle.educe_body_forms.specs.Tokens.{given_printout}
use Rattle.educe_body_forms.proofs.print_orders.push_given.Goals as goal

pub returns-in_ok-push_some_order-clause-ok : goal.returns-in_ok-push_some_order-clause-ok
returns-in_ok-push_some_order-clause-ok c =
    let same = sym (ap (λ partial. (given_printout partial c.args.order).tokens) c.if-partial.true) in
    let front = Appends-append c.in_ok-quote.ensures.ok c.in_ok-push_some_order.ensures.ok in
    on_ok_weaker _ (λ back. Appends-same same (Appends-append front back)) c.quote-then-partial.ensures.ok
