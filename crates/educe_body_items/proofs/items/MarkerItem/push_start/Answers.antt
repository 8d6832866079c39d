use Rattle.std.proofs.Common.{ap}
use Rattle.std.proofs.lemmas.Result.{on_ok_weaker}
use Rattle.educe_tokens.proofs.Appending.{Appends-append, Appends-same}
use Rattle.educe_body_items.specs.Headers.{params_printout}
use Rattle.educe_body_items.proofs.items.MarkerItem.push_start.Goals as goal

pub returns-clause-ok : goal.returns-clause-ok
returns-clause-ok c =
    let params = Appends-same (ap (λ params. (params_printout params).tokens) c.as_slice.ensures) c.in_ok-push_params.ensures.ok in
    let front = Appends-append (Appends-append c.in_ok-quote.ensures.ok c.in_ok-push_name.ensures.ok) params in
    on_ok_weaker _ (λ back. Appends-append front back) c.push_in_round.ensures.ok
