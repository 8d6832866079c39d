use Rattle.std.proofs.Common.{sym, ap}
use Rattle.std.proofs.lemmas.Result.{on_ok_weaker}
use Rattle.educe_tokens.proofs.Appending.{Appends-append, Appends-same}
use Rattle.educe_body_items.specs.Items.{marker_arguments}
use Rattle.educe_body_items.proofs.items.MarkerItem.push_arguments.Goals as goal

pub returns-in_ok-quote-clause-ok : goal.returns-in_ok-quote-clause-ok
returns-in_ok-quote-clause-ok c =
    let same = ap (λ formatter. (marker_arguments formatter c.args.self.now.names).tokens) (sym c.if-formatter.true) in
    let front = Appends-append c.in_ok-push_name.ensures.ok c.in_ok-quote.ensures.ok in
    on_ok_weaker _ (λ back. Appends-same same (Appends-append front back)) c.push_name-then-formatter.ensures.ok
