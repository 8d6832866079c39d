use Rattle.std.proofs.Common.{sym, ap}
use Rattle.std.proofs.lemmas.Result.{on_ok_weaker}
use Rattle.educe_tokens.proofs.Appending.{Appends-append, Appends-same}
use Rattle.educe_body_items.specs.Items.{marker_formatter}
use Rattle.educe_body_items.proofs.items.MarkerItem.push_formatter.Goals as goal

pub returns-in_ok-push_formatter_param-clause-ok : goal.returns-in_ok-push_formatter_param-clause-ok
returns-in_ok-push_formatter_param-clause-ok c =
    let same = ap (λ formatter. (marker_formatter formatter c.args.self.now.names).tokens) (sym c.if-formatter.true) in
    on_ok_weaker _ (λ back. Appends-same same (Appends-append c.in_ok-push_formatter_param.ensures.ok back)) c.quote.ensures.ok
