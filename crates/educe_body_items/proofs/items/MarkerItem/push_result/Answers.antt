use Rattle.std.proofs.Common.{sym, ap}
use Rattle.std.proofs.lemmas.Result.{on_ok_weaker}
use Rattle.educe_tokens.proofs.Appending.{Appends-append, Appends-same}
use Rattle.educe_body_items.specs.Items.{marker_result}
use Rattle.educe_body_items.proofs.items.MarkerItem.push_result.Goals as goal

pub returns-in_ok-quote-clause-ok : goal.returns-in_ok-quote-clause-ok
returns-in_ok-quote-clause-ok c =
    let same = ap (λ formatter. (marker_result formatter c.args.self.now.ty).tokens) (sym c.if-formatter.false) in
    on_ok_weaker _ (λ back. Appends-same same (Appends-append c.in_ok-quote.ensures.ok back)) c.append_written.ensures.ok
