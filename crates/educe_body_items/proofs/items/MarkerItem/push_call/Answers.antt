use Rattle.std.proofs.Common.{ap}
use Rattle.std.proofs.lemmas.Result.{on_ok_weaker}
use Rattle.educe_tokens.proofs.Appending.{Appends-append, Appends-same}
use Rattle.educe_body_items.specs.Items.{marker_arguments}
use Rattle.educe_body_items.proofs.items.MarkerItem.push_call.Goals as goal

pub returns-clause-ok : goal.returns-clause-ok
returns-clause-ok c =
    let same = ap (λ formatter. (marker_arguments formatter c.args.self.now.names).tokens) c.has_formatter.ensures in
    let inside = Appends-append c.in_ok-quote.ensures.ok (Appends-same same c.in_ok-push_arguments.ensures.ok) in
    on_ok_weaker _ (λ back. Appends-append c.in_ok-append_written.ensures.ok (Appends-append inside back)) c.quote-2.ensures.ok
