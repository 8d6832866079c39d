use Rattle.std.proofs.Common.{ap}
use Rattle.std.proofs.lemmas.Result.{on_ok_weaker}
use Rattle.educe_tokens.proofs.Appending.{Appends-append, Appends-same}
use Rattle.educe_body_items.specs.Items.{marker_formatter}
use Rattle.educe_body_items.proofs.items.MarkerItem.push_parameters.Goals as goal

pub returns-clause-ok : goal.returns-clause-ok
returns-clause-ok c =
    let same = ap (λ formatter. (marker_formatter formatter c.args.self.now.names).tokens) c.has_formatter.ensures in
    on_ok_weaker _ (λ back. Appends-append c.in_ok-push_value.ensures.ok (Appends-same same back)) c.push_formatter.ensures.ok
