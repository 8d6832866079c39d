use Rattle.std.proofs.Common.{ap}
use Rattle.std.proofs.lemmas.Result.{on_ok_weaker}
use Rattle.educe_tokens.proofs.Appending.{Appends-append, Appends-same}
use Rattle.educe_body_items.specs.Headers.{where_printout}
use Rattle.educe_body_items.specs.Items.{marker_result}
use Rattle.educe_body_items.proofs.items.MarkerItem.push_head.Goals as goal

pub returns-clause-ok : goal.returns-clause-ok
returns-clause-ok c =
    let same = ap (λ formatter. (marker_result formatter c.args.self.now.ty).tokens) c.has_formatter.ensures in
    let front = Appends-append c.in_ok-push_start.ensures.ok (Appends-same same c.in_ok-push_result.ensures.ok) in
    let predicates = ap (λ predicates. (where_printout predicates).tokens) c.as_slice.ensures in
    on_ok_weaker _ (λ back. Appends-append front (Appends-same predicates back)) c.push_where.ensures.ok
