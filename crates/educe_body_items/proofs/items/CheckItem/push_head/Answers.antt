use Rattle.std.proofs.Common.{ap}
use Rattle.std.proofs.lemmas.Result.{on_ok_weaker}
use Rattle.educe_tokens.proofs.Appending.{Appends-append, Appends-same, HasPrefix-trans}
use Rattle.educe_body_items.specs.Headers.{params_printout, where_printout}
use Rattle.educe_body_items.proofs.items.CheckItem.push_head.Goals as goal

pub returns-clause-ok : goal.returns-clause-ok
returns-clause-ok c =
    let params = Appends-same (ap (λ params. (params_printout params).tokens) c.as_slice.ensures) c.in_ok-push_params.ensures.ok in
    let front = Appends-append (Appends-append (Appends-append c.in_ok-quote.ensures.ok c.in_ok-push_name.ensures.ok) params) c.in_ok-quote-2.ensures.ok in
    let predicates = ap (λ predicates. (where_printout predicates).tokens) c.as_slice-2.ensures in
    on_ok_weaker _ (λ back. Appends-append front (Appends-same predicates back)) c.push_where.ensures.ok

pub returns-clause-prefix : goal.returns-clause-prefix
returns-clause-prefix c =
    let front = HasPrefix-trans c.in_ok-quote.ensures.prefix c.in_ok-push_name.ensures.prefix in
    let inside = HasPrefix-trans (HasPrefix-trans front c.in_ok-push_params.ensures.prefix) c.in_ok-quote-2.ensures.prefix in
    HasPrefix-trans inside c.push_where.ensures.prefix
