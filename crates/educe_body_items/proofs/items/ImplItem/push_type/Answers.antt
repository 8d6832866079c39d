use Rattle.std.proofs.Common.{ap}
use Rattle.std.proofs.lemmas.Result.{on_ok_weaker}
use Rattle.educe_tokens.proofs.Appending.{Appends-append, Appends-same}
use Rattle.educe_body_items.specs.Headers.{arguments_printout, where_printout}
use Rattle.educe_body_items.proofs.items.ImplItem.push_type.Goals as goal

pub returns-clause-ok : goal.returns-clause-ok
returns-clause-ok c =
    let names = Appends-same (ap (λ params. (arguments_printout params).tokens) c.as_slice.ensures) c.in_ok-push_type_arguments.ensures.ok in
    let predicates = ap (λ predicates. (where_printout predicates).tokens) c.as_slice-2.ensures in
    on_ok_weaker _ (λ back. Appends-append (Appends-append c.in_ok-to_tokens.ensures.ok names) (Appends-same predicates back)) c.push_where.ensures.ok
