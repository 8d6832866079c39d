use Rattle.std.proofs.lemmas.Result.{on_ok_weaker}
use Rattle.educe_tokens.proofs.Appending.{Appends-append, HasPrefix-trans}
use Rattle.educe_body_items.proofs.items.ImplItem.push_inherent.Goals as goal

pub returns-clause-ok : goal.returns-clause-ok
returns-clause-ok c =
    on_ok_weaker _ (λ back. Appends-append (Appends-append c.in_ok-push_start.ensures.ok c.in_ok-push_type.ensures.ok) (Appends-append (Appends-append c.in_ok-quote.ensures.ok c.in_ok-push_constructors.ensures.ok) back)) c.quote-2.ensures.ok

pub returns-clause-prefix : goal.returns-clause-prefix
returns-clause-prefix c =
    let head = HasPrefix-trans c.in_ok-push_start.ensures.prefix c.in_ok-push_type.ensures.prefix in
    let inside = HasPrefix-trans (HasPrefix-trans head c.in_ok-quote.ensures.prefix) c.in_ok-push_constructors.ensures.prefix in
    HasPrefix-trans inside c.quote-2.ensures.prefix
