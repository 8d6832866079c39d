use Rattle.std.proofs.lemmas.Result.{on_ok_weaker}
use Rattle.educe_tokens.proofs.Appending.{Appends-append, HasPrefix-trans}
use Rattle.educe_body_items.proofs.print_constructors.push_documentation.Goals as goal

pub returns-clause-ok : goal.returns-clause-ok
returns-clause-ok c =
    let inside = Appends-append c.in_ok-quote-3.ensures.ok c.in_ok-push_documentation_text.ensures.ok in
    on_ok_weaker _ (λ back. Appends-append c.in_ok-quote.ensures.ok (Appends-append (Appends-append c.in_ok-quote-2.ensures.ok inside) back)) c.quote-4.ensures.ok

pub returns-clause-prefix : goal.returns-clause-prefix
returns-clause-prefix c =
    let front = HasPrefix-trans c.in_ok-quote.ensures.prefix c.in_ok-quote-2.ensures.prefix in
    let inside = HasPrefix-trans (HasPrefix-trans front c.in_ok-quote-3.ensures.prefix) c.in_ok-push_documentation_text.ensures.prefix in
    HasPrefix-trans inside c.quote-4.ensures.prefix
