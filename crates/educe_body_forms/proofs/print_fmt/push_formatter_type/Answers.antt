use Rattle.std.proofs.lemmas.Result.{on_ok_weaker}
use Rattle.educe_tokens.proofs.Appending.{Appends-append}
use Rattle.educe_body_forms.proofs.print_fmt.push_formatter_type.Goals as goal

pub returns-clause-ok : goal.returns-clause-ok
returns-clause-ok c = on_ok_weaker _ (λ back. Appends-append c.in_ok-quote.ensures.ok (Appends-append (Appends-append c.in_ok-quote-2.ensures.ok c.in_ok-push_lifetime.ensures.ok) back)) c.quote-3.ensures.ok
