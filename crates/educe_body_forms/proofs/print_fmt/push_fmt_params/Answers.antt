use Rattle.std.proofs.lemmas.Result.{on_ok_weaker}
use Rattle.educe_tokens.proofs.Appending.{Appends-append}
use Rattle.educe_body_forms.proofs.print_fmt.push_fmt_params.Goals as goal

pub returns-clause-ok : goal.returns-clause-ok
returns-clause-ok g c =
    let front = Appends-append c.in_ok-quote.ensures.ok (Appends-append c.in_ok-quote-2.ensures.ok c.in_ok-push_formatter_param.ensures.ok) in
    on_ok_weaker _ (λ back. Appends-append front back) c.quote-3.ensures.ok
