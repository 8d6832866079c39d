use Rattle.std.proofs.lemmas.Result.{on_ok_weaker}
use Rattle.educe_tokens.proofs.Appending.{Appends-append}
use Rattle.educe_body_forms.proofs.print_fmt.push_fmt_head.Goals as goal

pub returns-clause-ok : goal.returns-clause-ok
returns-clause-ok g c =
    let front = Appends-append c.in_ok-quote.ensures.ok c.in_ok-push_fmt_params.ensures.ok in
    on_ok_weaker _ (λ back. Appends-append front back) c.push_fmt_result.ensures.ok
