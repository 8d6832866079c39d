use Rattle.std.proofs.lemmas.Result.{on_ok_weaker}
use Rattle.educe_tokens.proofs.Appending.{Appends-append}
use Rattle.educe_body_items.proofs.print_checks.push_constant.Goals as goal

pub returns-clause-ok : goal.returns-clause-ok
returns-clause-ok c =
    on_ok_weaker _ (λ back. Appends-append c.in_ok-append_written.ensures.ok back) c.quote.ensures.ok
