use Rattle.std.proofs.lemmas.Result.{on_ok_weaker}
use Rattle.educe_tokens.specs.Quote.{quoted}
use Rattle.educe_tokens.proofs.Appending.{Appends-append}
use Rattle.educe_body_forms.proofs.print_arguments.push_method_closure.Goals as goal

pub returns-clause-ok : goal.returns-clause-ok
unfolding quoted
returns-clause-ok c =
    let front = c.in_ok-push_closure_head.ensures.ok in
    on_ok_weaker c.push_filled.result (λ back. Appends-append front (Appends-append c.in_ok-append_written.ensures.ok back)) c.push_filled.ensures.ok
