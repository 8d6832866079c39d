use Rattle.std.proofs.lemmas.Result.{on_ok_weaker}
use Rattle.educe_tokens.specs.Quote.{quoted}
use Rattle.educe_tokens.proofs.Appending.{Appends-append}
use Rattle.educe_body_forms.proofs.print_arguments.push_closure_head.Goals as goal

pub returns-clause-ok : goal.returns-clause-ok
unfolding quoted
returns-clause-ok c =
    let front = Appends-append c.in_ok-push_filled.ensures.ok c.in_ok-append_written.ensures.ok in
    on_ok_weaker c.push_filled-2.result (λ back. Appends-append front back) c.push_filled-2.ensures.ok
