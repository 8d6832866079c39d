use Rattle.std.proofs.Common.{ap}
use Rattle.std.proofs.lemmas.Result.{on_ok_weaker}
use Rattle.educe_tokens.proofs.Appending.{Appends-append, Appends-same, HasPrefix-trans}
use Rattle.educe_body_forms.specs.Printouts.{each}
use Rattle.educe_body_items.specs.Items.{check_call}
use Rattle.educe_body_items.proofs.items.CheckItem.push_function.Goals as goal

pub returns-clause-ok : goal.returns-clause-ok
returns-clause-ok c =
    let calls = Appends-same (ap (λ types. (each (check_call c.args.self.now.names) types).tokens) c.as_slice.ensures) c.in_ok-push_calls.ensures.ok in
    on_ok_weaker _ (λ back. Appends-append c.in_ok-push_head.ensures.ok (Appends-append (Appends-append c.in_ok-quote.ensures.ok (Appends-append c.in_ok-push_inner.ensures.ok calls)) back)) c.quote-2.ensures.ok

pub returns-clause-prefix : goal.returns-clause-prefix
returns-clause-prefix c =
    let front = HasPrefix-trans c.in_ok-push_head.ensures.prefix c.in_ok-quote.ensures.prefix in
    let inside = HasPrefix-trans (HasPrefix-trans front c.in_ok-push_inner.ensures.prefix) c.in_ok-push_calls.ensures.prefix in
    HasPrefix-trans inside c.quote-2.ensures.prefix
