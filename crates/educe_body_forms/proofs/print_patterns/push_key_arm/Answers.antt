use Rattle.std.proofs.lemmas.Result.{on_ok_weaker}
use Rattle.educe_tokens.proofs.Appending.{Appends-append}
use Rattle.educe_body_forms.proofs.print_patterns.push_key_arm.Goals as goal

pub returns-clause-ok : goal.returns-clause-ok
returns-clause-ok c =
    let front = Appends-append c.in_ok-push_pattern.ensures.ok c.in_ok-quote.ensures.ok in
    on_ok_weaker _ (λ back. Appends-append (Appends-append front c.in_ok-push_constant.ensures.ok) back) c.quote-2.ensures.ok
