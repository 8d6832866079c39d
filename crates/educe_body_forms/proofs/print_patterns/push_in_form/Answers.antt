use Rattle.std.proofs.Common.{sym, ap}
use Rattle.std.proofs.lemmas.Result.{on_ok_weaker}
use Rattle.educe_tokens.proofs.Appending.{Appends-append, Appends-same}
use Rattle.educe_body_forms.specs.Tokens.{fields_printout, in_form}
use Rattle.educe_body_forms.proofs.print_patterns.push_in_form.Goals as goal

pub returns-in_ok-push_fields-in-Named-clause-ok :
    goal.returns-in_ok-push_fields-in-Named-clause-ok
returns-in_ok-push_fields-in-Named-clause-ok c =
    let pattern = c.args.pattern.now in
    let same = sym (ap (λ form. (in_form form (fields_printout pattern.rest pattern.fields)).tokens) c.in-Named.is) in
    let front = Appends-append c.in_ok-quote-in-Named.ensures.ok c.in_ok-push_fields-in-Named.ensures.ok in
    on_ok_weaker _ (λ back. Appends-same same (Appends-append front back)) c.quote-in-Named.ensures.ok

pub returns-in_ok-push_fields-in-Unnamed-clause-ok :
    goal.returns-in_ok-push_fields-in-Unnamed-clause-ok
returns-in_ok-push_fields-in-Unnamed-clause-ok c =
    let pattern = c.args.pattern.now in
    let same = sym (ap (λ form. (in_form form (fields_printout pattern.rest pattern.fields)).tokens) c.in-Unnamed.is) in
    let front = Appends-append c.in_ok-quote-in-Unnamed.ensures.ok c.in_ok-push_fields-in-Unnamed.ensures.ok in
    on_ok_weaker _ (λ back. Appends-same same (Appends-append front back)) c.quote-in-Unnamed-2.ensures.ok
