use Rattle.std.proofs.Common.{sym, ap}
use Rattle.std.proofs.lemmas.Result.{on_ok_weaker}
use Rattle.educe_tokens.proofs.Appending.{Appends-append, Appends-same}
use Rattle.educe_body_forms.specs.Tokens.{key_printout}
use Rattle.educe_body_forms.proofs.print_patterns.push_key.Goals as goal

pub returns-in_ok-push_word-in-Some-clause-ok : goal.returns-in_ok-push_word-in-Some-clause-ok
returns-in_ok-push_word-in-Some-clause-ok c =
    let same = sym (ap (λ key. (key_printout key).tokens) c.in-Some.is) in
    on_ok_weaker _ (λ back. Appends-same same (Appends-append c.in_ok-push_word-in-Some.ensures.ok back)) c.quote.ensures.ok
