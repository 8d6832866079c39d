use Rattle.std.proofs.Common.{sym, ap}
use Rattle.std.proofs.lemmas.Result.{on_ok_weaker}
use Rattle.educe_tokens.proofs.Appending.{Appends-append, Appends-same}
use Rattle.educe_body_forms.specs.ShownPrintouts.{entry_key}
use Rattle.educe_body_forms.proofs.print_shown.push_entry_key.Goals as goal

pub returns-in_ok-push_literal-in-Named-clause-ok : goal.returns-in_ok-push_literal-in-Named-clause-ok
returns-in_ok-push_literal-in-Named-clause-ok c =
    let same = sym (ap (λ key. (entry_key key).tokens) c.in-Named.is) in
    on_ok_weaker _ (λ back. Appends-same same (Appends-append c.in_ok-push_literal-in-Named.ensures.ok back)) c.quote.ensures.ok

pub returns-in_ok-push_in_round-in-Mapped-clause-ok : goal.returns-in_ok-push_in_round-in-Mapped-clause-ok
returns-in_ok-push_in_round-in-Mapped-clause-ok c =
    let same = sym (ap (λ key. (entry_key key).tokens) c.in-Mapped.is) in
    let front = Appends-append (Appends-append c.in_ok-quote-in-Mapped.ensures.ok c.in_ok-to_tokens-in-Mapped.ensures.ok) c.in_ok-push_in_round-in-Mapped.ensures.ok in
    on_ok_weaker _ (λ back. Appends-same same (Appends-append front back)) c.quote-in-Mapped-2.ensures.ok
