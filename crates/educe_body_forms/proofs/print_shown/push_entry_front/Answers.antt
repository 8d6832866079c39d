use Rattle.std.proofs.Common.{sym, ap}
use Rattle.std.proofs.lemmas.Result.{on_ok_weaker}
use Rattle.educe_tokens.proofs.Appending.{Appends-append, Appends-same}
use Rattle.educe_body_forms.specs.ShownPrintouts.{entry_front}
use Rattle.educe_body_forms.proofs.print_shown.push_entry_front.Goals as goal

pub returns-then-by_reference-clause-ok : goal.returns-then-by_reference-clause-ok
returns-then-by_reference-clause-ok c =
    let same = sym (ap (λ by_reference. (entry_front c.args.key.now by_reference).tokens) c.if-by_reference.true) in
    on_ok_weaker _ (λ back. Appends-same same (Appends-append c.in_ok-push_entry_key.ensures.ok back)) c.quote.ensures.ok
