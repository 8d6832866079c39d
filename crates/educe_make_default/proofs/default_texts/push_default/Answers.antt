use Rattle.std.proofs.lemmas.Result.{on_ok_weaker}
use Rattle.educe_tokens.proofs.Appending.{Appends-append}
use Rattle.educe_make_default.proofs.default_texts.push_default.Goals as goal

pub returns : goal.returns
returns c =
    on_ok_weaker _ (λ back. Appends-append c.in_ok-quote.ensures.ok (Appends-append c.in_ok-append_written.ensures.ok back)) c.quote-2.ensures.ok
