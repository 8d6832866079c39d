use Rattle.std.proofs.lemmas.Result.{on_ok_weaker}
use Rattle.educe_tokens.proofs.Appending.{Appends-append}
use Rattle.educe_attrs_generated.proofs.lints.push_value.Goals as goal

pub returns : goal.returns
returns c =
    let path = c.in_ok-append_written.ensures.ok in
    let value = Appends-append c.in_ok-quote-2.ensures.ok c.in_ok-append_written-2.ensures.ok in
    on_ok_weaker _ (λ back. Appends-append c.in_ok-quote.ensures.ok (Appends-append path (Appends-append value back))) c.quote-3.ensures.ok
