use Rattle.std.proofs.Common.{ap}
use Rattle.std.proofs.lemmas.Result.{on_ok_weaker}
use Rattle.educe_tokens.specs.Copied.{copied}
use Rattle.educe_tokens.specs.Lexes.{lexemes}
use Rattle.educe_tokens.proofs.Appending.{Appends-append, Appends-same}
use Rattle.educe_attrs_generated.proofs.lints.push_allowing.Goals as goal

pub returns : goal.returns
returns c =
    let lints = Appends-same (ap (λ ts. copied (lexemes ts)) c.new.ensures) c.in_ok-append_written.ensures.ok in
    on_ok_weaker _ (λ back. Appends-append c.in_ok-quote.ensures.ok (Appends-append lints back)) c.quote-2.ensures.ok
