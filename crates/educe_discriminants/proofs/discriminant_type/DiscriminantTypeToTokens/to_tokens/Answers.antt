use Rattle.std.proofs.Common.{ap}
use Rattle.std.proofs.lemmas.Result.{on_ok_weaker}
use Rattle.educe_tokens.specs.Quote.{quoted}
use Rattle.educe_tokens.proofs.Appending.{Appends-append, Appends-same}
use Rattle.educe_discriminants.proofs.discriminant_type.DiscriminantTypeToTokens.to_tokens.Goals as goal

pub returns-clause-ok : goal.returns-clause-ok
returns-clause-ok c = on_ok_weaker _ (λ back. Appends-append c.in_ok-quote.ensures.ok (Appends-same (ap quoted c.as_str.ensures.bytes) back)) c.quote-2.ensures.ok
