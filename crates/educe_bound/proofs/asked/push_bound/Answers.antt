use Rattle.std.proofs.Common.{ℕ, List, ◌++◌, OnOk, codes, subst}
use Rattle.std.proofs.lemmas.Result.{on_ok_weaker}
use Rattle.educe_tokens.specs.Appends.{Appends}
use Rattle.educe_tokens.specs.Quote.{quoted}
use Rattle.educe_tokens.proofs.Appending.{Appends-append}
use Rattle.educe_bound.proofs.asked.push_bound.Goals as goal

pub returns : goal.returns
returns c =
    subst (λ (path : List ℕ). OnOk c.quote-2.result (Appends (quoted (codes ":") ++ quoted path) c.args.tokens.now c.quote-2.new.tokens)) c.trait_path.ensures
    (on_ok_weaker _ (λ back. Appends-append c.in_ok-quote.ensures.ok back) c.quote-2.ensures.ok)
