use Rattle.std.proofs.lemmas.Result.{on_ok_weaker}
use Rattle.educe_tokens.proofs.Appending.{Appends-append}
use Rattle.educe_body_forms.proofs.ident_or_index.IdentOrIndex.push_name.Goals as goal

pub returns-in_ok-to_tokens-in-Ident-clause-ok : goal.returns-in_ok-to_tokens-in-Ident-clause-ok
returns-in_ok-to_tokens-in-Ident-clause-ok c =
    rw c.in-Ident.is (on_ok_weaker _ (λ back. Appends-append c.in_ok-to_tokens-in-Ident.ensures.ok back) c.quote.ensures.ok)
