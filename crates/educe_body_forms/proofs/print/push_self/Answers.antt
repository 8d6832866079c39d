use Rattle.std.proofs.Common.{sym, ap}
use Rattle.std.proofs.lemmas.Result.{on_ok_weaker}
use Rattle.educe_tokens.proofs.Appending.{Appends-append, Appends-same}
use Rattle.educe_body_forms.specs.Tokens.{self_printout}
use Rattle.educe_body_forms.proofs.print.push_self.Goals as goal

pub returns-in_ok-quote-in-Some-clause-ok : goal.returns-in_ok-quote-in-Some-clause-ok
returns-in_ok-quote-in-Some-clause-ok c =
    let same = sym (ap (λ variant. (self_printout variant).tokens) c.in-Some.is) in
    on_ok_weaker _ (λ back. Appends-same same (Appends-append c.in_ok-quote-in-Some.ensures.ok back)) c.to_tokens.ensures.ok
