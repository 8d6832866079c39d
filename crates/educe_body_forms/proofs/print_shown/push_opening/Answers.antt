use Rattle.std.proofs.Common.{sym, ap}
use Rattle.std.proofs.lemmas.Result.{on_ok_weaker}
use Rattle.educe_tokens.proofs.Appending.{Appends-append, Appends-same}
use Rattle.educe_body_forms.specs.ShownPrintouts.{opening_printout}
use Rattle.educe_body_forms.proofs.print_shown.push_opening.Goals as goal

pub returns-in_ok-quote-in-Struct-clause-ok : goal.returns-in_ok-quote-in-Struct-clause-ok
returns-in_ok-quote-in-Struct-clause-ok c =
    let same = sym (ap (λ opening. (opening_printout opening).tokens) c.in-Struct.is) in
    on_ok_weaker _ (λ back. Appends-same same (Appends-append c.in_ok-quote-in-Struct.ensures.ok back)) c.push_in_round.ensures.ok

pub returns-in_ok-quote-in-Tuple-clause-ok : goal.returns-in_ok-quote-in-Tuple-clause-ok
returns-in_ok-quote-in-Tuple-clause-ok c =
    let same = sym (ap (λ opening. (opening_printout opening).tokens) c.in-Tuple.is) in
    on_ok_weaker _ (λ back. Appends-same same (Appends-append c.in_ok-quote-in-Tuple.ensures.ok back)) c.push_in_round-in-Tuple.ensures.ok

pub returns-in-Map-clause-ok : goal.returns-in-Map-clause-ok
returns-in-Map-clause-ok c =
    let same = sym (ap (λ opening. (opening_printout opening).tokens) c.in-Map.is) in
    on_ok_weaker _ (λ found. Appends-same same found) c.quote-in-Map.ensures.ok
