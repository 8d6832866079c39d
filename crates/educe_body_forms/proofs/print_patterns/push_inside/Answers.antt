use Rattle.std.proofs.Common.{sym, ap}
use Rattle.std.proofs.lemmas.Result.{on_ok_weaker}
use Rattle.educe_tokens.proofs.Appending.{Appends-append, Appends-same}
use Rattle.educe_body_forms.specs.Tokens.{base_printout, constant_inside}
use Rattle.educe_body_forms.proofs.print_patterns.push_inside.Goals as goal

pub returns-in_ok-push_base-in-Some-clause-ok : goal.returns-in_ok-push_base-in-Some-clause-ok
returns-in_ok-push_base-in-Some-clause-ok c =
    let same = sym (ap (λ distance. (constant_inside c.args.constant.now.value distance).tokens) c.in-Some.is) in
    let base = Appends-same (ap (λ value. (base_printout value c.in-Some.distance).tokens) c.get-value.ensures) c.in_ok-push_base-in-Some.ensures.ok in
    on_ok_weaker _ (λ back. Appends-same same (Appends-append base back)) c.push_sum.ensures.ok
