use Rattle.std.proofs.Common.{sym, ◌∙◌}
use Rattle.std.proofs.lemmas.Result.{on_ok_weaker}
use Rattle.educe_tokens.proofs.Appending.{Appends-append, Appends-same}
use Rattle.educe_body_forms.specs.Printouts.{in_angle}
use Rattle.educe_body_items.specs.Headers.{argument_printout}
use Rattle.educe_body_forms.specs.Printing.{separated}
use Rattle.educe_body_forms.proofs.Separated.{unless_empty-some}
use Rattle.educe_body_items.proofs.print_headers.push_type_arguments.Goals as goal

pub returns-clause-ok : goal.returns-clause-ok
returns-clause-ok c =
    let params = c.args.params.now in
    let some = unless_empty-some params (in_angle (separated argument_printout params)) (sym c.is_empty.ensures ∙ c.if-is_empty.false) in
    let front = Appends-append c.in_ok-quote.ensures.ok c.in_ok-push_each_type_argument.ensures.ok in
    on_ok_weaker _ (λ back. Appends-same (sym some) (Appends-append front back)) c.quote-2.ensures.ok
