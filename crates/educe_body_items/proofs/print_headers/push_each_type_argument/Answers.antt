use Rattle.std.proofs.Common.{sym, ap, arith}
use Rattle.educe_tokens.proofs.Appending.{Appends-append, Appends-same}
use Rattle.educe_body_items.specs.Headers.{argument_printout}
use Rattle.educe_body_forms.proofs.Separated.{separated-take}
use Rattle.educe_body_items.proofs.print_headers.push_each_type_argument.Goals as goal

pub loop-i-preserved : goal.loop-i-preserved
loop-i-preserved c =
    let param = c.index-params-i.result in
    let one = Appends-same (ap (λ param. (argument_printout param).tokens) c.index-params-i.is) c.in_ok-push_type_argument.ensures.ok in
    let more = separated-take argument_printout c.args.params.now c.loop-i.i param (omega arith) in
    Appends-same (sym more) (Appends-append c.loop-i.invariant (Appends-append c.in_ok-push_comma.ensures.ok one))
