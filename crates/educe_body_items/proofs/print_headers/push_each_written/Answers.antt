use Rattle.std.proofs.Common.{sym, ap, ◌∙◌, arith}
use Rattle.educe_tokens.specs.WrittenLexemes.{written_lexemes}
use Rattle.educe_tokens.proofs.Appending.{Appends-append, Appends-same}
use Rattle.educe_body_forms.specs.Printouts.{written}
use Rattle.educe_body_forms.proofs.Separated.{separated-take}
use Rattle.educe_body_items.proofs.print_headers.push_each_written.Goals as goal

pub loop-i-preserved : goal.loop-i-preserved
loop-i-preserved g c =
    let item = c.index-items-i.result in
    let held = c.written.ensures ∙ ap g.T.AsWritten.held c.index-items-i.is in
    let one = Appends-same (ap written_lexemes held) c.in_ok-append_written.ensures.ok in
    let more = separated-take (λ item. written (g.T.AsWritten.held item)) c.args.items.now c.loop-i.i item (omega arith) in
    Appends-same (sym more) (Appends-append c.loop-i.invariant (Appends-append c.in_ok-push_comma.ensures.ok one))
