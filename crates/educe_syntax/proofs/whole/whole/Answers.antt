use Rattle.std.proofs.Common.{length, ap, sym, ◌∙◌, inr}
use Rattle.educe_grammar.specs.declared.parse_error.ParseError.TheVariants.{Syntax}
use Rattle.educe_grammar.specs.Noting.{forget}
use Rattle.educe_grammar.specs.Parsed.{refusal_of}
use Rattle.educe_syntax.proofs.Answering.{answered, stopped}
use Rattle.educe_syntax.proofs.whole.whole.Goals as goal

pub returns-in-Ok : goal.returns-in-Ok
returns-in-Ok g c = λ note program reads forgets.
    let got = reads.reads _ _ _ c.in-Ok.ensures in
    answered (program c.args.tokens.now) c.item.new.arg2.cursor c.in-Ok.found (ap program (sym c.new-input.ensures.cursor) ∙ sym (forgets c.new-input.result) ∙ ap forget got) (sym c.if-at_end.ensures)

pub returns-in-Ok-2 : goal.returns-in-Ok-2
returns-in-Ok-2 g c = λ note program reads forgets.
    let got = reads.reads _ _ _ c.in-Ok-2.ensures in
    let stop = stopped (program c.args.tokens.now) c.item.new.arg2.cursor c.in-Ok-2.field-0 (ap program (sym c.new-input.ensures.cursor) ∙ sym (forgets c.new-input.result) ∙ ap forget got) (sym c.if-at_end.ensures) in
    inr (Syntax (length c.item.new.arg2.cursor), stop, c.refusal.ensures ∙ (λ i. refusal_of (c.as_slice.ensures i) (c.refuse.ensures i)))
