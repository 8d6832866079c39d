use Rattle.std.proofs.Common.{◌∙◌, sym, arith}
use Rattle.educe_tokens_pieces.proofs.CommentLaws.{ahead_inner, ahead_opens, ahead_on, ahead_end}
use Rattle.educe_tokens_pieces.proofs.comments.closing_len.Goals as goal

pub loop-i-preserved-then-closes : goal.loop-i-preserved-then-closes
loop-i-preserved-then-closes c = record {
  ahead = c.loop-i.invariant.ahead ∙ ahead_inner c.args.text.now c.loop-i.i c.loop-i.inner c.index-text-i.result c.index-text-i-in-loop-i.result
      c.loop-i-test.true c.index-text-i.is c.index-text-i-in-loop-i.is (sym c.closes.ensures ∙ c.if-closes.true) c.if-inner-eq0.false;
  depth = omega arith;
  in_range = omega arith;
}

pub loop-i-preserved-then-opens : goal.loop-i-preserved-then-opens
loop-i-preserved-then-opens c = record {
  ahead = c.loop-i.invariant.ahead ∙ ahead_opens c.args.text.now c.loop-i.i c.loop-i.inner c.index-text-i.result c.index-text-i-in-loop-i.result
      c.loop-i-test.true c.index-text-i.is c.index-text-i-in-loop-i.is (sym c.closes.ensures ∙ c.if-closes.false) (sym c.opens.ensures ∙ c.if-opens.true);
  depth = omega arith;
  in_range = omega arith;
}

pub loop-i-preserved : goal.loop-i-preserved
loop-i-preserved c = record {
  ahead = c.loop-i.invariant.ahead ∙ ahead_on c.args.text.now c.loop-i.i c.loop-i.inner c.index-text-i.result c.index-text-i-in-loop-i.result
      c.loop-i-test.true c.index-text-i.is c.index-text-i-in-loop-i.is (sym c.closes.ensures ∙ c.if-closes.false) (sym c.opens.ensures ∙ c.if-opens.false);
  depth = omega arith;
  in_range = omega arith;
}

pub returns-clause-value : goal.returns-clause-value
returns-clause-value c = sym (c.loop-i.invariant.ahead ∙ ahead_end c.args.text.now c.loop-i.i c.loop-i.inner c.loop-i-test.false)
