use Rattle.std.proofs.Common.{chars, arith, rules}
use Rattle.educe_tokens_pieces.proofs.RawInPlace.{marks_more}
use Rattle.educe_tokens_pieces.proofs.raw_strings.split_marks.Goals as goal

pub loop-more-preserved : goal.loop-more-preserved
loop-more-preserved c = record {
  utf8 = search rules;
  parts = marks_more (chars c.args.text.now) (chars c.loop-more.rest.now) (chars c.in-Some.more.now) c.loop-more.count c.loop-more.invariant.parts c.in-Some.ensures.parts;
  room = omega (arith, c.loop-more.invariant.room, c.in-Some.ensures.shorter);
}
