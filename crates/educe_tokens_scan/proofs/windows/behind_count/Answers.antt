use Rattle.std.proofs.Common.{chars, arith, rules}
use Rattle.educe_tokens_scan.proofs.InPlace.{drop_more}
use Rattle.educe_tokens_scan.proofs.windows.behind_count.Goals as goal

pub loop-seen-preserved : goal.loop-seen-preserved
loop-seen-preserved c = record {
  utf8 = search rules;
  behind = drop_more (chars c.args.text.now) (chars c.loop-seen.rest.now) (chars c.in-Some.more.now) c.loop-seen.seen c.in-Some.field-0-0 c.loop-seen.invariant.behind c.in-Some.ensures.parts;
  within = omega (arith, c.loop-seen-test.true);
}
