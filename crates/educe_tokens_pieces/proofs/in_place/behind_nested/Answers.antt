use Rattle.std.proofs.Common.{arith, rules, chars}
use Rattle.educe_tokens_pieces.proofs.InPlace.{block_opens, block_closes, block_ends, block_stays}
use Rattle.educe_tokens_pieces.proofs.Unclosed.{none_opened, none_closed, none_stays}
use Rattle.educe_tokens_pieces.proofs.in_place.behind_nested.Goals as goal

pub loop-behind-preserved-in-Some : goal.loop-behind-preserved-in-Some
loop-behind-preserved-in-Some c =
    let inner = c.loop-behind.inner in
    let kept = c.loop-behind.invariant in
    record {
      utf8 = search rules;
      goes = block_opens inner (chars c.args.text.now) (chars c.loop-behind.rest.now) kept.goes (chars c.in-Some.behind.now) c.in-Some.ensures.parts;
      none = λ none. kept.none (none_opened inner (chars c.loop-behind.rest.now) (chars c.in-Some.behind.now) c.in-Some.ensures.parts none);
      depth = omega (arith, kept.depth, c.in-Some.ensures.shorter);
    }

pub returns-then-inner-eq0-clause-front : goal.returns-then-inner-eq0-clause-front
returns-then-inner-eq0-clause-front c =
    block_ends c.loop-behind.inner (chars c.args.text.now) (chars c.loop-behind.rest.now) c.loop-behind.invariant.goes (chars c.in-Some-behind_pair.behind.now) c.in-Some-behind_pair.ensures.parts c.if-inner-eq0.true

pub loop-behind-preserved-in-Some-behind_pair : goal.loop-behind-preserved-in-Some-behind_pair
loop-behind-preserved-in-Some-behind_pair c =
    let inner = c.loop-behind.inner in
    let kept = c.loop-behind.invariant in
    record {
      utf8 = search rules;
      goes = block_closes inner (chars c.args.text.now) (chars c.loop-behind.rest.now) kept.goes (chars c.in-Some-behind_pair.behind.now) c.in-Some-behind_pair.ensures.parts c.if-inner-eq0.false;
      none = λ none. kept.none (none_closed inner (chars c.loop-behind.rest.now) (chars c.in-Some-behind_pair.behind.now) c.in-Some-behind_pair.ensures.parts c.if-inner-eq0.false none);
      depth = omega (arith, kept.depth, c.in-Some-behind_pair.ensures.shorter);
    }

pub loop-behind-preserved : goal.loop-behind-preserved
loop-behind-preserved c =
    let inner = c.loop-behind.inner in
    let kept = c.loop-behind.invariant in
    let opens = c.behind_pair.ensures.none c.in_default.is in
    let closes = c.behind_pair-in_default.ensures.none c.in_default-behind_pair.is in
    record {
      utf8 = search rules;
      goes = block_stays inner (chars c.args.text.now) (chars c.loop-behind.rest.now) kept.goes c.in_ok-more.field-0-0 (chars c.in_ok-more.more.now) c.in_ok-more.ensures.parts opens closes;
      none = λ none. kept.none (none_stays inner (chars c.loop-behind.rest.now) c.in_ok-more.field-0-0 (chars c.in_ok-more.more.now) c.in_ok-more.ensures.parts opens closes none);
      depth = omega (arith, kept.depth, c.in_ok-more.ensures.shorter);
    }
