use Rattle.std.proofs.Common.{chars, sym, ◌∙◌, arith, rules}
use Rattle.educe_tokens_scan.proofs.FewDigits.{one_more_digit}
use Rattle.educe_tokens_scan.proofs.decimals.split_digits.Goals as goal

pub loop-c-preserved : goal.loop-c-preserved
loop-c-preserved c = record {
  utf8 = search rules;
  digits = one_more_digit c.loop-c.count (chars c.args.text.now) (chars c.loop-c.rest.now) (chars c.in-Some.more.now) c.in-Some.c c.loop-c.invariant.digits c.in-Some.ensures.parts (sym c.is_ascii_digit.ensures.value ∙ c.if-is_ascii_digit.true);
  few = omega (arith, c.if-count-lt-FEW_DIGITS.true);
}
