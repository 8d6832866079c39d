use Rattle.std.proofs.Common.{arith}
use Rattle.educe_tokens_pieces.proofs.Reached.{code_below}
use Rattle.educe_tokens_pieces.proofs.quotes.digit_step.Goals as goal

pub overflow_mul-result : goal.overflow_mul-result
overflow_mul-result c = let small = code_below c.args.digits c.args.value c.requires c.if-digits-lt6.true in omega (arith, small)

pub overflow_add-result-then-digits-lt6 : goal.overflow_add-result-then-digits-lt6
overflow_add-result-then-digits-lt6 c = let small = code_below c.args.digits c.args.value c.requires c.if-digits-lt6.true in omega (arith, small, c.in-Some.ensures.value)
