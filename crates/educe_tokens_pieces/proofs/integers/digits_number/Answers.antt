use Rattle.std.proofs.Common.{sym, ap, ◌∙◌, arith}
use Rattle.educe_tokens_pieces.specs.Numbers.{with_digit}
use Rattle.educe_tokens_pieces.proofs.IntegerValues.{digits_item, more_le}
use Rattle.educe_tokens_pieces.proofs.integers.digits_number.Goals as goal

pub returns-in_err-value : goal.returns-in_err-value
returns-in_err-value c =
    let most = more_le c.args.base c.args.digits.now c.loop-c.c-index c.c-item.result c.loop-c.value c.loop-c-test.true c.c-item.is c.loop-c.invariant.front in
    rw c.from_residual.ensures (λ fits. c.in_err-value.ensures (omega (arith, most)))

pub loop-c-preserved : goal.loop-c-preserved
loop-c-preserved c =
    let item = digits_item c.args.base c.args.digits.now c.loop-c.c-index c.c-item.result c.loop-c-test.true c.c-item.is in
    record {
      front = c.in_ok-value.ensures.1 ∙ ap (λ v. with_digit c.args.base v c.c-item.result) c.loop-c.invariant.front ∙ sym item;
      in_range = omega (arith, c.in_ok-value.ensures);
    }
