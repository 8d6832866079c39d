use Rattle.std.proofs.Common.{chars, sym, ◌∙◌, arith}
use Rattle.educe_tokens_scan.proofs.FewDigits.{decimal_stands}
use Rattle.educe_tokens_scan.proofs.decimals.decimal_front.Goals as goal

pub returns-then-not-text_begins : goal.returns-then-not-text_begins
returns-then-not-text_begins c =
    decimal_stands c.split_digits-count.result.0 (chars c.args.text.now) (chars c.split_digits-count.result.1.now) c.split_digits-count.ensures.digits (omega (arith, c.if-count-gt0.true)) c.split_digits-count.ensures.few
    (sym c.ends_word.ensures ∙ c.if-ends_word.true) (sym c.text_begins.ensures ∙ c.if-not-text_begins.true)
