use Rattle.educe_tokens_pieces.specs.Integers.{base_of, is_digit_or_mark, unmarked}
use Rattle.educe_tokens_pieces.proofs.Classes.{list_all-prefix}
use Rattle.educe_tokens_pieces.proofs.integers.fits_u128.Goals as goal

pub digits_number-requires : goal.digits_number-requires
digits_number-requires c =
    let text = c.args.spelling.now in
    rw (c.base_of.ensures, c.digits_of.ensures) (list_all-prefix (is_digit_or_mark (base_of text)) (unmarked text))
