use Rattle.std.proofs.Common.{sym, ap, ◌∙◌}
use Rattle.std.specs.Char.{is_ascii_digit}
use Rattle.educe_tokens_pieces.specs.Chars.{begins}
use Rattle.educe_tokens.proofs.Words.{word_is_int, word_is_ident}
use Rattle.educe_tokens.proofs.word.Word.kind.Goals as goal

pub returns-then-begins_digit : goal.returns-then-begins_digit
returns-then-begins_digit c =
    sym (word_is_int c.args.self.now.text (ap (begins is_ascii_digit) (sym c.as_str.ensures) ∙ sym c.begins_digit.ensures ∙ c.if-begins_digit.true))

pub returns-else-begins_digit : goal.returns-else-begins_digit
returns-else-begins_digit c =
    sym (word_is_ident c.args.self.now.text c.args.self.now.spelled (ap (begins is_ascii_digit) (sym c.as_str.ensures) ∙ sym c.begins_digit.ensures ∙ c.if-begins_digit.false))
