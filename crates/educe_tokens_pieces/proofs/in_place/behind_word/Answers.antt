use Rattle.std.proofs.Common.{sym, ◌∙◌, chars}
use Rattle.educe_tokens_pieces.proofs.InPlace.{word_front}
use Rattle.educe_tokens_pieces.proofs.in_place.behind_word.Goals as goal

pub returns-then-is_word_start : goal.returns-then-is_word_start
returns-then-is_word_start c =
    word_front (chars c.args.text.now) (chars c.in_ok-first.rest.now) (chars c.behind_continues.result.now) c.in_ok-first.first (sym c.is_word_start.ensures ∙ c.if-is_word_start.true) c.in_ok-first.ensures.parts c.behind_continues.ensures
