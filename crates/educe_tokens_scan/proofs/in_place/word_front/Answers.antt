use Rattle.std.proofs.Common.{chars, sym, ◌∙◌}
use Rattle.educe_tokens_scan.proofs.InPlace.{word_stands}
use Rattle.educe_tokens_scan.proofs.in_place.word_front.Goals as goal

pub returns-else-text_touches_word : goal.returns-else-text_touches_word
returns-else-text_touches_word c =
    word_stands (chars c.args.text.now) (chars c.in_ok-rest.rest.now) c.in_ok-rest.ensures (sym c.text_touches_word.ensures ∙ c.if-text_touches_word.false)
