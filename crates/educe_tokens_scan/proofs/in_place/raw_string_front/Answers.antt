use Rattle.std.proofs.Common.{chars, sym, ◌∙◌}
use Rattle.educe_tokens_scan.proofs.InPlace.{raw_stands}
use Rattle.educe_tokens_scan.proofs.in_place.raw_string_front.Goals as goal

pub returns-then-ends_word : goal.returns-then-ends_word
returns-then-ends_word c =
    raw_stands (chars c.args.text.now) (chars c.in_ok-raw.raw.now) (chars c.in_ok-rest.rest.now) c.in_ok-raw.ensures.parts c.in_ok-rest.ensures (sym c.ends_word.ensures ∙ c.if-ends_word.true)
