use Rattle.std.proofs.Common.{chars, sym, ◌∙◌}
use Rattle.educe_tokens_scan.proofs.InPlace.{quoted_stands}
use Rattle.educe_tokens_scan.proofs.in_place.quoted_front.Goals as goal

pub returns-then-ends_word : goal.returns-then-ends_word
returns-then-ends_word c =
    rw c.quoted_kind.ensures (quoted_stands c.args.quote (chars c.args.body.now) (chars c.in_ok-rest.rest.now) c.in_ok-rest.ensures (sym c.ends_word.ensures ∙ c.if-ends_word.true))
