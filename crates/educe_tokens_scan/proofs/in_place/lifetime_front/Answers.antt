use Rattle.std.proofs.Common.{chars, sym, ◌∙◌}
use Rattle.educe_tokens_scan.proofs.InPlace.{lifetime_stands}
use Rattle.educe_tokens_scan.proofs.in_place.lifetime_front.Goals as goal

pub returns-else-text_touches_lifetime : goal.returns-else-text_touches_lifetime
returns-else-text_touches_lifetime c =
    lifetime_stands (chars c.args.word.now) (chars c.in_ok-rest.rest.now) c.in_ok-rest.ensures (sym c.text_touches_lifetime.ensures ∙ c.if-text_touches_lifetime.false)
