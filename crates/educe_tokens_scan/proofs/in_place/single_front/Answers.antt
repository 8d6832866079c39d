use Rattle.std.proofs.Common.{Some, chars, sym, ap, ◌∙◌}
use Rattle.educe_tokens_scan.proofs.InPlace.{single_stands}
use Rattle.educe_tokens_scan.proofs.in_place.single_front.Goals as goal

pub returns-then-len-eq1 : goal.returns-then-len-eq1
returns-then-len-eq1 c =
    single_stands c.in_ok-kind.kind (chars c.args.text.now) (chars c.in_ok-first.rest.now) (chars c.in_ok-second.more.now) (chars c.in_ok-third.field-0-1.now) c.in_ok-first.first c.in_ok-second.second c.in_ok-third.third
    c.in_ok-first.ensures.parts c.in_ok-second.ensures.parts c.in_ok-third.ensures.parts
    (sym c.piece_at.ensures.value ∙ c.in_ok-kind.was ∙ ap (λ n. Some (c.in_ok-kind.kind, n)) c.if-len-eq1.true)
