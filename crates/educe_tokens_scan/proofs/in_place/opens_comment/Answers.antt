use Rattle.std.proofs.Common.{chars, sym, ◌∙◌}
use Rattle.educe_tokens_scan.proofs.NoComment.{opens_behind, opens_none}
use Rattle.educe_tokens_scan.proofs.in_place.opens_comment.Goals as goal

pub returns-in-Some : goal.returns-in-Some
returns-in-Some c = c.begins_slash_or_star.ensures ∙ sym (opens_behind (chars c.args.text.now) (chars c.in-Some.behind.now) c.in-Some.ensures.parts)

pub returns-in-None : goal.returns-in-None
returns-in-None c = sym (opens_none (chars c.args.text.now) (c.behind_mark.ensures.none c.in-None.is))
