use Rattle.std.proofs.Common.{chars}
use Rattle.educe_tokens_scan.proofs.NoComment.{no_slash}
use Rattle.educe_tokens_scan.proofs.in_place.comment_front.Goals as goal

pub returns-in_err-behind-clause-none : goal.returns-in_err-behind-clause-none
returns-in_err-behind-clause-none c _ = no_slash (chars c.args.text.now) (c.behind_mark.ensures.none c.in_err-behind.was)

pub returns-in-Some : goal.returns-in-Some
returns-in-Some c = rw (c.in_ok-behind.ensures.parts, c.in-Some.ensures.parts) c.line_front.ensures
