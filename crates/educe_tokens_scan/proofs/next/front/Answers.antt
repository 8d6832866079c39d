use Rattle.std.proofs.Common.{chars, sym, ◌∙◌}
use Rattle.educe_tokens_scan.proofs.NoComment.{no_piece}
use Rattle.educe_tokens_scan.proofs.next.front.Goals as goal

pub returns-then-opens_comment-clause-none : goal.returns-then-opens_comment-clause-none
returns-then-opens_comment-clause-none c found = no_piece (chars c.args.text.now) (sym c.opens_comment.ensures ∙ c.if-opens_comment.true) (c.comment_front.ensures.none found)
