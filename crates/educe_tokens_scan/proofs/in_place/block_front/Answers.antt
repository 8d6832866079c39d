use Rattle.std.proofs.Common.{chars, sym, ◌∙◌}
use Rattle.educe_tokens_scan.proofs.InPlace.{block_stands}
use Rattle.educe_tokens_scan.proofs.NoComment.{inner_block, unclosed}
use Rattle.educe_tokens_scan.proofs.in_place.block_front.Goals as goal

pub returns-then-text_begins-clause-none : goal.returns-then-text_begins-clause-none
returns-then-text_begins-clause-none c _ = inner_block (chars c.args.text.now) (sym c.text_begins.ensures ∙ c.if-text_begins.true)

pub returns-in_err-rest-clause-none : goal.returns-in_err-rest-clause-none
returns-in_err-rest-clause-none c _ = unclosed (chars c.args.text.now) (c.behind_block.ensures.none c.in_err-rest.was)

pub returns-clause-stands : goal.returns-clause-stands
returns-clause-stands c =
    rw c.comment_kind.ensures
    (block_stands (chars c.args.text.now) (chars c.in_ok-rest.rest.now) c.documents_block.result c.in_ok-rest.ensures.front (sym c.text_begins.ensures ∙ c.if-text_begins.false) c.documents_block.ensures)
