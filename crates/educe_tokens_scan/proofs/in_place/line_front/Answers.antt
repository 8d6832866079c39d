use Rattle.std.proofs.Common.{chars, sym, ◌∙◌}
use Rattle.educe_tokens_scan.proofs.InPlace.{line_stands}
use Rattle.educe_tokens_scan.proofs.NoComment.{inner_line}
use Rattle.educe_tokens_scan.proofs.in_place.line_front.Goals as goal

pub returns-then-text_begins-clause-none : goal.returns-then-text_begins-clause-none
returns-then-text_begins-clause-none c _ =
    inner_line (chars c.args.text.now) (chars c.split_line.result.0.now) (chars c.split_line.result.1.now) c.split_line.ensures.parts (sym c.text_begins.ensures ∙ c.if-text_begins.true)

pub returns-else-text_begins-clause-stands : goal.returns-else-text_begins-clause-stands
returns-else-text_begins-clause-stands c =
    let first = sym c.text_begins.ensures ∙ c.if-text_begins.false in
    rw c.comment_kind.ensures
    (line_stands (chars c.args.text.now) (chars c.split_line.result.0.now) (chars c.split_line.result.1.now) c.documents_line.result c.split_line.ensures.line c.split_line.ensures.parts c.split_line.ensures.ends first
    c.documents_line.ensures)
