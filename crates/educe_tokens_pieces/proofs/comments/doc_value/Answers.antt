use Rattle.std.proofs.Common.{◌∙◌, ap, arith, []}
use Rattle.std.specs.Str.{chars}
use Rattle.std.proofs.lemmas.Str.Ascii.{IsAscii-nil}
use Rattle.educe_tokens_pieces.proofs.Texts.{front_boundary, back_boundary, marks_fit, between_chars, behind_chars}
use Rattle.educe_tokens_pieces.proofs.DocValues.{line_mark, block_mark, end_mark, end_ascii, line_text, block_text, cut_law, cut_value}
use Rattle.educe_tokens_pieces.proofs.comments.doc_value.Goals as goal

pub range_from-requires : goal.range_from-requires
range_from-requires c =
    let text = line_text c.args.doc.now c.starts_with.result c.utf8.doc c.requires c.starts_with.ensures.cases c.if-starts_with.true in
    λ _. front_boundary c.args.doc.now line_mark text.0 [] IsAscii-nil text.2

pub overflow_sub-doc : goal.overflow_sub-doc
overflow_sub-doc c =
    let text = block_text c.args.doc.now c.starts_with.result c.utf8.doc c.requires c.starts_with.ensures.cases c.if-starts_with.false in
    omega (arith, marks_fit c.args.doc.now block_mark text.0 end_mark text.2)

pub range-requires-clause-start_le_end : goal.range-requires-clause-start_le_end
range-requires-clause-start_le_end c =
    let text = block_text c.args.doc.now c.starts_with.result c.utf8.doc c.requires c.starts_with.ensures.cases c.if-starts_with.false in
    omega (arith, marks_fit c.args.doc.now block_mark text.0 end_mark text.2)

pub range-requires-clause-start_boundary : goal.range-requires-clause-start_boundary
range-requires-clause-start_boundary c =
    let text = block_text c.args.doc.now c.starts_with.result c.utf8.doc c.requires c.starts_with.ensures.cases c.if-starts_with.false in
    λ _. front_boundary c.args.doc.now block_mark text.0 end_mark end_ascii text.2

pub range-requires-clause-end_boundary : goal.range-requires-clause-end_boundary
range-requires-clause-end_boundary c =
    let text = block_text c.args.doc.now c.starts_with.result c.utf8.doc c.requires c.starts_with.ensures.cases c.if-starts_with.false in
    back_boundary c.args.doc.now block_mark text.0 end_mark end_ascii text.2

pub returns-then-starts_with : goal.returns-then-starts_with
returns-then-starts_with c =
    let text = line_text c.args.doc.now c.starts_with.result c.utf8.doc c.requires c.starts_with.ensures.cases c.if-starts_with.true in
    let cut = ap chars c.range_from.ensures.value ∙ behind_chars c.args.doc.now line_mark text.0 text.2 in
    record { value = cut_value _ _ text.0 text.1 cut; law = cut_law _ _ text.0 text.1 cut }

pub returns-else-starts_with : goal.returns-else-starts_with
returns-else-starts_with c =
    let text = block_text c.args.doc.now c.starts_with.result c.utf8.doc c.requires c.starts_with.ensures.cases c.if-starts_with.false in
    let cut = ap chars c.range.ensures.value ∙ between_chars c.args.doc.now block_mark text.0 end_mark text.2 in
    record { value = cut_value _ _ text.0 text.1 cut; law = cut_law _ _ text.0 text.1 cut }
