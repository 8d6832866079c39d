use Rattle.std.proofs.Common.{◌∙◌, sym}
use Rattle.educe_body_forms.specs.Indices.{no_index_by_first, index_is_read}
use Rattle.educe_body_forms.proofs.keys.index_of.Goals as goal

pub returns-then-begins_plain : goal.returns-then-begins_plain
returns-then-begins_plain c =
    index_is_read c.args.text.now c.as_str-text.result.now c.parse.result c.ok.result c.as_str-text.ensures.bytes c.as_str-text.ensures.chars
    (sym c.begins_plain.ensures ∙ c.if-begins_plain.true) c.parse.ensures.value.0 c.ok.ensures.value

pub returns-else-begins_plain : goal.returns-else-begins_plain
returns-else-begins_plain c =
    no_index_by_first c.args.text.now c.as_str-text.result.now c.as_str-text.ensures.bytes (sym c.begins_plain.ensures ∙ c.if-begins_plain.false)
