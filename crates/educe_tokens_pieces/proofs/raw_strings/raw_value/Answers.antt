use Rattle.std.proofs.Common.{arith}
use Rattle.educe_tokens_pieces.proofs.RawValues.{raw_cut, raw_parts, value_len, value_boundary, slice_value, slice_law}
use Rattle.educe_tokens_pieces.proofs.raw_strings.raw_value.Goals as goal

pub unwrap-requires : goal.unwrap-requires
unwrap-requires c = raw_cut c.args.literal.now c.utf8.literal c.requires c.split_once.result c.split_once.ensures.cases

pub overflow_sub-rest : goal.overflow_sub-rest
overflow_sub-rest c =
    let parts = raw_parts c.args.literal.now c.utf8.literal c.requires c.split_once.result c.unwrap.result c.split_once.ensures.cases c.unwrap.ensures in
    omega (arith, value_len c.args.literal.now c.unwrap.result.0.now c.unwrap.result.1.now parts)

pub range-requires-clause-end_boundary : goal.range-requires-clause-end_boundary
range-requires-clause-end_boundary c =
    let parts = raw_parts c.args.literal.now c.utf8.literal c.requires c.split_once.result c.unwrap.result c.split_once.ensures.cases c.unwrap.ensures in
    value_boundary c.args.literal.now c.unwrap.result.0.now c.unwrap.result.1.now parts

pub returns-clause-value : goal.returns-clause-value
returns-clause-value c =
    let parts = raw_parts c.args.literal.now c.utf8.literal c.requires c.split_once.result c.unwrap.result c.split_once.ensures.cases c.unwrap.ensures in
    slice_value c.args.literal.now c.unwrap.result.0.now c.unwrap.result.1.now c.range.result.now parts c.range.ensures.value

pub returns-clause-law : goal.returns-clause-law
returns-clause-law c =
    let parts = raw_parts c.args.literal.now c.utf8.literal c.requires c.split_once.result c.unwrap.result c.split_once.ensures.cases c.unwrap.ensures in
    slice_law c.args.literal.now c.unwrap.result.0.now c.unwrap.result.1.now c.range.result.now parts c.range.ensures.value
