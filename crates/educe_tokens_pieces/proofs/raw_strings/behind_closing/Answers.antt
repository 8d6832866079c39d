use Rattle.std.proofs.Common.{◌≡◌, ◌+◌, ◌≤◌, chars, ◌∙◌, subst, arith, rules}
use Rattle.std.specs.Str.{IsUtf8}
use Rattle.std.specs.Str.Pattern.{FindsText, SplitsAroundMatch}
use Rattle.std.proofs.lemmas.Str.{IsCharBoundary-from_ascii}
use Rattle.educe_tokens_pieces.proofs.RawInPlace.{raw_end, raw_end_ascii, slice_end, raw_ends}
use Rattle.educe_tokens_pieces.proofs.Searches.{split_run}
use Rattle.educe_tokens_pieces.proofs.raw_strings.behind_closing.Goals as goal

pub range-requires-clause-end_boundary : goal.range-requires-clause-end_boundary
range-requires-clause-end_boundary c = IsCharBoundary-from_ascii (raw_end 255) (c.args.marks + 1) (raw_end_ascii 255) (omega (arith, c.requires))

pub returns : goal.returns
returns c =
    let few : c.args.marks ≤ 255 = c.requires in
    let needle : c.range.result.now ≡ raw_end c.args.marks = c.range.ensures.value ∙ slice_end c.args.marks few in
    let front : IsUtf8 c.in_ok-rest.field-0-0.now = search rules in
    let back : IsUtf8 c.in_ok-rest.rest.now = search rules in
    let split = subst (λ p. SplitsAroundMatch (FindsText p) c.args.text.now c.in_ok-rest.field-0-0.now c.in_ok-rest.rest.now) needle c.in_ok-rest.ensures.cases in
    let parts = split_run (raw_end c.args.marks) c.args.text.now c.in_ok-rest.field-0-0.now c.in_ok-rest.rest.now (raw_end_ascii c.args.marks) c.utf8.text front back split in
    raw_ends c.args.marks (chars c.args.text.now) (chars c.in_ok-rest.field-0-0.now) (chars c.in_ok-rest.rest.now) parts.0 parts.1
