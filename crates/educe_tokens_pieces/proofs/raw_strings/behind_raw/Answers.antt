use Rattle.std.proofs.Common.{chars}
use Rattle.educe_tokens_pieces.specs.Fronts.{HasFront}
use Rattle.educe_tokens_pieces.specs.RawStrings.{closes_raw, is_raw}
use Rattle.educe_tokens_pieces.proofs.RawInPlace.{raw_front, if_some}
use Rattle.educe_tokens_pieces.proofs.raw_strings.behind_raw.Goals as goal

pub returns : goal.returns
returns c =
    if_some c.behind_closing.result
    (λ rest. HasFront (closes_raw c.split_marks-marks.result.0) (chars c.in_ok-behind_mark.field-0.now) (chars rest.now))
    (λ rest. HasFront is_raw (chars c.args.text.now) (chars rest.now))
    (λ rest h. raw_front c.split_marks-marks.result.0 (chars c.args.text.now) (chars c.split_marks-marks.result.1.now) (chars c.in_ok-behind_mark.field-0.now) (chars rest.now) c.if-marks-gt255.false c.split_marks-marks.ensures c.in_ok-behind_mark.ensures.parts h)
    c.behind_closing.ensures
