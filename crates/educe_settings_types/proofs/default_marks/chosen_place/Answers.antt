use Rattle.std.proofs.Common.{◌≡◌, ◌≢◌, length, subst, sym, arith}
use Rattle.educe_attrs.specs.Causes.{OfStop}
use Rattle.educe_attrs.specs.Stop.{Stop}
use Rattle.educe_settings_types.specs.Defaults.{IsOnly, IsNone}
use Rattle.educe_settings_types.proofs.Marks.{one_of_length, many_of_length, only_within}
use Rattle.educe_settings_types.proofs.default_marks.chosen_place.Goals as goal

pub returns-then-marks-eq1-clause-ok : goal.returns-then-marks-eq1-clause-ok
returns-then-marks-eq1-clause-ok c =
    let one : length c.args.marks.now ≡ 1 = omega arith in
    IsOnly.alone (one_of_length c.args.marks.now one)

pub returns-in-Ok-Some-clause-ok : goal.returns-in-Ok-Some-clause-ok
returns-in-Ok-Some-clause-ok c =
    let many : length c.args.marks.now ≢ 1 = omega arith in
    IsOnly.marked c.in-Ok-Some.place (many_of_length c.args.marks.now many) (rw c.in-Ok-Some.field-0-is at c.in-Ok-Some.ensures.ok)

pub returns-in-Ok-None-clause-err : goal.returns-in-Ok-None-clause-err
returns-in-Ok-None-clause-err c =
    let many : length c.args.marks.now ≢ 1 = omega arith in
    subst (λ (s : Stop). OfStop (IsNone c.args.marks.now c.args.own) s) (sym c.refused.ensures)
    (IsNone.never (many_of_length c.args.marks.now many) (rw c.in-Ok-None.field-0-is at c.in-Ok-None.ensures.ok))

pub returns-in-Err-clause-err : goal.returns-in-Err-clause-err
returns-in-Err-clause-err c =
    subst (λ (s : Stop). OfStop (IsNone c.args.marks.now c.args.own) s) (sym c.refused-in-Err.ensures) (IsNone.twice c.in-Err.span c.in-Err.ensures.err)

pub returns-in-Ok-Some-clause-within : goal.returns-in-Ok-Some-clause-within
returns-in-Ok-Some-clause-within c =
    let many : length c.args.marks.now ≢ 1 = omega arith in
    only_within c.args.marks.now c.in-Ok-Some.place (IsOnly.marked c.in-Ok-Some.place (many_of_length c.args.marks.now many) (rw c.in-Ok-Some.field-0-is at c.in-Ok-Some.ensures.ok))
