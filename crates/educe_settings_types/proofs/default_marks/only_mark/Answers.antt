use Rattle.std.proofs.lemmas.Result.{err_from_is_err_and}
use Rattle.educe_settings_types.specs.Defaults.{AreTwice}
use Rattle.educe_settings_types.proofs.Marks.{only_more, met_twice}
use Rattle.educe_settings_types.proofs.default_marks.only_mark.Goals as goal

pub returns-in_err-found-clause-err : goal.returns-in_err-found-clause-err
returns-in_err-found-clause-err c =
    let marks = c.args.marks.now in
    let mark = c.index-marks-place.result in
    let twice : AreTwice marks c.in_err-found.field-0.0 =
    met_twice marks c.loop-place.place mark mark c.loop-place.found c.in_err-found.field-0.0 c.loop-place-test.true c.index-marks-place.is c.loop-place.invariant
    c.in_err-found.ensures.flag c.in_err-found.ensures.again c.in_err-found.ensures.span in
    let passed = err_from_is_err_and c.from_residual.result c.from_residual.ensures.1 in
    rw (passed.1, passed.2) twice

pub loop-place-preserved : goal.loop-place-preserved
loop-place-preserved c =
    let mark = c.index-marks-place.result in
    only_more c.args.marks.now c.loop-place.place mark mark c.loop-place.found c.in_ok-found.found c.loop-place-test.true c.index-marks-place.is c.loop-place.invariant
    c.in_ok-found.ensures.next c.in_ok-found.ensures.only
