use Rattle.std.proofs.Common.{List, subst, arith}
use Rattle.educe_syntax.specs.Attribute.{Attribute}
use Rattle.educe_attrs_places.specs.Causes.{OfStop}
use Rattle.educe_attrs_places.specs.Places.{OfField}
use Rattle.educe_attrs_places.proofs.FieldsLaws.{among_at, cause_among, all_said}
use Rattle.educe_attrs_places.proofs.fields.settings_of_fields.Goals as goal

pub returns-in-Err-clause-cause : goal.returns-in-Err-clause-cause
returns-in-Err-clause-cause c =
    let stop = c.in-Err.stop in
    let At : List Attribute → Type 0 = λ attributes. OfStop (OfField c.args.which c.args.row.now c.args.listed.now attributes) stop in
    cause_among c.args.which c.args.row.now c.args.listed.now c.args.fields.now c.field-item.result
    (among_at c.args.fields.now c.loop-field.field-index c.field-item.result c.loop-field-test.true c.field-item.is) stop
    (subst At c.as_slice.ensures c.in-Err.ensures.cause)

pub returns-clause-said : goal.returns-clause-said
returns-clause-said c =
    all_said c.args.which c.args.row.now c.args.listed.now c.args.fields.now c.loop-field.all c.loop-field.field-index (omega (arith, c.loop-field-test.false)) c.loop-field.invariant.said
    c.loop-field.invariant.uncaused
