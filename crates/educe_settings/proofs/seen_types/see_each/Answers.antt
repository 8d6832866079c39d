use Rattle.educe_settings.specs.SeenTypes.{read_of, touched_of}
use Rattle.educe_settings.proofs.Visited.{read_more, touched_more}
use Rattle.educe_settings.proofs.seen_types.see_each.Goals as goal

pub loop-field-preserved : goal.loop-field-preserved
loop-field-preserved c =
    let fields = c.args.fields.now in
    let i = c.loop-field.field-index in
    let field = c.field-item.result in
    record {
      read = read_more fields i field field c.loop-field-test.true c.field-item.is (read_of c.args.types.now) _ _ c.loop-field.invariant.read c.in_ok-see.ensures.read;
      touched = touched_more fields i field field c.loop-field-test.true c.field-item.is (touched_of c.args.types.now) _ _ c.loop-field.invariant.touched c.in_ok-see.ensures.touched;
    }
