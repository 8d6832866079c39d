use Rattle.std.proofs.Common.{sym}
use Rattle.educe_settings.proofs.Elements.{In-all, In-at}
use Rattle.educe_syntax.specs.Readings.{IsReadField}
use Rattle.educe_vectors.proofs.examples.readings.field_at.Goals as goal

pub returns-in-Some : goal.returns-in-Some
returns-in-Some c =
    let fields = c.in_ok-fields.fields.now in
    let field = c.in-Some.field.now in
    In-all IsReadField fields field c.in_ok-fields.ensures (In-at fields c.args.place field field c.in-Some.ensures.within (sym c.in-Some.ensures.some))
