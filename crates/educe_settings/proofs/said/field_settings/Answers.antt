use Rattle.std.proofs.Common.{inl}
use Rattle.std.specs.Prelude.{IfErr}
use Rattle.educe_attrs.specs.Causes.{OfStop}
use Rattle.educe_attrs.specs.Fields.{OfFields}
use Rattle.educe_settings.specs.Handled.{OfCase}
use Rattle.educe_settings.specs.Listed.{listed}
use Rattle.educe_settings.specs.Rows.{field_row}
use Rattle.educe_settings.proofs.Stops.{stop_returned}
use Rattle.educe_settings.proofs.said.field_settings.Goals as goal

pub returns-clause-err : goal.returns-clause-err
returns-clause-err c =
    let which = c.args.task.trait_ in
    let ast = c.args.task.ast.now in
    let fields = c.args.fields.now in
    let refused : IfErr c.settings_of_fields.result (λ s. OfStop (OfFields which (field_row which) (listed ast) fields) s) =
    rw (← c.field_row.ensures, ← c.requires) c.settings_of_fields.ensures.cause in
    stop_returned (OfFields which (field_row which) (listed ast) fields) (OfCase which ast fields) (λ e cause. inl cause) c.settings_of_fields.result refused
