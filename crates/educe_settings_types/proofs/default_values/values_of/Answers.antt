use Rattle.std.proofs.Common.{List, subst}
use Rattle.std.specs.Prelude.{IfErr}
use Rattle.educe_attrs.specs.Causes.{OfStop}
use Rattle.educe_attrs.specs.Fields.{OfFields}
use Rattle.educe_attrs.specs.Phases.{OfHandler}
use Rattle.educe_attrs.specs.Row.{Row}
use Rattle.educe_bound_traits.specs.declared.traits.Trait.{Trait}
use Rattle.educe_bound_traits.specs.declared.traits.Trait.TheVariants.{Default}
use Rattle.educe_settings.specs.Defaults.{value_row}
use Rattle.educe_settings.specs.Handled.{handling}
use Rattle.educe_settings.specs.Listed.{listed}
use Rattle.educe_settings.proofs.DefaultCauses.{field_refused}
use Rattle.educe_settings.proofs.Stops.{stop_returned}
use Rattle.educe_settings_types.proofs.default_values.values_of.Goals as goal

pub returns-clause-err : goal.returns-clause-err
returns-clause-err c =
    let ast = c.args.task.ast.now in
    let fields = c.args.fields.now in
    let written = c.args.written in
    let Refused : Row → List Trait → Type 0 = λ row traits. IfErr c.settings_of_fields.result (λ s. OfStop (OfFields Default row traits fields) s) in
    let refused : Refused (value_row written) (listed ast) =
    subst (λ row. Refused row (listed ast)) c.value_row.ensures (subst (Refused c.value_row.result) c.requires.listed c.settings_of_fields.ensures.cause) in
    stop_returned (OfFields Default (value_row written) (listed ast) fields) (OfHandler (handling ast) Default)
    (λ e (field, among, cause). field_refused ast fields written c.requires.case field among e cause) c.settings_of_fields.result refused
