use Rattle.std.proofs.Common.{List, subst}
use Rattle.std.specs.Prelude.{IfErr}
use Rattle.educe_syntax.specs.Attribute.{Attribute}
use Rattle.educe_attrs.specs.Causes.{OfStop}
use Rattle.educe_attrs.specs.Phases.{OfHandler}
use Rattle.educe_attrs.specs.Places.{OfPlace}
use Rattle.educe_attrs.specs.Row.{Row}
use Rattle.educe_bound_traits.specs.declared.traits.Trait.{Trait}
use Rattle.educe_bound_traits.specs.declared.traits.Trait.TheVariants.{Debug}
use Rattle.educe_settings.specs.Handled.{handling}
use Rattle.educe_settings.specs.Listed.{listed}
use Rattle.educe_settings.specs.Shown.{naming_row}
use Rattle.educe_settings.proofs.ShownCauses.{variant_refused}
use Rattle.educe_settings.proofs.Stops.{stop_returned}
use Rattle.educe_settings_types.proofs.debug_settings.naming_values.Goals as goal

pub returns-clause-err : goal.returns-clause-err
returns-clause-err c =
    let ast = c.args.task.ast.now in
    let variant = c.args.variant.now in
    let result = c.place_settings.result in
    let At : Row → List Trait → List Attribute → Type 0 = λ row traits attributes. IfErr result (λ s. OfStop (OfPlace Debug row traits attributes) s) in
    stop_returned (OfPlace Debug (naming_row variant) (listed ast) variant.attrs) (OfHandler (handling ast) Debug) (variant_refused ast variant c.requires.stands) result
    (subst (λ row. At row (listed ast) variant.attrs) c.naming_row-row.ensures
    (subst (λ traits. At c.naming_row-row.result traits variant.attrs) c.requires.listed
    (subst (At c.naming_row-row.result c.args.task.listed.now) c.as_slice-attributes.ensures c.place_settings.ensures.cause)))
