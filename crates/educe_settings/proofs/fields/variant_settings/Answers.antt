use Rattle.std.proofs.Common.{List, inr, subst}
use Rattle.educe_syntax.specs.Field.{Field}
use Rattle.educe_settings.specs.Handled.{OfCase, OfVariant}
use Rattle.educe_settings.proofs.Stops.{stop_returned}
use Rattle.educe_settings.proofs.fields.variant_settings.Goals as goal

pub returns-clause-err : goal.returns-clause-err
returns-clause-err c =
    let which = c.args.task.trait_ in
    let ast = c.args.task.ast.now in
    stop_returned (OfCase which ast c.as_slice.result.now) (OfVariant which ast c.args.variant.now)
    (λ e cause. inr (subst (λ (fs : List Field). OfCase which ast fs e) c.as_slice.ensures cause)) c.field_settings.result c.field_settings.ensures.err
