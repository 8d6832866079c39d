use Rattle.std.proofs.Common.{List, inr, subst}
use Rattle.std.proofs.lemmas.Result.{IfOk-weaker}
use Rattle.educe_syntax.specs.Field.{Field}
use Rattle.educe_attrs.specs.Causes.{NoCause}
use Rattle.educe_settings.proofs.Uncaused.{variant_uncaused}
use Rattle.educe_settings.specs.Handled.{OfCase, OfVariant}
use Rattle.educe_settings.proofs.Stops.{stop_returned}
use Rattle.educe_settings.proofs.fields.variant_fields.Goals as goal

pub returns-clause-uncaused : goal.returns-clause-uncaused
returns-clause-uncaused c =
    let which = c.args.task.trait_ in
    let ast = c.args.task.ast.now in
    let variant = c.args.variant.now in
    IfOk-weaker c.fields_in_order.result (λ _. NoCause (OfCase which ast c.as_slice.result.now)) (λ _. NoCause (OfVariant which ast variant))
    (λ found uncaused. variant_uncaused which ast variant c.requires.place (subst (λ (fs : List Field). NoCause (OfCase which ast fs)) c.as_slice.ensures uncaused))
    c.fields_in_order.ensures.uncaused

pub returns-clause-err : goal.returns-clause-err
returns-clause-err c =
    let which = c.args.task.trait_ in
    let ast = c.args.task.ast.now in
    stop_returned (OfCase which ast c.as_slice.result.now) (OfVariant which ast c.args.variant.now)
    (λ e cause. inr (subst (λ (fs : List Field). OfCase which ast fs e) c.as_slice.ensures cause)) c.fields_in_order.result c.fields_in_order.ensures.err
