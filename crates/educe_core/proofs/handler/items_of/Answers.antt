use Rattle.educe_settings.specs.Handled.{IsListedCause}
use Rattle.educe_core.specs.Headline.{IsHandlerCause}
use Rattle.educe_settings.specs.Listed.{IsListingCause}
use Rattle.educe_settings.proofs.Stops.{stop_passed, stop_returned}
use Rattle.educe_core.proofs.handler.items_of.Goals as goal

pub returns-in_err-listed-clause-err : goal.returns-in_err-listed-clause-err
returns-in_err-listed-clause-err c =
    stop_passed (IsListingCause c.args.ast.now) (IsHandlerCause c.args.ast.now) (λ e cause. IsHandlerCause.listing cause) c.from_residual.result c.in_err-listed.field-0.0
    c.from_residual.ensures.1 c.in_err-listed.ensures.err

pub returns-clause-err : goal.returns-clause-err
returns-clause-err c =
    stop_returned (IsListedCause c.args.ast.now) (IsHandlerCause c.args.ast.now) (λ e cause. IsHandlerCause.handled c.in_ok-listed.ensures.uncaused cause) c.blocks-2.result
    c.blocks-2.ensures.err
