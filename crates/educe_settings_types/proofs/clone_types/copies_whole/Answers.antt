use Rattle.std.proofs.Common.{◌≡◌, ◌∙◌, ap, refl}
use Rattle.std.specs.List.{list_any}
use Rattle.std.proofs.lemmas.Result.{IfOk-weaker}
use Rattle.educe_attrs.specs.Phases.{OfHandler}
use Rattle.educe_bound_traits.specs.declared.traits.Trait.TheVariants.{Clone}
use Rattle.educe_settings.specs.Copying.{copies_whole}
use Rattle.educe_settings.specs.Handled.{OfShape, handling}
use Rattle.educe_settings.specs.Methods.{has_method}
use Rattle.educe_settings.proofs.Refused.{shape_refused}
use Rattle.educe_settings.proofs.Stops.{stop_passed, stop_returned}
use Rattle.educe_settings_types.specs.Bitwise.{OfCopy}
use Rattle.educe_settings_types.proofs.Bitwise.{copies_known, copy_refused}
use Rattle.educe_settings_types.proofs.clone_types.copies_whole.Goals as goal

pub returns-in_err-settings-clause-err : goal.returns-in_err-settings-clause-err
returns-in_err-settings-clause-err c =
    let ast = c.args.ast.now in
    stop_passed (OfShape Clone ast ast.shape) (OfHandler (handling ast) Clone) (shape_refused Clone refl ast)
    c.from_residual.result c.in_err-settings.field-0.0 c.from_residual.ensures.1 c.in_err-settings.ensures.err

pub returns-clause-are : goal.returns-clause-are
returns-clause-are c =
    let ast = c.args.ast.now in
    let same = copies_known ast c.has_custom_method-has_method.result (c.has_custom_method-has_method.ensures ∙ ap (list_any (list_any has_method)) (c.as_slice.ensures ∙ c.in_ok-settings.ensures.are)) in
    IfOk-weaker c.can_use_bitwise_copy.result _ (λ copies. copies ≡ copies_whole ast) (λ copies is. is ∙ same) c.can_use_bitwise_copy.ensures.copies

pub returns-clause-err : goal.returns-clause-err
returns-clause-err c =
    let ast = c.args.ast.now in
    stop_returned (OfCopy ast) (OfHandler (handling ast) Clone) (copy_refused ast) c.can_use_bitwise_copy.result c.can_use_bitwise_copy.ensures.err
