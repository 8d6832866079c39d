use Rattle.std.proofs.Common.{◌≡◌, ◌∙◌, List, ap, subst, sym}
use Rattle.educe_syntax.specs.Attribute.{Attribute}
use Rattle.educe_syntax.specs.Few.{variants_of}
use Rattle.educe_attrs.specs.Among.{IsAmong}
use Rattle.educe_attrs.specs.Causes.{OfStop}
use Rattle.educe_attrs.specs.Phases.{OfHandler}
use Rattle.educe_attrs.specs.Places.{OfPlace}
use Rattle.educe_attrs.specs.Row.{Row}
use Rattle.educe_bound_traits.specs.declared.traits.Trait.{Trait}
use Rattle.educe_bound_traits.specs.declared.traits.Trait.TheVariants.{Default}
use Rattle.educe_settings.specs.Defaults.{mark_row, type_values, is_open}
use Rattle.educe_settings.specs.Handled.{handling}
use Rattle.educe_settings.specs.Listed.{listed}
use Rattle.educe_settings.proofs.DefaultCauses.{variant_refused}
use Rattle.educe_settings.proofs.Elements.{In-at}
use Rattle.educe_settings.proofs.Stops.{stop_passed}
use Rattle.educe_settings.proofs.Uncaused.{in_among}
use Rattle.educe_settings_types.proofs.default_marks.marks_of.Goals as goal

pub returns-in_err-place_settings-clause-err : goal.returns-in_err-place_settings-clause-err
returns-in_err-place_settings-clause-err c =
    let ast = c.args.task.ast.now in
    let variants = c.args.variants.now in
    let variant = c.variant-item.result in
    let stop = c.in_err-place_settings.field-0.0 in
    let At : Row → List Trait → List Attribute → Type 0 = λ row traits attributes. OfStop (OfPlace Default row traits attributes) stop in
    let row : c.mark_row-row.result ≡ mark_row (is_open ast) = c.mark_row-row.ensures ∙ ap mark_row c.requires.typed.bare_is in
    let stands : IsAmong variant (variants_of ast) =
    subst (IsAmong variant) c.requires.variants (in_among variant variants (In-at variants c.loop-variant.variant-index variant variant c.loop-variant-test.true (sym c.variant-item.is))) in
    let stopped : At (mark_row (is_open ast)) (listed ast) variant.attrs =
    subst (λ r. At r (listed ast) variant.attrs) row
    (subst (λ traits. At c.mark_row-row.result traits variant.attrs) c.requires.typed.traits_are
    (subst (At c.mark_row-row.result c.args.task.listed.now) c.as_slice.ensures c.in_err-place_settings.ensures.cause)) in
    stop_passed (OfPlace Default (mark_row (is_open ast)) (listed ast) variant.attrs) (OfHandler (handling ast) Default)
    (variant_refused ast (type_values ast) c.requires.typed.own variant stands) c.from_residual.result stop c.from_residual.ensures.1 stopped
