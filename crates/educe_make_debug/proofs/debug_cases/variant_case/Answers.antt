use Rattle.std.proofs.Common.{◌≡◌, ◌∙◌, List, ap, sym, subst}
use Rattle.std.specs.Prelude.{unwrap_or}
use Rattle.educe_syntax.specs.Field.{Field}
use Rattle.educe_attrs.specs.Fields.{OfFields}
use Rattle.educe_attrs.specs.Phases.{OfHandler}
use Rattle.educe_attrs.specs.Values.{Values}
use Rattle.educe_bound_traits.specs.declared.traits.Trait.TheVariants.{Debug}
use Rattle.educe_settings.specs.Cases.{is_unit}
use Rattle.educe_settings.specs.Handled.{handling}
use Rattle.educe_settings.specs.Listed.{listed}
use Rattle.educe_settings.specs.Rows.{variant_names}
use Rattle.educe_settings.specs.Shown.{entry_row, variant_shown, path_text, variant_text}
use Rattle.educe_settings.proofs.Stops.{stop_passed}
use Rattle.educe_make_debug.specs.Origins.{variant_kind, variant_place, IsOwnCase}
use Rattle.educe_make_debug.proofs.Cases.{same_case}
use Rattle.educe_settings_types.proofs.ReadCases.{variant_stands, fields_refused}
use Rattle.educe_make_debug.proofs.debug_cases.variant_case.Goals as goal

pub returns-in_err-settings-clause-err : goal.returns-in_err-settings-clause-err
returns-in_err-settings-clause-err c =
    let ast = c.args.task.ast.now in
    let variant = c.args.variant.now in
    let named = c.variant_named-named.result in
    let fields : List Field = c.as_slice-fields.result.now in
    let named_is : named ≡ (variant_shown ast variant).named = c.variant_named-named.ensures ∙ ap (λ (values : Values). unwrap_or values.named_field (variant_names variant.fields.form)) c.in_ok-values.ensures.are in
    let stands = variant_stands ast c.args.task.listed.now c.requires.typed variant c.requires.variant c.in_ok-values.ensures.uncaused in
    stop_passed (OfFields Debug (entry_row named) (listed ast) fields) (OfHandler (handling ast) Debug)
    (fields_refused ast (variant_shown ast variant) stands named fields named_is c.as_slice-fields.ensures) c.from_residual-in_err-settings.result c.in_err-settings.field-0.0
    c.from_residual-in_err-settings.ensures.1 c.in_err-settings.ensures.err

pub returns-clause-are : goal.returns-clause-are
returns-clause-are c =
    let ast = c.args.task.ast.now in
    let variant = c.args.variant.now in
    let shown = variant_shown ast variant in
    let one = c.requires.variant in
    let unit_is = c.is_unit-unit.ensures in
    let last = c.variant_name.ensures ∙ ap (variant_text variant) c.in_ok-values.ensures.are in
    let named_is : c.variant_named-named.result ≡ shown.named = c.variant_named-named.ensures ∙ ap (λ (values : Values). unwrap_or values.named_field (variant_names variant.fields.form)) c.in_ok-values.ensures.are in
    let need_is : c.variant_need.result ≡ variant_kind (is_unit variant) = c.variant_need.ensures ∙ ap variant_kind unit_is in
    let place_is : c.need_place.result ≡ variant_place (is_unit variant) variant = c.need_place.ensures ∙ ap (λ unit. variant_place unit variant) unit_is in
    record {
      is = same_case _ _ unit_is (c.in_ok-path_text.ensures ∙ (λ i. path_text (c.requires.own i) (last i))) named_is c.as_slice-fields.ensures;
      settled = c.in_ok-settings.ensures.are;
      own = subst (λ kind. IsOwnCase ast shown kind c.need_place.result) (sym need_is)
          (subst (λ place. IsOwnCase ast shown (variant_kind (is_unit variant)) place) (sym place_is) (IsOwnCase.of_variant one.variants variant one.is one.among));
    }
