use Rattle.std.proofs.Common.{◌≡◌, ◌∙◌, List, map, ap, subst}
use Rattle.std.specs.Prelude.{OnOk, unwrap_or}
use Rattle.educe_syntax.specs.Field.{Field}
use Rattle.educe_attrs.specs.Fields.{OfFields}
use Rattle.educe_attrs.specs.Phases.{OfHandler}
use Rattle.educe_attrs.specs.Values.{Values}
use Rattle.educe_bound_traits.specs.declared.traits.Trait.TheVariants.{Debug}
use Rattle.educe_settings.specs.Handled.{handling}
use Rattle.educe_settings.specs.Listed.{listed}
use Rattle.educe_settings.specs.Rows.{variant_names}
use Rattle.educe_settings.specs.Settings.{Kept, kept_by}
use Rattle.educe_settings.specs.Shown.{entry_row, entry_settings, variant_shown, shown_fields}
use Rattle.educe_settings.proofs.Stops.{stop_returned}
use Rattle.educe_settings_types.specs.Visits.{SeesEach}
use Rattle.educe_settings_types.proofs.ReadCases.{variant_stands, fields_refused}
use Rattle.educe_settings_types.proofs.debug_types.see_variant.Goals as goal

pub returns-clause-types : goal.returns-clause-types
returns-clause-types c =
    let ast = c.args.task.ast.now in
    let own = c.args.variant.now in
    let fields_are = c.as_slice.ensures in
    let named_is : c.variant_named-named.result ≡ (variant_shown ast own).named = c.variant_named-named.ensures ∙ ap (λ (values : Values). unwrap_or values.named_field (variant_names own.fields.form)) c.in_ok-values.ensures.are in
    let same : kept_by 0 c.as_slice.result.now (map (entry_settings c.variant_named-named.result ast) c.as_slice.result.now) ≡ shown_fields ast (variant_shown ast own) =
    (λ i. kept_by 0 (fields_are i) (map (entry_settings (named_is i) ast) (fields_are i))) in
    subst (λ (shown : List Kept). OnOk c.see_shown.result (SeesEach shown c.args.types.now c.see_shown.new.types)) same c.see_shown.ensures.types

pub returns-clause-err : goal.returns-clause-err
returns-clause-err c =
    let ast = c.args.task.ast.now in
    let own = c.args.variant.now in
    let named = c.variant_named-named.result in
    let fields : List Field = c.as_slice.result.now in
    let named_is : named ≡ (variant_shown ast own).named = c.variant_named-named.ensures ∙ ap (λ (values : Values). unwrap_or values.named_field (variant_names own.fields.form)) c.in_ok-values.ensures.are in
    let stands = variant_stands ast c.args.task.listed.now c.requires.typed own c.requires.variant c.in_ok-values.ensures.uncaused in
    stop_returned (OfFields Debug (entry_row named) (listed ast) fields) (OfHandler (handling ast) Debug)
    (fields_refused ast (variant_shown ast own) stands named fields named_is c.as_slice.ensures) c.see_shown.result c.see_shown.ensures.err
