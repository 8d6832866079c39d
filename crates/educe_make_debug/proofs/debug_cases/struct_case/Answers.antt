use Rattle.std.proofs.Common.{◌≡◌, ◌∙◌, List, refl, ap}
use Rattle.std.specs.Prelude.{unwrap_or}
use Rattle.educe_syntax.specs.Field.{Field}
use Rattle.educe_attrs.specs.Fields.{OfFields}
use Rattle.educe_attrs.specs.Phases.{OfHandler}
use Rattle.educe_attrs.specs.Values.{Values}
use Rattle.educe_bound_traits.specs.declared.traits.Trait.TheVariants.{Debug}
use Rattle.educe_settings.specs.Handled.{handling}
use Rattle.educe_settings.specs.Listed.{listed}
use Rattle.educe_settings.specs.Rows.{struct_names}
use Rattle.educe_settings.specs.Shown.{entry_row, struct_shown, type_text}
use Rattle.educe_settings.proofs.Stops.{stop_passed}
use Rattle.educe_make_debug.specs.Origins.{IsOwnCase}
use Rattle.educe_make_debug.proofs.Cases.{same_case}
use Rattle.educe_settings_types.proofs.ReadCases.{struct_stands, fields_refused}
use Rattle.educe_make_debug.proofs.debug_cases.struct_case.Goals as goal

pub returns-in_err-settings-clause-err : goal.returns-in_err-settings-clause-err
returns-in_err-settings-clause-err c =
    let ast = c.args.task.ast.now in
    let shape = c.args.shape.now in
    let named = c.struct_named-named.result in
    let fields : List Field = c.as_slice-fields.result.now in
    let named_is : named ≡ (struct_shown ast shape).named = c.struct_named-named.ensures ∙ ap (λ (own : Values). unwrap_or own.named_field (struct_names shape.form)) c.requires.own in
    let stands = struct_stands ast c.args.task.listed.now c.requires.typed shape c.requires.shape in
    stop_passed (OfFields Debug (entry_row named) (listed ast) fields) (OfHandler (handling ast) Debug)
    (fields_refused ast (struct_shown ast shape) stands named fields named_is c.as_slice-fields.ensures) c.from_residual.result c.in_err-settings.field-0.0 c.from_residual.ensures.1 c.in_err-settings.ensures.err

pub returns-clause-are : goal.returns-clause-are
returns-clause-are c =
    let ast = c.args.task.ast.now in
    let shape = c.args.shape.now in
    let named_is : c.struct_named-named.result ≡ (struct_shown ast shape).named = c.struct_named-named.ensures ∙ ap (λ (own : Values). unwrap_or own.named_field (struct_names shape.form)) c.requires.own in
    record {
      is = same_case _ _ refl (c.in_ok-type_text.ensures ∙ c.requires.name ∙ ap (type_text ast) c.requires.own) named_is c.as_slice-fields.ensures;
      settled = c.in_ok-settings.ensures.are;
      own = IsOwnCase.of_struct shape c.requires.shape;
    }
