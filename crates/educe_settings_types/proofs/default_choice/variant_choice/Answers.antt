use Rattle.std.proofs.Common.{◌≡◌, ◌∙◌, ◌<◌, List, None, map, length, get_or, inr, ap, subst, sym, arith}
use Rattle.educe_tokens.specs.declared.span.Span.{Span}
use Rattle.educe_syntax.specs.Variant.{Variant}
use Rattle.educe_attrs.specs.FieldSettings.{FieldSettings}
use Rattle.educe_attrs.specs.Phases.{OfHandler}
use Rattle.educe_bound_traits.specs.declared.traits.Trait.TheVariants.{Default}
use Rattle.educe_settings.specs.Cases.{fields_in}
use Rattle.educe_settings.specs.Defaults.{type_values, is_written}
use Rattle.educe_settings.specs.Handled.{handling}
use Rattle.educe_settings.proofs.Stops.{stop_passed}
use Rattle.educe_settings_types.specs.Defaults.{settings_by, IsNone}
use Rattle.educe_settings_types.proofs.Choices.{none_from}
use Rattle.educe_settings.proofs.Growing.{image_at}
use Rattle.educe_settings_types.proofs.Marked.{place_chosen, none_refused}
use Rattle.educe_settings_types.proofs.default_choice.variant_choice.Goals as goal

pub returns-in_err-place-clause-err : goal.returns-in_err-place-clause-err
returns-in_err-place-clause-err c =
    let ast = c.args.task.ast.now in
    let marks = c.args.marks.now in
    let none : (type_values ast).expression ≡ None = none_from (type_values ast).expression (sym c.requires.typed.bare_is) in
    stop_passed (IsNone marks c.args.own) (OfHandler (handling ast) Default)
    (λ e found. inr (none_refused ast c.requires.typed.own c.args.variants.now c.requires.shape none marks e c.requires.marks c.requires.marks_read (subst (λ (span : Span). IsNone marks span e) c.requires.own found)))
    c.from_residual.result c.in_err-place.field-0.0 c.from_residual.ensures.1 c.in_err-place.ensures.err

pub returns-clause-are : goal.returns-clause-are
returns-clause-are c =
    let ast = c.args.task.ast.now in
    let variants = c.args.variants.now in
    let variant = c.index-variants-place.result in
    let place = c.in_ok-place.place in
    let less : place < length variants = omega (arith, c.in_ok-place.ensures.within, c.requires.marks_each) in
    let Values : Variant → List FieldSettings = λ v. map (settings_by (is_written ast variants v) ast) (fields_in v) in
    let none : (type_values ast).expression ≡ None = none_from (type_values ast).expression (sym c.requires.typed.bare_is) in
    let chosen = place_chosen ast variants c.requires.shape none c.args.marks.now place variant c.requires.marks c.in_ok-place.ensures.ok c.index-variants-place.is in
    let settings = c.swap_remove-settings.result in
    let at = c.swap_remove-settings.ensures.value ∙ ap (λ (all : List (List FieldSettings)). get_or all place settings) c.into_items-values.ensures in
    let are = image_at Values variants c.args.values place variant settings c.requires.values less c.index-variants-place.is at in
    (place, chosen.choice_is, are ∙ (λ i. map (settings_by (chosen.written i) ast) (fields_in variant)))
