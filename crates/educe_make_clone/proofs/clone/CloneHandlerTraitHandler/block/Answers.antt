use Rattle.std.proofs.Common.{◌≡◌, ◌∙◌, true, inr, refl, ap}
use Rattle.std.proofs.lemmas.Bool.{false≢true}
use Rattle.std.specs.List.{list_any}
use Rattle.educe_attrs.specs.Phases.{OfHandler}
use Rattle.educe_attrs.specs.Places.{OfPlace}
use Rattle.educe_bound_traits.specs.declared.traits.Trait.{Trait}
use Rattle.educe_bound_traits.specs.declared.traits.Trait.TheVariants.{Clone, Eq}
use Rattle.educe_bound_traits.specs.Traits.{is_listed, same_trait}
use Rattle.educe_settings.proofs.Uncaused.{fields_uncaused, handler_uncaused}
use Rattle.educe_settings.specs.Handled.{OfShape, handling}
use Rattle.educe_settings.specs.Listed.{listed}
use Rattle.educe_settings.specs.Rows.{type_row}
use Rattle.educe_settings.proofs.Refused.{type_refused, shape_refused}
use Rattle.educe_settings.proofs.Stops.{stop_passed}
use Rattle.educe_settings_types.specs.Bitwise.{OfCopy}
use Rattle.educe_make_clone.specs.CloneLaws.{lawful_clones}
use Rattle.educe_settings_types.proofs.Bitwise.{copies_known, copy_refused}
use Rattle.educe_settings.specs.Methods.{has_method}
use Rattle.educe_make_clone.proofs.clone.CloneHandlerTraitHandler.block.Goals as goal

pub seen_types-requires-clause-equal : goal.seen_types-requires-clause-equal
seen_types-requires-clause-equal c = λ is lists. absurd (false≢true (ap (λ (own : Trait). same_trait own Eq) is))

pub returns-in_err-bound-clause-err : goal.returns-in_err-bound-clause-err
returns-in_err-bound-clause-err c =
    let ast = c.args.ast.now in
    stop_passed (OfPlace Clone (type_row Clone ast) (listed ast) ast.attrs) (OfHandler (handling ast) Clone) (type_refused Clone refl ast)
    c.from_residual.result c.in_err-bound.field-0.0 c.from_residual.ensures.1 c.in_err-bound.ensures.err

pub returns-in_err-settings-clause-err : goal.returns-in_err-settings-clause-err
returns-in_err-settings-clause-err c =
    let ast = c.args.ast.now in
    stop_passed (OfShape Clone ast ast.shape) (OfHandler (handling ast) Clone) (shape_refused Clone refl ast)
    c.from_residual-in_err-settings.result c.in_err-settings.field-0.0 c.from_residual-in_err-settings.ensures.1 c.in_err-settings.ensures.err

pub returns-in_err-copies-clause-err : goal.returns-in_err-copies-clause-err
returns-in_err-copies-clause-err c =
    let ast = c.args.ast.now in
    stop_passed (OfCopy ast) (OfHandler (handling ast) Clone) (copy_refused ast)
    c.from_residual-in_err-copies.result c.in_err-copies.field-0.0 c.from_residual-in_err-copies.ensures.1 c.in_err-copies.ensures.err

pub make_clone-requires-clause-copies : goal.make_clone-requires-clause-copies
make_clone-requires-clause-copies c =
    let ast = c.args.ast.now in
    c.in_ok-copies.ensures.copies
    ∙ copies_known ast c.has_custom_method.result (c.has_custom_method.ensures ∙ ap (list_any (list_any has_method)) (c.as_slice-settings.ensures ∙ c.in_ok-settings.ensures.are))

pub make_clone-requires-clause-read : goal.make_clone-requires-clause-read
make_clone-requires-clause-read c = fields_uncaused Clone c.args.ast.now c.in_ok-settings.ensures.uncaused

pub returns-clause-means : goal.returns-clause-means
returns-clause-means c = λ few.
    let ast = c.args.ast.now in
    lawful_clones.evaluates ast _ c.requires.ready.is_read few (fields_uncaused Clone ast c.in_ok-settings.ensures.uncaused) c.in_ok-make_clone.ensures.block

pub returns-clause-uncaused : goal.returns-clause-uncaused
returns-clause-uncaused c =
    let ast = c.args.ast.now in
    let is_one : is_listed (listed ast) Clone ≡ true = rw (← c.requires.ready.traits_are) c.requires.ready.lists in
    handler_uncaused Clone ast c.in_ok-settings.ensures.uncaused c.in_ok-bound.ensures.uncaused
    (record { copy = λ e clones lists said. (c.in_ok-copies.ensures.uncaused lists).none_stands e (inr (lists, said)) }) refl is_one
