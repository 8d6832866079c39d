use Rattle.std.proofs.Common.{◌≡◌, true, refl, ap}
use Rattle.std.proofs.lemmas.Bool.{false≢true}
use Rattle.std.specs.Prelude.{codes}
use Rattle.educe_attrs.specs.Phases.{OfHandler}
use Rattle.educe_attrs.specs.Places.{OfPlace}
use Rattle.educe_bound_traits.specs.Traits.{is_listed, same_trait}
use Rattle.educe_bound_traits.specs.declared.traits.Trait.{Trait}
use Rattle.educe_bound_traits.specs.declared.traits.Trait.TheVariants.{Hash, Eq}
use Rattle.educe_handlers.proofs.Formed.{function_block}
use Rattle.educe_settings.proofs.Uncaused.{other_clear, fields_uncaused, handler_uncaused}
use Rattle.educe_settings.specs.Handled.{OfShape, handling}
use Rattle.educe_meaning.specs.HashBodies.{IsHashBody}
use Rattle.educe_settings.specs.Listed.{listed}
use Rattle.educe_settings.specs.Rows.{type_row}
use Rattle.educe_settings.proofs.Refused.{type_refused, shape_refused}
use Rattle.educe_settings.proofs.Stops.{stop_passed}
use Rattle.educe_make_hash.specs.Laws.{lawful_hashes}
use Rattle.educe_make_hash.proofs.hash.HashHandlerTraitHandler.block.Goals as goal

pub seen_types-requires-clause-equal : goal.seen_types-requires-clause-equal
seen_types-requires-clause-equal c = λ is lists. absurd (false≢true (ap (λ (own : Trait). same_trait own Eq) is))

pub returns-in_err-bound-clause-err : goal.returns-in_err-bound-clause-err
returns-in_err-bound-clause-err c =
    let ast = c.args.ast.now in
    stop_passed (OfPlace Hash (type_row Hash ast) (listed ast) ast.attrs) (OfHandler (handling ast) Hash) (type_refused Hash refl ast)
    c.from_residual.result c.in_err-bound.field-0.0 c.from_residual.ensures.1 c.in_err-bound.ensures.err

pub returns-in_err-body-clause-err : goal.returns-in_err-body-clause-err
returns-in_err-body-clause-err c =
    let ast = c.args.ast.now in
    stop_passed (OfShape Hash ast ast.shape) (OfHandler (handling ast) Hash) (shape_refused Hash refl ast)
    c.from_residual-in_err-body.result c.in_err-body.field-0.0 c.from_residual-in_err-body.ensures.1 c.in_err-body.ensures.err

pub returns-clause-block : goal.returns-clause-block
returns-clause-block c =
    let ast = c.args.ast.now in
    function_block Hash ast (codes "hash") (IsHashBody ast) _ _ _ c.in_ok-functions.ensures c.in_ok-body.ensures.ok c.in_ok-impl_block.ensures.block

pub returns-clause-means : goal.returns-clause-means
returns-clause-means c = λ few.
    let ast = c.args.ast.now in
    lawful_hashes.evaluates ast c.in_ok-impl_block.field-0.0 c.requires.ready.is_read few (fields_uncaused Hash ast c.in_ok-body.ensures.uncaused)
    (function_block Hash ast (codes "hash") (IsHashBody ast) _ _ _ c.in_ok-functions.ensures c.in_ok-body.ensures.ok c.in_ok-impl_block.ensures.block)

pub returns-clause-uncaused : goal.returns-clause-uncaused
returns-clause-uncaused c =
    let ast = c.args.ast.now in
    let is_one : is_listed (listed ast) Hash ≡ true = rw (← c.requires.ready.traits_are) c.requires.ready.lists in
    handler_uncaused Hash ast c.in_ok-body.ensures.uncaused c.in_ok-bound.ensures.uncaused (other_clear Hash ast refl) refl is_one
