use Rattle.std.proofs.Common.{◌≡◌, ◌∙◌, true, false, refl, ap, sym, subst}
use Rattle.std.specs.Prelude.{IsTrue}
use Rattle.std.proofs.lemmas.Bool.{false≢true}
use Rattle.educe_syntax.specs.Few.{all_fields}
use Rattle.educe_attrs.specs.Fields.{HaveNoCauses}
use Rattle.educe_attrs.specs.Phases.{OfHandler}
use Rattle.educe_attrs.specs.Places.{OfPlace}
use Rattle.educe_bound_traits.specs.declared.traits.Trait.{Trait}
use Rattle.educe_bound_traits.specs.declared.traits.Trait.TheVariants.{Clone, Eq}
use Rattle.educe_bound_traits.specs.Traits.{is_listed, same_trait}
use Rattle.educe_body_forms.specs.declared.comparison.Comparison.{Comparison}
use Rattle.educe_body_forms.specs.declared.comparison.Comparison.TheVariants.{PartialEq, PartialOrd, Ord}
use Rattle.educe_cmp.specs.Laws.{lawful_comparisons}
use Rattle.educe_meaning.specs.Comparisons.{trait_of}
use Rattle.educe_settings.specs.Handled.{OfShape, handling}
use Rattle.educe_settings.specs.Listed.{listed}
use Rattle.educe_settings.specs.Rows.{is_fieldwise, type_row, field_row}
use Rattle.educe_settings.proofs.Stops.{stop_passed}
use Rattle.educe_settings.proofs.Refused.{type_refused, shape_refused}
use Rattle.educe_meaning.proofs.Fieldwise.{comparison_fieldwise}
use Rattle.educe_settings.proofs.Uncaused.{other_clear, fields_uncaused, handler_uncaused}
use Rattle.educe_cmp.proofs.Blocked.{block_is}
use Rattle.educe_cmp.proofs.handling.comparison_block.Goals as goal

-- the trait of a comparison is read field by field
fieldwise : (which : Comparison) (own : Trait) → own ≡ trait_of which → IsTrue (is_fieldwise own)
fieldwise which own same = subst (λ of. IsTrue (is_fieldwise of)) (sym same) (comparison_fieldwise which)

-- and is not `Clone`
apart : (which : Comparison) → same_trait (trait_of which) Clone ≡ false
apart PartialEq = refl
apart PartialOrd = refl
apart Ord = refl

-- nor `Eq`
other : (which : Comparison) → trait_of which ≡ Eq → ⊥
other PartialEq same = false≢true (ap (λ (own : Trait). same_trait own Eq) same)
other PartialOrd same = false≢true (ap (λ (own : Trait). same_trait own Eq) same)
other Ord same = false≢true (ap (λ (own : Trait). same_trait own Eq) same)

pub returns-in_err-bound-clause-err : goal.returns-in_err-bound-clause-err
returns-in_err-bound-clause-err c =
    let which = c.args.task.trait_ in
    let ast = c.args.task.ast.now in
    stop_passed (OfPlace which (type_row which ast) (listed ast) ast.attrs) (OfHandler (handling ast) which) (type_refused which (fieldwise c.args.which which c.requires.same) ast)
    c.from_residual.result c.in_err-bound.field-0.0 c.from_residual.ensures.1 c.in_err-bound.ensures.err

pub returns-in_err-body-clause-err : goal.returns-in_err-body-clause-err
returns-in_err-body-clause-err c =
    let which = c.args.task.trait_ in
    let ast = c.args.task.ast.now in
    stop_passed (OfShape which ast ast.shape) (OfHandler (handling ast) which) (shape_refused which (fieldwise c.args.which which c.requires.same) ast)
    c.from_residual-in_err-body.result c.in_err-body.field-0.0 c.from_residual-in_err-body.ensures.1 c.in_err-body.ensures.err

pub seen_types-requires-clause-equal : goal.seen_types-requires-clause-equal
seen_types-requires-clause-equal c = λ is lists. absurd (other c.args.which (sym c.requires.same ∙ is))

pub returns-clause-block : goal.returns-clause-block
returns-clause-block c =
    block_is c.args.which c.args.task.trait_ c.args.task.ast.now c.in_ok-body.body _ c.in_ok-impl_block.field-0.0 c.requires.same c.in_ok-functions.ensures c.in_ok-body.ensures.ok c.in_ok-impl_block.ensures.block

pub returns-clause-means : goal.returns-clause-means
returns-clause-means c = λ few.
    let ast = c.args.task.ast.now in
    let own = c.in_ok-impl_block.field-0.0 in
    let read = subst (λ own. HaveNoCauses own (field_row own) (listed ast) (all_fields ast)) c.requires.same (fields_uncaused c.args.task.trait_ ast c.in_ok-body.ensures.uncaused) in
    lawful_comparisons.evaluates c.args.which ast own c.requires.ready.is_read few read
    (block_is c.args.which c.args.task.trait_ ast c.in_ok-body.body _ own c.requires.same c.in_ok-functions.ensures c.in_ok-body.ensures.ok c.in_ok-impl_block.ensures.block)

pub returns-clause-uncaused : goal.returns-clause-uncaused
returns-clause-uncaused c =
    let which = c.args.task.trait_ in
    let ast = c.args.task.ast.now in
    let is_one : is_listed (listed ast) which ≡ true = rw (← c.requires.ready.traits_are) c.requires.ready.lists in
    let clear = other_clear which ast (ap (λ (own : Trait). same_trait own Clone) c.requires.same ∙ apart c.args.which) in
    handler_uncaused which ast c.in_ok-body.ensures.uncaused c.in_ok-bound.ensures.uncaused clear (fieldwise c.args.which which c.requires.same) is_one
