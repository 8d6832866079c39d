use Rattle.std.proofs.Common.{◌≡◌, true, Result, refl, subst, sym}
use Rattle.std.specs.Prelude.{IsTrue, IfOk, IfErr}
use Rattle.std.proofs.lemmas.Result.{IfErr-weaker}
use Rattle.educe_syntax.specs.DeriveInput.{DeriveInput}
use Rattle.educe_attrs.specs.Causes.{OfStop}
use Rattle.educe_attrs.specs.Phases.{OfHandler}
use Rattle.educe_attrs.specs.Stop.{Stop}
use Rattle.educe_bound_traits.specs.Traits.{is_listed}
use Rattle.educe_bound_traits.specs.declared.traits.Trait.{Trait}
use Rattle.educe_bound_traits.specs.declared.traits.Trait.TheVariants as trait
use Rattle.educe_settings.specs.declared.seen_types.SeenTypes.{SeenTypes}
use Rattle.educe_settings.specs.Handled.{OfShape, handling}
use Rattle.educe_settings.specs.Rows.{is_fieldwise}
use Rattle.educe_settings.specs.SeenTypes.{read_of, touched_of}
use Rattle.educe_settings.specs.Types.{AreOfFields, AreTypes}
use Rattle.educe_settings.proofs.Refused.{shape_refused}
use Rattle.educe_settings.proofs.Stops.{stop_returned}
use Rattle.educe_settings_types.proofs.each_trait.seen_types.Goals as goal

module _ (which own : Trait) (is : which ≡ own) (d : DeriveInput) (r : Result SeenTypes Stop) where
  -- the types of this trait are those of the trait that is derived
  types_of_trait : IfOk r (λ t. AreTypes own d (read_of t) (touched_of t)) → IfOk r (λ t. AreTypes which d (read_of t) (touched_of t))
  types_of_trait are = subst (λ w. IfOk r (λ t. AreTypes w d (read_of t) (touched_of t))) (sym is) are

  -- and so are the stops
  stop_of_trait : IfErr r (λ s. OfStop (OfHandler (handling d) own) s) → IfErr r (λ s. OfStop (OfHandler (handling d) which) s)
  stop_of_trait stopped = subst (λ w. IfErr r (λ s. OfStop (OfHandler (handling d) w) s)) (sym is) stopped

  -- the types of the fields that take part
  fields_of_trait : IfOk r (λ t. AreOfFields which d (read_of t) (touched_of t)) → IfOk r (λ t. AreOfFields own d (read_of t) (touched_of t))
  fields_of_trait are = subst (λ w. IfOk r (λ t. AreOfFields w d (read_of t) (touched_of t))) is are

  -- a stop at a variant or a field of a trait that is read field by field
  fieldwise_stop : IsTrue (is_fieldwise own) → IfErr r (λ s. OfStop (OfShape which d d.shape) s) → IfErr r (λ s. OfStop (OfHandler (handling d) which) s)
  fieldwise_stop fieldwise stopped =
      stop_returned (OfShape which d d.shape) (OfHandler (handling d) which) (shape_refused which (subst (λ w. IsTrue (is_fieldwise w)) (sym is) fieldwise) d) r stopped

pub returns-in-PartialEq-clause-types : goal.returns-in-PartialEq-clause-types
returns-in-PartialEq-clause-types c =
    let ast = c.args.task.ast.now in
    types_of_trait c.args.task.trait_ trait.PartialEq c.in-PartialEq.is ast c.types_of_fields.result (fields_of_trait c.args.task.trait_ trait.PartialEq c.in-PartialEq.is ast c.types_of_fields.result c.types_of_fields.ensures.types)

pub returns-in-PartialEq-clause-err : goal.returns-in-PartialEq-clause-err
returns-in-PartialEq-clause-err c = fieldwise_stop c.args.task.trait_ trait.PartialEq c.in-PartialEq.is c.args.task.ast.now c.types_of_fields.result refl c.types_of_fields.ensures.err

pub returns-in-PartialOrd-clause-types : goal.returns-in-PartialOrd-clause-types
returns-in-PartialOrd-clause-types c =
    let ast = c.args.task.ast.now in
    types_of_trait c.args.task.trait_ trait.PartialOrd c.in-PartialOrd.is ast c.types_of_fields-in-PartialOrd.result (fields_of_trait c.args.task.trait_ trait.PartialOrd c.in-PartialOrd.is ast c.types_of_fields-in-PartialOrd.result c.types_of_fields-in-PartialOrd.ensures.types)

pub returns-in-PartialOrd-clause-err : goal.returns-in-PartialOrd-clause-err
returns-in-PartialOrd-clause-err c = fieldwise_stop c.args.task.trait_ trait.PartialOrd c.in-PartialOrd.is c.args.task.ast.now c.types_of_fields-in-PartialOrd.result refl c.types_of_fields-in-PartialOrd.ensures.err

pub returns-in-Ord-clause-types : goal.returns-in-Ord-clause-types
returns-in-Ord-clause-types c =
    let ast = c.args.task.ast.now in
    types_of_trait c.args.task.trait_ trait.Ord c.in-Ord.is ast c.types_of_fields-in-Ord.result (fields_of_trait c.args.task.trait_ trait.Ord c.in-Ord.is ast c.types_of_fields-in-Ord.result c.types_of_fields-in-Ord.ensures.types)

pub returns-in-Ord-clause-err : goal.returns-in-Ord-clause-err
returns-in-Ord-clause-err c = fieldwise_stop c.args.task.trait_ trait.Ord c.in-Ord.is c.args.task.ast.now c.types_of_fields-in-Ord.result refl c.types_of_fields-in-Ord.ensures.err

pub returns-in-Hash-clause-types : goal.returns-in-Hash-clause-types
returns-in-Hash-clause-types c =
    let ast = c.args.task.ast.now in
    types_of_trait c.args.task.trait_ trait.Hash c.in-Hash.is ast c.types_of_fields-in-Hash.result (fields_of_trait c.args.task.trait_ trait.Hash c.in-Hash.is ast c.types_of_fields-in-Hash.result c.types_of_fields-in-Hash.ensures.types)

pub returns-in-Hash-clause-err : goal.returns-in-Hash-clause-err
returns-in-Hash-clause-err c = fieldwise_stop c.args.task.trait_ trait.Hash c.in-Hash.is c.args.task.ast.now c.types_of_fields-in-Hash.result refl c.types_of_fields-in-Hash.ensures.err

pub checked_types-requires-clause-uncaused : goal.checked_types-requires-clause-uncaused
checked_types-requires-clause-uncaused c = λ lists. record {
  none_stands = λ e cause. (c.requires.equal c.in-Eq.is lists).none_stands e (shape_refused trait.PartialEq refl c.args.task.ast.now e cause);
}

pub returns-in-Eq-clause-types : goal.returns-in-Eq-clause-types
returns-in-Eq-clause-types c = types_of_trait c.args.task.trait_ trait.Eq c.in-Eq.is c.args.task.ast.now c.checked_types.result c.checked_types.ensures.are

pub returns-in-Eq-clause-err : goal.returns-in-Eq-clause-err
returns-in-Eq-clause-err c =
    let cause = OfHandler (handling c.args.task.ast.now) c.args.task.trait_ in
    IfErr-weaker c.checked_types.result _ (λ s. OfStop cause s) (λ s is. subst (OfStop cause) (sym is) tt) c.checked_types.ensures.err

pub returns-in-Debug-clause-types : goal.returns-in-Debug-clause-types
returns-in-Debug-clause-types c = types_of_trait c.args.task.trait_ trait.Debug c.in-Debug.is c.args.task.ast.now c.debug_types.result c.debug_types.ensures.types

pub returns-in-Debug-clause-err : goal.returns-in-Debug-clause-err
returns-in-Debug-clause-err c = stop_of_trait c.args.task.trait_ trait.Debug c.in-Debug.is c.args.task.ast.now c.debug_types.result c.debug_types.ensures.err

pub returns-in-Clone-clause-types : goal.returns-in-Clone-clause-types
returns-in-Clone-clause-types c = types_of_trait c.args.task.trait_ trait.Clone c.in-Clone.is c.args.task.ast.now c.clone_types.result c.clone_types.ensures.types

pub returns-in-Clone-clause-err : goal.returns-in-Clone-clause-err
returns-in-Clone-clause-err c = stop_of_trait c.args.task.trait_ trait.Clone c.in-Clone.is c.args.task.ast.now c.clone_types.result c.clone_types.ensures.err

pub returns-in-Default-clause-types : goal.returns-in-Default-clause-types
returns-in-Default-clause-types c = types_of_trait c.args.task.trait_ trait.Default c.in-Default.is c.args.task.ast.now c.default_types.result c.default_types.ensures.types

pub returns-in-Default-clause-err : goal.returns-in-Default-clause-err
returns-in-Default-clause-err c = stop_of_trait c.args.task.trait_ trait.Default c.in-Default.is c.args.task.ast.now c.default_types.result c.default_types.ensures.err

pub default_types-requires-clause-lists : goal.default_types-requires-clause-lists
default_types-requires-clause-lists c = subst (λ which. is_listed c.args.task.listed.now which ≡ true) c.in-Default.is c.requires.lists

pub returns-in_ok-copied_types-in-Copy-clause-types : goal.returns-in_ok-copied_types-in-Copy-clause-types
returns-in_ok-copied_types-in-Copy-clause-types c =
    let ast = c.args.task.ast.now in
    let types = c.in_ok-copied_types-in-Copy.field-0 in
    subst (λ which. AreTypes which ast (read_of types) (touched_of types)) (sym c.in-Copy.is) c.in_ok-copied_types-in-Copy.ensures
