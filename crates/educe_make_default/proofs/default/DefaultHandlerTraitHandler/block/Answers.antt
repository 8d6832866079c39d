use Rattle.std.proofs.Common.{Option, ap, subst, sym}
use Rattle.std.proofs.lemmas.Bool.{false≢true}
use Rattle.std.specs.Prelude.{is_none}
use Rattle.educe_syntax.specs.Expr.{Expr}
use Rattle.educe_attrs.specs.Phases.{OfHandler}
use Rattle.educe_attrs.specs.Places.{OfPlace}
use Rattle.educe_attrs.specs.Values.{Values}
use Rattle.educe_bound_traits.specs.Traits.{same_trait}
use Rattle.educe_bound_traits.specs.declared.traits.Trait.{Trait}
use Rattle.educe_bound_traits.specs.declared.traits.Trait.TheVariants.{Default, Eq}
use Rattle.educe_settings.specs.Handled.{handling}
use Rattle.educe_settings.specs.Listed.{listed}
use Rattle.educe_settings.specs.Rows.{type_row}
use Rattle.educe_settings.proofs.DefaultCauses.{type_refused}
use Rattle.educe_settings.proofs.ReadBounds.{bound_is}
use Rattle.educe_settings.proofs.Stops.{stop_passed}
use Rattle.educe_make_default.specs.DefaultLaws.{lawful_defaults}
use Rattle.educe_settings_types.specs.Defaults.{IsTyped}
use Rattle.educe_settings_types.proofs.Choices.{typed_by}
use Rattle.educe_make_default.proofs.default.DefaultHandlerTraitHandler.block.Goals as goal

pub seen_types-requires-clause-equal : goal.seen_types-requires-clause-equal
seen_types-requires-clause-equal c = λ is lists. absurd (false≢true (ap (λ (own : Trait). same_trait own Eq) is))

pub returns-in_err-values-clause-err : goal.returns-in_err-values-clause-err
returns-in_err-values-clause-err c =
    let ast = c.args.ast.now in
    stop_passed (OfPlace Default (type_row Default ast) (listed ast) ast.attrs) (OfHandler (handling ast) Default) (type_refused ast)
    c.from_residual.result c.in_err-values.field-0.0 c.from_residual.ensures.1 c.in_err-values.ensures.err

pub choose-requires-clause-typed : goal.choose-requires-clause-typed
choose-requires-clause-typed c =
    let ast = c.args.ast.now in
    subst (λ (value : Option Expr). IsTyped ast c.args.listed.now (is_none value)) (sym c.own_of-bound.ensures.value)
    (typed_by ast c.args.listed.now c.in_ok-values.values c.requires.ready.traits_are c.in_ok-values.ensures.are c.in_ok-values.ensures.uncaused)

pub make_default-requires-clause-bound : goal.make_default-requires-clause-bound
make_default-requires-clause-bound c =
    bound_is Default c.args.ast.now _ c.own_of-bound.result.bound c.in_ok-values.ensures.uncaused (ap (λ (values : Values). values.bound) c.in_ok-values.ensures.are) c.own_of-bound.ensures.bound

pub returns-clause-means : goal.returns-clause-means
returns-clause-means c = λ few. lawful_defaults.evaluates c.args.ast.now _ c.requires.ready.is_read c.in_ok-make_default.ensures.block
