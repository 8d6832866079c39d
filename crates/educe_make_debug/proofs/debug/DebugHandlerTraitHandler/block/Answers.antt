use Rattle.std.proofs.Common.{◌≡◌, true, subst, ap}
use Rattle.std.proofs.lemmas.Bool.{false≢true}
use Rattle.educe_bound_traits.specs.declared.traits.Trait.{Trait}
use Rattle.educe_bound_traits.specs.declared.traits.Trait.TheVariants.{Debug, Eq}
use Rattle.educe_bound_traits.specs.Traits.{is_listed, same_trait}
use Rattle.educe_settings.specs.Listed.{listed}
use Rattle.educe_meaning.proofs.ShownEvaluating.{debug_evaluates}
use Rattle.educe_make_debug.proofs.Enough.{HasEnough, has_enough}
use Rattle.educe_make_debug.proofs.Uncaused.{debug_uncaused}
use Rattle.educe_make_debug.proofs.debug.DebugHandlerTraitHandler.block.Goals as goal

pub seen_types-requires-clause-equal : goal.seen_types-requires-clause-equal
seen_types-requires-clause-equal c = λ is lists. absurd (false≢true (ap (λ (own : Trait). same_trait own Eq) is))

pub returns-clause-means : goal.returns-clause-means
returns-clause-means c = λ few. debug_evaluates c.args.ast.now _ c.requires.ready.is_read few c.in_ok-shown.ensures.read.cases c.in_ok-make_debug.ensures.block

pub returns-clause-uncaused : goal.returns-clause-uncaused
returns-clause-uncaused c =
    let ast = c.args.ast.now in
    let found = c.in_ok-shown.ensures in
    let is_one : is_listed (listed ast) Debug ≡ true = rw (← c.requires.ready.traits_are) c.requires.ready.lists in
    let enough : HasEnough ast = subst HasEnough found.ast (has_enough c.in_ok-shown.shown found.are found.enough) in
    debug_uncaused ast is_one found.typed.own.read found.read enough
