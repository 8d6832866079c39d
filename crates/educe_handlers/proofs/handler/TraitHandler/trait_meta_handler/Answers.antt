use Rattle.std.proofs.Common.{◌≡◌, ◌≤◌, ◌^◌, true, arith, length}
use Rattle.educe_bound_traits.specs.Traits.{is_listed}
use Rattle.educe_handlers.proofs.Headed.{noted_through}
use Rattle.educe_settings.specs.Listed.{listed}
use Rattle.educe_handlers.proofs.handler.TraitHandler.trait_meta_handler.Goals as goal

pub returns-clause-adds : goal.returns-clause-adds
returns-clause-adds g c = record { own = c.in_ok-own.own; is = c.in_ok-append.ensures.ok; block = c.in_ok-own.ensures.block }

pub returns-clause-means : goal.returns-clause-means
returns-clause-means g c =
    let few : length c.args.ast.now.tokens ≤ 2 ^ 64 = rw (← c.len-count.ensures) (omega (arith, c.len-count.auto)) in
    record { own = c.in_ok-own.own; is = c.in_ok-append.ensures.ok; each = c.in_ok-own.ensures.means few }

pub returns-clause-notes : goal.returns-clause-notes
returns-clause-notes g c =
    let which = g.Self.TraitHandler.TRAIT in
    let ast = c.args.ast.now in
    let is_one : is_listed (listed ast) which ≡ true = rw (← c.requires.ready.traits_are) c.requires.ready.lists in
    noted_through ast which is_one c.args.ctx.now _ _ c.requires.ready.noted_are c.in_ok-note_predicates.ensures.ok c.TRAIT.ensures c.in_ok-own.ensures.added
