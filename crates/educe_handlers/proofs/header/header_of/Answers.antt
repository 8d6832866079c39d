use Rattle.educe_meaning.specs.Handlers.{handled_of, traits_before, inherited_from}
use Rattle.educe_meaning.specs.Headers.{AreOf, prerequisites}
use Rattle.educe_settings.specs.Listed.{listed}
use Rattle.educe_meaning.proofs.Inheriting.{noted_read}
use Rattle.educe_handlers.specs.Laws.{lawful_traits}
use Rattle.educe_handlers.proofs.header.header_of.Goals as goal

pub added-requires-clause-noted : goal.added-requires-clause-noted
added-requires-clause-noted c =
    let d = c.args.task.ast.now in noted_read d (handled_of (listed d) (traits_before c.args.task.trait_)) c.args.ctx.now c.requires.ready.noted_are

pub returns-clause-generics : goal.returns-clause-generics
returns-clause-generics c =
    let which = c.args.task.trait_ in
    let d = c.args.task.ast.now in
    let noted = c.args.ctx.now in
    let adds = c.in_ok-added.ensures.adds in
    record {
      params_are = c.in_ok-generics.ensures.params;
      inherited = inherited_from noted (prerequisites which);
      own = adds.own;
      added = c.in_ok-added.added;
      inherited_are = lawful_traits.inherits which d noted c.requires.ready.noted_are;
      added_are = adds.are;
      added_read = c.in_ok-added.ensures.read;
      predicates_are = c.in_ok-generics.ensures.predicates;
    }

pub returns-clause-added : goal.returns-clause-added
returns-clause-added c =
    let which = c.args.task.trait_ in
    let d = c.args.task.ast.now in
    let noted = c.args.ctx.now in
    let adds = c.in_ok-added.ensures.adds in
    record {
      are = AreOf.added which (inherited_from noted (prerequisites which)) adds.own (lawful_traits.inherits which d noted c.requires.ready.noted_are) adds.are;
      read = c.in_ok-added.ensures.read;
    }
