use Rattle.std.proofs.Common.{◌≡◌, ◌∙◌, true, false, ap, sym}
use Rattle.educe_attrs.specs.Phases.{OfHandler}
use Rattle.educe_bound_traits.specs.Traits.{is_listed}
use Rattle.educe_settings.specs.Handled.{handling, IsListedCause}
use Rattle.educe_meaning.specs.Handlers.{traits_before}
use Rattle.educe_settings.specs.Listed.{listed}
use Rattle.educe_settings.proofs.Stops.{stop_returned}
use Rattle.educe_core.proofs.Composing.{listed_answered, unlisted_more, listed_refused}
use Rattle.educe_core.proofs.composition.handle.Goals as goal

pub trait_meta_handler-requires-clause-ready : goal.trait_meta_handler-requires-clause-ready
trait_meta_handler-requires-clause-ready g c = record {
  is_read = c.requires.is_read;
  traits_are = c.requires.listed;
  lists = ap (is_listed c.args.listed.now) (sym c.TRAIT.ensures) ∙ sym c.is_listed.ensures ∙ c.if-is_listed.true;
  uncaused = c.requires.before.uncaused;
  noted_are = c.requires.before.noted_are;
}

pub returns-then-is_listed-clause-through : goal.returns-then-is_listed-clause-through
returns-then-is_listed-clause-through g c =
    let which = g.H.TraitHandler.TRAIT in
    let d = c.args.ast.now in
    let lists : is_listed (listed d) which ≡ true = rw (← c.requires.listed, ← c.TRAIT.ensures) (sym c.is_listed.ensures ∙ c.if-is_listed.true) in
    let ran = c.trait_meta_handler in
    listed_answered (traits_before which) which d c.args.ctx.now c.args.items.now c.requires.before ran.result ran.new.ctx ran.new.items lists ran.ensures.adds ran.ensures.means ran.ensures.notes
    ran.ensures.uncaused

pub returns-then-is_listed-clause-err : goal.returns-then-is_listed-clause-err
returns-then-is_listed-clause-err g c =
    let which = g.H.TraitHandler.TRAIT in
    let d = c.args.ast.now in
    let lists : is_listed (listed d) which ≡ true = rw (← c.requires.listed, ← c.TRAIT.ensures) (sym c.is_listed.ensures ∙ c.if-is_listed.true) in
    stop_returned (OfHandler (handling d) which) (IsListedCause d) (listed_refused d which lists) c.trait_meta_handler.result c.trait_meta_handler.ensures.err

pub returns-else-is_listed-clause-through : goal.returns-else-is_listed-clause-through
returns-else-is_listed-clause-through g c =
    let which = g.H.TraitHandler.TRAIT in
    let d = c.args.ast.now in
    let fails : is_listed (listed d) which ≡ false = rw (← c.requires.listed, ← c.TRAIT.ensures) (sym c.is_listed.ensures ∙ c.if-is_listed.false) in
    unlisted_more (traits_before which) which d c.args.ctx.now c.args.items.now c.requires.before fails
