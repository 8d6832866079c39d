-- What the handlers of several traits, one behind the other, come to.
use Rattle.std.specs.Prelude.{List}
use Rattle.std.specs.List.{AllByRecursion}
use Rattle.educe_syntax.specs.DeriveInput.{DeriveInput}
use Rattle.educe_bound_traits.specs.declared.traits.Trait.{Trait}
use Rattle.educe_body_items.specs.declared.items.Item.{Item}
use Rattle.educe_meaning.specs.Blocks.{Blocks, EachEvaluates}
use Rattle.educe_meaning.specs.Handlers.{Noted, AreNoted, AreUncaused, handled_of}
use Rattle.educe_settings.specs.Listed.{listed}

-- Each of these traits that is listed was handled, and no other trait: the context holds what their handlers noted; the items are
-- their blocks, one behind the other, whose functions evaluate to what the traits mean; and no cause of theirs stands.
pub record AreHandled (done : List Trait) (definition : DeriveInput) (noted : List Noted) (items : List Item) : Type 0 where
  pub noted_are : AreNoted definition done noted
  pub blocks : Blocks (handled_of (listed definition) done) definition items
  pub evaluates : AllByRecursion (EachEvaluates definition) items
  pub uncaused : AreUncaused definition done
