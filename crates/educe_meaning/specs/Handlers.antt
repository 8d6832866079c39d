-- What the handler of a trait is asked for, and what it adds to the items and notes for later ones.
use Rattle.std.specs.Prelude.{◌≡◌, true, List, [], ◌∷◌, ◌++◌, if◌then◌else◌}
use Rattle.std.specs.List.{filter, flat_map, before_first, AllByRecursion, AllZip}
use Rattle.educe_syntax.specs.DeriveInput.{DeriveInput}
use Rattle.educe_syntax.specs.Refusal.{IsDefinition}
use Rattle.educe_syntax.specs.WherePredicate.{WherePredicate}
use Rattle.educe_bound_traits.specs.declared.traits.Trait.{Trait}
use Rattle.educe_bound.specs.Predicates.{Key, keys_of, AreRead}
use Rattle.educe_bound_traits.specs.Traits.{variants, is_listed, same_trait}
use Rattle.educe_attrs.specs.Causes.{NoCause}
use Rattle.educe_attrs.specs.Phases.{OfHandler}
use Rattle.educe_body_items.specs.declared.items.Item.{Item}
use Rattle.educe_meaning.specs.Blocks.{IsBlock, EachEvaluates}
use Rattle.educe_settings.specs.Handled.{handling}
use Rattle.educe_meaning.specs.Headers.{ImplAdds}
use Rattle.educe_settings.specs.Listed.{listed}

-- The traits that are handled before this one.
abbrev pub traits_before : Trait → List Trait
traits_before which = before_first (same_trait which) variants

-- The traits that are handled before this one, and this one.
abbrev pub traits_through : Trait → List Trait
traits_through which = traits_before which ++ which ∷ []

-- The handled traits that the first list contains.
abbrev pub handled_of : List Trait → List Trait → List Trait
handled_of traits done = filter (is_listed traits) done

-- What a handler notes for later ones: its trait, and the predicates that its impl adds.
pub record Noted : Type 0 where
  pub which : Trait
  pub added : List WherePredicate

-- What the handler of a trait notes for later ones.
pub record IsNoted (definition : DeriveInput) (which : Trait) (noted : Noted) : Type 0 where
  pub which_is : noted.which ≡ which
  pub adds : ImplAdds definition which noted.added

-- The handlers of those of these traits that are listed noted this, in their order.
abbrev pub AreNoted : DeriveInput → List Trait → List Noted → Type 0
AreNoted definition done noted = AllZip (IsNoted definition) (handled_of (listed definition) done) noted

-- Each predicate that is noted is the reading of its tokens.
abbrev pub AreNotedRead : List Noted → Type 0
AreNotedRead noted = AllByRecursion (λ n. AreRead n.added) noted

-- The predicates that are noted of a trait, by their tokens; none where it was not handled.
abbrev pub noted_of : Trait → List Noted → List Key
noted_of which [] = []
noted_of which (n ∷ ns) = if same_trait n.which which then keys_of n.added else noted_of which ns

-- The predicates that are noted of these traits, one trait behind the other.
abbrev pub inherited_from : List Noted → List Trait → List Key
inherited_from noted traits = flat_map (λ which. noted_of which noted) traits

-- The handlers of those of these traits that are listed have no cause.
abbrev pub AreUncaused : DeriveInput → List Trait → Type 0
AreUncaused definition done = AllByRecursion (λ which. is_listed (listed definition) which ≡ true → NoCause (OfHandler (handling definition) which)) done

-- The definition is ready for the handler of this trait: it is the reading of its tokens, with distinct names; it lists these
-- traits, this one among them; and the handlers before this one have no cause, and the context holds what they noted.
pub record IsReady (which : Trait) (definition : DeriveInput) (traits : List Trait) (noted : List Noted) : Type 0 where
  pub is_read : IsDefinition definition.tokens definition
  pub traits_are : traits ≡ listed definition
  pub lists : is_listed traits which ≡ true
  pub uncaused : AreUncaused definition (traits_before which)
  pub noted_are : AreNoted definition (traits_before which) noted

-- The items before are kept, and behind them stands the block of the trait.
pub record AddsBlock (which : Trait) (definition : DeriveInput) (before after : List Item) : Type 0 where
  pub own : List Item
  pub is : after ≡ before ++ own
  pub block : IsBlock which definition own

-- The items before are kept, and the functions of those behind them evaluate to what their traits mean.
pub record AddsMeaning (definition : DeriveInput) (before after : List Item) : Type 0 where
  pub own : List Item
  pub is : after ≡ before ++ own
  pub each : AllByRecursion (EachEvaluates definition) own
