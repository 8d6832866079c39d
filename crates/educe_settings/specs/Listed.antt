-- The traits that a definition lists.
use Rattle.std.specs.Prelude.{List}
use Rattle.std.specs.List.{filter}
use Rattle.educe_syntax.specs.DeriveInput.{DeriveInput}
use Rattle.educe_syntax.specs.Parsed.{end_of}
use Rattle.educe_bound_traits.specs.declared.traits.Trait.{Trait}
use Rattle.educe_bound_traits.specs.Traits.{variants, is_listed}
use Rattle.educe_attrs.specs.Causes.{Cause}
use Rattle.educe_attrs.specs.Listing.{listed_traits, OfListing}

-- The traits that a definition lists, as they are written.
abbrev pub listed : DeriveInput → List Trait
listed definition = listed_traits definition.attrs

-- The listed traits in the fixed order, in which items are written.
abbrev pub listed_in_order : DeriveInput → List Trait
listed_in_order definition = filter (is_listed (listed definition)) variants

-- Why what a definition lists is rejected.
abbrev pub IsListingCause : DeriveInput → Cause
IsListingCause definition = OfListing definition.attrs (end_of definition.tokens)
