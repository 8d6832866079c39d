use Rattle.std.proofs.Common.{◌≡◌, [], drop}
use Rattle.educe_attrs_places.specs.Listing.{traits_of}
use Rattle.educe_attrs_places.proofs.listing.traits_of.Given as goal

abbrev pub invariant-loop-meta : goal.invariant-loop-meta
invariant-loop-meta l = traits_of [] l.metas ≡ traits_of l.traits (drop l.meta-index l.metas)
