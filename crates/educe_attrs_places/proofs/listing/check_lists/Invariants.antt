use Rattle.std.proofs.Common.{◌≡◌, drop}
use Rattle.educe_attrs_places.specs.Listing.{checked_lists}
use Rattle.educe_attrs_places.proofs.listing.check_lists.Given as goal

abbrev pub invariant-loop-attribute : goal.invariant-loop-attribute
invariant-loop-attribute l = checked_lists l.attributes ≡ checked_lists (drop l.attribute-index l.attributes)
