use Rattle.std.proofs.Common.{◌≡◌, ℕ, ◌||◌, take}
use Rattle.std.specs.Ordering.{nat_cmp}
use Rattle.std.specs.BTreeSet.{contains}
use Rattle.educe_bound_classes.specs.Places.{is_among}
use Rattle.educe_bound_classes.proofs.places.add_each.Given as goal

abbrev pub invariant-loop-place : goal.invariant-loop-place
invariant-loop-place l = (place : ℕ) → contains nat_cmp l.found place ≡ (contains nat_cmp l.initial.found place || is_among (take l.place-index l.places) place)
