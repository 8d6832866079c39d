use Rattle.std.proofs.Common.{◌≡◌, ℕ, ◌<◌, Some}
use Rattle.std.specs.Prelude.{slice_get}
use Rattle.educe_tree.specs.declared.generics.GenericParam.{GenericParam}
use Rattle.educe_bound_classes.specs.Places.{IsPlaced}
use Rattle.educe_bound_classes.proofs.places.type_places.Given as goal

abbrev pub invariant-loop-place : goal.invariant-loop-place
invariant-loop-place l = (k : ℕ) → k < l.place → (p : GenericParam) → slice_get l.params k ≡ Some p → IsPlaced p k l.places
