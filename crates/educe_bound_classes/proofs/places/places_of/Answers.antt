use Rattle.std.proofs.Common.{List, ℕ, Bor, map, ◌∷◌, [], sym, subst}
use Rattle.std.specs.Map.Iter.{deref}
use Rattle.std.proofs.lemmas.List.{map-append}
use Rattle.educe_bound_classes.specs.Places.{HaveTheirPlaces}
use Rattle.educe_bound_classes.proofs.Declared.{have_more}
use Rattle.educe_bound_classes.proofs.places.places_of.Goals as goal

pub loop-name-preserved : goal.loop-name-preserved
loop-name-preserved c =
    subst (λ (names : List (Bor (List ℕ))). HaveTheirPlaces c.args.places.now names c.add_places.new.found) (sym (map-append deref c.loop-name.yielded (c.in-Some.name ∷ [])))
    (have_more c.args.places.now (map deref c.loop-name.yielded) c.in-Some.name.now c.loop-name.found c.add_places.new.found c.loop-name.invariant c.in_ok-add_places.ensures)
