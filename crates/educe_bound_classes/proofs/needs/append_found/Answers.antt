use Rattle.std.proofs.Common.{◌≡◌, ℕ, Bool, List, [], ◌∷◌, ◌++◌, map, filter, ap, sym, subst, ◌∙◌, append-nil}
use Rattle.std.specs.List.{flat_map}
use Rattle.std.specs.Map.Iter.{deref}
use Rattle.std.proofs.lemmas.List.{map-append}
use Rattle.std.proofs.lemmas.List.Concat.{flat_map-append}
use Rattle.std.proofs.lemmas.List.Elements.{filter-append}
use Rattle.std.proofs.lemmas.Map.Iter.{iter_end}
use Rattle.educe_tree.specs.declared.generics.GenericParam.{GenericParam}
use Rattle.educe_bound_classes.specs.Asked.{AddsNames}
use Rattle.educe_bound_classes.specs.Places.{names_at}
use Rattle.educe_bound_classes.specs.Texts.{has_text}
use Rattle.educe_bound_classes.proofs.Asking.{adds_more_names}
use Rattle.educe_bound_classes.proofs.Declared.{found_in_order}
use Rattle.educe_bound_classes.proofs.needs.append_found.Goals as goal

-- the names that are found at one more place
one_more : (test : List ℕ → Bool) (params : List GenericParam) (ks : List ℕ) (k : ℕ) → filter test (flat_map (names_at params) (ks ++ k ∷ [])) ≡ filter test (flat_map (names_at params) ks) ++ filter test (names_at params k)
one_more test params ks k =
    ap (filter test) (flat_map-append (names_at params) ks (k ∷ []) ∙ ap (λ ns. flat_map (names_at params) ks ++ ns) (append-nil (names_at params k)))
    ∙ filter-append test (flat_map (names_at params) ks) (names_at params k)

pub loop-place-preserved : goal.loop-place-preserved
loop-place-preserved c =
    let test = has_text c.args.found.now in
    let params = c.args.asker.now.params.now in
    let known = map deref c.loop-place.yielded in
    let place = c.in-Some.place in
    let old = c.args.asked.now.items in
    let new = c.append_at.new.asked.items in
    let one = subst (λ (ps : List GenericParam). AddsNames (filter test (names_at ps place.now)) c.loop-place.asked.items new) c.listed.ensures c.in_ok-append_at.ensures.ok in
    subst (λ (names : List (List ℕ)). AddsNames names old new)
    (sym (ap (λ (ks : List ℕ). filter test (flat_map (names_at params) ks)) (map-append deref c.loop-place.yielded (place ∷ [])) ∙ one_more test params known place.now))
    (adds_more_names (filter test (flat_map (names_at params) known)) (filter test (names_at params place.now)) old c.loop-place.asked.items new c.loop-place.invariant one)

pub returns : goal.returns
returns c =
    let test = has_text c.args.found.now in
    let params = c.args.asker.now.params.now in
    let places = c.in_ok-places.places in
    let gives = c.into_iter-place-iterator.ensures.into_iter_gives in
    let end = iter_end deref places.keys c.loop-place.yielded c.into_iter-place-iterator.result c.loop-place.place-iterator c.next.new.self c.next.result gives.0 c.loop-place.yielded_by c.in-None.is c.next.ensures.steps in
    record {
      ok = subst (λ (names : List (List ℕ)). AddsNames names c.args.asked.now.items c.loop-place.asked.items)
          (ap (λ (ks : List ℕ). filter test (flat_map (names_at params) ks)) end.0 ∙ found_in_order test params places gives.4 c.in_ok-places.ensures) c.loop-place.invariant;
    }
