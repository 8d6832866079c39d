-- What sorting the fields by rank gives.
use Rattle.std.proofs.Common.{◌≡◌, ℕ, ◌+◌, ◌<◌, ◌≤◌, ◌<ℤ◌, pos, List, map, length, get_or, refl, sym, ap, ◌∙◌, subst, arith}
use Rattle.std.specs.Prelude.{IsPermutation, IsSortedByKey}
use Rattle.std.specs.List.{Contains}
use Rattle.std.specs.List.Sorted.{IsStableByKey}
use Rattle.std.specs.Ordering.{int_cmp}
use Rattle.std.proofs.lemmas.Int.{ints}
use Rattle.std.proofs.lemmas.List.Sorted.{IsPermutation-map, IsPermutation-sym}
use Rattle.educe_settings.specs.declared.ranked.Ranked.{Ranked}
use Rattle.educe_settings.specs.Ranked.{kept_of}
use Rattle.educe_settings.specs.Ranks.{Rises, IsRepeatAt, IsEarliestRepeat}
use Rattle.educe_settings.specs.Settings.{Kept, RanksDiffer, IsEarliest, ReusesARank}
use Rattle.educe_settings.specs.Order.{IsByRank}
use Rattle.educe_settings.proofs.Elements.{In, In-at, In-permutation, In-from_Contains, Contains-from_In, In-mapped, In-image}
use Rattle.educe_settings.proofs.Rising.{Rises-mapped, Rises-map}
use Rattle.educe_settings.proofs.Sorting.{apart_from_Rises, rises_among_ties, second_from_sort}
use Rattle.educe_settings.proofs.Earliest.{same_at}

module _ (kept : List Kept) (old new : List Ranked) (gathered : map kept_of old ≡ kept) (moved : IsPermutation old new) where
  -- the fields that take part, in another order
  moved_fields : IsPermutation kept (map kept_of new)
  moved_fields = subst (λ (fields : List Kept). IsPermutation fields (map kept_of new)) gathered (IsPermutation-map kept_of old new moved)

  -- where the ranks rise along the other order, it is the order by rank
  pub IsByRank-from_sort : Rises (λ (r : Ranked). r.rank) new → IsByRank kept (map kept_of new)
  IsByRank-from_sort rises = record { same = moved_fields; rises = Rises-mapped (λ (k : Kept). k.rank) kept_of new rises }

  -- and no two fields have one rank
  pub RanksDiffer-from_sort : Rises (λ (r : Ranked). r.rank) new → RanksDiffer kept
  RanksDiffer-from_sort rises = apart_from_Rises (λ (k : Kept). k.rank) kept (map kept_of new) moved_fields (Rises-mapped (λ (k : Kept). k.rank) kept_of new rises)

  -- what stands in the other order takes part
  takes_part : (r : Ranked) → In r new → Contains kept (kept_of r)
  takes_part r found =
      Contains-from_In kept (kept_of r) (In-permutation (map kept_of new) kept (kept_of r)
      (IsPermutation-sym kept (map kept_of new) moved_fields) (In-mapped kept_of new r found))

  -- the places rose before
  places : Rises (λ (k : Kept). pos k.place) kept → Rises (λ (r : Ranked). pos r.place) old
  places in_place = Rises-map (λ (k : Kept). pos k.place) kept_of old (subst (Rises (λ (k : Kept). pos k.place)) (sym gathered) in_place)

  -- a field that takes part is one of those
  moved_to : (x : Kept) → Contains kept x → (r : Ranked) × In r new × (kept_of r ≡ x)
  moved_to x found = In-image kept_of new x (In-permutation kept (map kept_of new) x moved_fields (In-from_Contains kept x found))

  -- of the fields that have the rank of an earlier one, the one behind an earliest repeat is written first
  earliest_in_sort : Rises (λ (k : Kept). pos k.place) kept → (k : ℕ) (later : Ranked) → IsSortedByKey (λ (r : Ranked). r.rank) int_cmp new → IsStableByKey (λ (r : Ranked). r.rank) int_cmp old new
      → IsEarliestRepeat (λ (r : Ranked). r.rank) (λ r. r.place) new k → k + 1 < length new → later ≡ get_or new (k + 1) later → IsEarliest kept later.place
  earliest_in_sort in_place k later up stable least within is a b has_a has_b written same =
      let one = moved_to a has_a in
      let two = moved_to b has_b in
      let other : Ranked = two.0 in
      let place_a : one.0.place ≡ a.place = ap (λ (x : Kept). x.place) one.2 in
      let place_b : other.place ≡ b.place = ap (λ (x : Kept). x.place) two.2 in
      let ranks : one.0.rank ≡ other.rank = ap (λ (x : Kept). x.rank) one.2 ∙ same ∙ sym (ap (λ (x : Kept). x.rank) two.2) in
      let lower : pos one.0.place <ℤ pos other.place = omega (arith, ints, written, place_a, place_b) in
      let second = second_from_sort (λ (r : Ranked). r.rank) (λ (r : Ranked). pos r.place) old new (places in_place) moved up stable one.0 other one.1 two.1 ranks lower in
      let bound : (get_or new (k + 1) other).place ≤ (get_or new (second.before + 1) other).place = least second.before other second.within second.same in
      let from : later.place ≡ (get_or new (k + 1) other).place = ap (λ (r : Ranked). r.place) (is ∙ same_at new (k + 1) later other within) in
      let to : (get_or new (second.before + 1) other).place ≡ b.place = ap (λ (r : Ranked). r.place) second.here ∙ place_b in
      subst (λ (n : ℕ). n ≤ b.place) (sym from) (subst (λ (n : ℕ). (get_or new (k + 1) other).place ≤ n) to bound)

  -- neighbours of one rank use it again, the second one later
  pub ReusesARank-from_sort : Rises (λ (k : Kept). pos k.place) kept → (k : ℕ) (later : Ranked) → IsSortedByKey (λ (r : Ranked). r.rank) int_cmp new → IsStableByKey (λ (r : Ranked). r.rank) int_cmp old new → IsRepeatAt (λ (r : Ranked). r.rank) new k
      → IsEarliestRepeat (λ (r : Ranked). r.rank) (λ r. r.place) new k → later ≡ get_or new (k + 1) later → ReusesARank kept later.rank later.rank_span
  ReusesARank-from_sort in_place k later up stable repeats least is =
      let first : Ranked = get_or new k later in
      let rises = rises_among_ties (λ (r : Ranked). pos r.place) (λ (r : Ranked). r.rank) old new (places in_place) moved stable k later repeats.within (repeats.same later) in
      let here : pos first.place <ℤ pos later.place = subst (λ (r : Ranked). pos first.place <ℤ pos r.place) (sym is) rises in
      record {
        first = kept_of first;
        later = kept_of later;
        first_kept = takes_part first (In-at new k later first (omega (arith, repeats.within)) refl);
        later_kept = takes_part later (subst (λ (r : Ranked). In r new) (sym is) (In-at new (k + 1) later (get_or new (k + 1) later) repeats.within refl));
        written = omega (arith, ints, here);
        first_rank = subst (λ (r : Ranked). first.rank ≡ r.rank) (sym is) (repeats.same later);
        later_rank = refl;
        place_is = refl;
        earliest = earliest_in_sort in_place k later up stable least repeats.within is;
      }
