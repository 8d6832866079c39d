-- The fields of one case: what they say of two or three values among those on which a table is lawful.
use Rattle.std.proofs.Common.{◌≡◌, ℕ, ◌+◌, ℤ, pos, Bool, true, List, [], ◌∷◌, map, Option, Some, None, slice_get, Ordering, Equal, refl, sym, ap, ◌∙◌, subst}
use Rattle.std.specs.Prelude.{unwrap_or, IsTrue, IsSome}
use Rattle.std.specs.List.{AllByRecursion, Contains, filter}
use Rattle.std.specs.Option.{option_map}
use Rattle.std.specs.Ordering.{ordering_reverse}
use Rattle.std.proofs.lemmas.Bool.{true≢false}
use Rattle.educe_syntax.specs.DeriveInput.{DeriveInput}
use Rattle.educe_syntax.specs.Few.{all_fields}
use Rattle.educe_syntax.specs.Field.{Field}
use Rattle.educe_bound_traits.specs.declared.traits.Trait.{Trait}
use Rattle.educe_bound_traits.specs.declared.traits.Trait.TheVariants as trait
use Rattle.educe_body_forms.specs.declared.comparison.Comparison.{Comparison}
use Rattle.educe_body_forms.specs.declared.comparison.Comparison.TheVariants.{PartialEq, PartialOrd, Ord}
use Rattle.educe_body_forms.specs.declared.form.Known.{Known}
use Rattle.educe_body_forms.specs.declared.form.Known.TheVariants.{Truth, Order, PartialOrder}
use Rattle.educe_body_values.specs.declared.answers.Answers.{Answers}
use Rattle.educe_body_values.specs.declared.value.FieldValue.{FieldValue}
use Rattle.educe_body_values.specs.declared.value.Value.{Value}
use Rattle.educe_settings.specs.Cases.{cases_of}
use Rattle.educe_meaning.specs.Comparing.{case_of, HaveTypes, Compared, paired_from, compared, says, says_true, equal, order}
use Rattle.educe_meaning.specs.Comparisons.{trait_of}
use Rattle.educe_meaning.specs.Hashing.{valued, valued_from, feeds, fed_by, AllFeed}
use Rattle.educe_settings.specs.Rows.{is_order}
use Rattle.educe_settings.specs.Settings.{is_kept}
use Rattle.educe_meaning_coherence.specs.Relations.{IsEquivalenceAmong}
use Rattle.educe_meaning_coherence.specs.Lawful.{Lists, rank_at, AreHashedCompared, MatchInCase, says_at, feeds_at, as_truth, as_order, as_partial_order, IsFoundAt, AtEachField, TakesPart, AreEquivalences, AreTotalOrders, ArePartialOrders, AreEqualWhereTrue, AreSomeOf, FieldsFeedAlike}
use Rattle.educe_meaning_coherence.proofs.Lexicographic.{ranked, leading, IsChain}
use Rattle.educe_meaning_coherence.proofs.Sorting.{each_weaker, each_ranked, each_unranked, ranked_alike, IsAlike, AreAlike}
use Rattle.educe_meaning_coherence.proofs.Chains.{leading_turned, leading_chained, leading_alike, leading_equal, each_equal, IsOrdered, chained, total_ordered, partial_ordered}
use Rattle.educe_meaning_coherence.proofs.Deciding.{order_in, order_said, as_known, known_answer, answer_known, order_is}
use Rattle.educe_meaning_coherence.proofs.Lists.{each_filtered, each_if_passes, each_that_passes, each_both, filter_alike, map_alike, map_twice, each_image, all_true, true_of_all}
use Rattle.educe_meaning_coherence.proofs.Spots.{Spot, spots, column, column_fits, takes, seen, paired_is, given, valued_is, IsAt, each_at, column_at}

-- ---- equality

truth_is : (said : Option Known) → says_true said ≡ true → said ≡ as_truth true
truth_is None is = absurd (true≢false (sym is))
truth_is (Some (Truth b)) is = ap (λ (t : Bool). as_truth t) is
truth_is (Some (Order o)) is = absurd (true≢false (sym is))
truth_is (Some (PartialOrder p)) is = absurd (true≢false (sym is))

-- ---- orders

-- What a field says to an order, among field values: it is decided, and ordered.
pub record IsRuled (which : Comparison) (In : FieldValue → Type 0) (says : FieldValue → FieldValue → Option Known) : Type 0 where
  pub decided : (x y : FieldValue) → In x → In y → says x y ≡ Some (as_known which (order_said which (says x y)))
  pub ordered : IsOrdered In (λ x y. order_said which (says x y))

-- What each field says to an order is decided, and ordered.
abbrev pub AreRuled : Comparison → Answers → DeriveInput → List Value → Type 0
AreRuled which table definition values =
    AtEachField definition values (λ place field In. TakesPart (trait_of which) definition field → IsRuled which In (says_at which table definition place field))

module _ (table : Answers) (d : DeriveInput) (values : List Value) where
  pub total_ruled : AreTotalOrders table d values → AreRuled Ord table d values
  total_ruled orders v place fs f exists at taken =
      let law = orders v place fs f exists at taken in
      record {
        decided = λ x y in_x in_y.
            let o = law.decided x y in_x in_y in o.1 ∙ ap (λ (said : Option Known). Some (as_known Ord (order_said Ord said))) (sym o.1);
        ordered = total_ordered (order_said Ord) as_order (λ o. refl) (IsFoundAt values v place) (says_at Ord table d place f) law;
      }

  pub partial_ruled : ArePartialOrders table d values → AreRuled PartialOrd table d values
  partial_ruled orders v place fs f exists at taken =
      let law = orders v place fs f exists at taken in
      record {
        decided = λ x y in_x in_y.
            let p = law.decided x y in_x in_y in p.1 ∙ ap (λ (said : Option Known). Some (as_known PartialOrd (order_said PartialOrd said))) (sym p.1);
        ordered = partial_ordered (order_said PartialOrd) as_partial_order (λ p. refl) (IsFoundAt values v place) (says_at PartialOrd table d place f) law;
      }

-- ---- the fields of a case

-- What holds of each field holds of each with its place.
each_spot : (P : Field → Type 0) (place : ℕ) (fs : List Field) → AllByRecursion P fs → AllByRecursion (λ (s : Spot). P s.field) (spots place fs)
each_spot P place [] each = tt
each_spot P place (f ∷ fs) each = (each.0, each_spot P (place + 1) fs each.1)

-- Ranks that put each two of the elements in one order do so throughout the list.
pairs_alike : {X : Type 0} (rank other : X → ℤ) (P : X → Type 0) → ((x y : X) → P x → P y → IsAlike rank other x y) → (xs : List X) → AllByRecursion P xs → AreAlike rank other xs
pairs_alike rank other P alike [] each = tt
pairs_alike rank other P alike (x ∷ xs) each = (each_weaker P (IsAlike rank other x) (λ y at. alike x y each.0 at) xs each.1, pairs_alike rank other P alike xs each.1)

some_is : (o : Option ℤ) (n : ℤ) → o ≡ Some n → IsSome o
some_is None n is = absurd (cc)
some_is (Some m) n is = refl

module _ (table : Answers) (d : DeriveInput) (values : List Value) (v : ℕ) (fs : List Field) (exists : slice_get (cases_of d) v ≡ Some fs) where
  -- One of the values, which is of this case.
  pub record IsOf (a : Value) : Type 0 where
    pub among : Contains values a
    pub variant_is : a.variant ≡ v
    pub types : HaveTypes (all_fields d) fs a.fields

  case_is : (a : Value) → IsOf a → case_of d a ≡ fs
  case_is a own = ap (λ (o : Option (List Field)). unwrap_or o []) (ap (slice_get (cases_of d)) own.variant_is ∙ exists)

  -- The fields of the case that take part in the trait.
  abbrev kept : Trait → List Spot
  kept which = filter (takes which d) (spots 0 fs)

  compared_is : (which : Comparison) (a b : Value) → IsOf a → IsOf b → compared which d a b ≡ map (seen (trait_of which) d (column a) (column b)) (kept (trait_of which))
  compared_is which a b own other =
      ap (λ fields. paired_from (trait_of which) d 0 fields a.fields b.fields) (case_is a own)
      ∙ paired_is (trait_of which) d (column a) (column b) (all_fields d) 0 fs a.fields b.fields own.types other.types (column_fits a) (column_fits b)

  found : (a : Value) → IsOf a → (s : Spot) → IsAt fs s → IsFoundAt values v s.place (column a s.place)
  found a own s at = record { value = a; among = own.among; variant_is = own.variant_is; at = column_at (all_fields d) fs a s.place s.field own.types at }

  -- ---- equality

  -- The field says that both values are equal.
  abbrev SaysEqual : Value → Value → Spot → Type 0
  SaysEqual a b s = says_at PartialEq table d s.place s.field (column a s.place) (column b s.place) ≡ as_truth true

  -- Each field that takes part says that both values are equal.
  abbrev pub AreEqual : Value → Value → Type 0
  AreEqual a b = AllByRecursion (λ s. takes trait.PartialEq d s ≡ true → SaysEqual a b s) (spots 0 fs)

  abbrev says_equal : Compared → Bool
  says_equal c = says_true (says PartialEq table c)

  pub equal_says : (a b : Value) → IsOf a → IsOf b → equal table (compared PartialEq d a b) ≡ true → AreEqual a b
  equal_says a b own other is =
      let each = all_true says_equal (seen trait.PartialEq d (column a) (column b)) (kept trait.PartialEq) (sym (ap (equal table) (compared_is PartialEq a b own other)) ∙ is) in
      each_if_passes (SaysEqual a b) (takes trait.PartialEq d) (spots 0 fs)
      (each_weaker (λ s. says_equal (seen trait.PartialEq d (column a) (column b) s) ≡ true) (SaysEqual a b)
      (λ s is. truth_is (says_at PartialEq table d s.place s.field (column a s.place) (column b s.place)) is) (kept trait.PartialEq) each)

  pub says_it_equal : (a b : Value) → IsOf a → IsOf b → AreEqual a b → equal table (compared PartialEq d a b) ≡ true
  says_it_equal a b own other each =
      let passed = each_that_passes (SaysEqual a b) (takes trait.PartialEq d) (spots 0 fs) each in
      ap (equal table) (compared_is PartialEq a b own other)
      ∙ true_of_all says_equal (seen trait.PartialEq d (column a) (column b)) (kept trait.PartialEq)
      (each_weaker (SaysEqual a b) (λ s. says_equal (seen trait.PartialEq d (column a) (column b) s) ≡ true) (λ s is. ap says_true is) (kept trait.PartialEq) passed)

  module _ (equality : AreEquivalences table d values) (lists : Lists d trait.PartialEq) where
    equality_at : (s : Spot) → IsAt fs s → takes trait.PartialEq d s ≡ true → IsEquivalenceAmong (IsFoundAt values v s.place) (says_at PartialEq table d s.place s.field) as_truth
    equality_at s at kept_is = equality v s.place fs s.field exists at (record { lists = lists; kept = kept_is })

    pub equal_self : (a : Value) → IsOf a → AreEqual a a
    equal_self a own =
        each_weaker (IsAt fs) (λ s. takes trait.PartialEq d s ≡ true → SaysEqual a a s)
        (λ s at kept_is. (equality_at s at kept_is).reflexive (column a s.place) (found a own s at)) (spots 0 fs) (each_at fs)

    pub equal_turned : (a b : Value) → IsOf a → IsOf b → AreEqual a b → AreEqual b a
    equal_turned a b own other each =
        each_weaker (λ s. IsAt fs s × (takes trait.PartialEq d s ≡ true → SaysEqual a b s)) (λ s. takes trait.PartialEq d s ≡ true → SaysEqual b a s)
        (λ s facts kept_is. (equality_at s facts.0 kept_is).symmetric (column a s.place) (column b s.place) (found a own s facts.0) (found b other s facts.0) (facts.1 kept_is))
        (spots 0 fs) (each_both (IsAt fs) (λ s. takes trait.PartialEq d s ≡ true → SaysEqual a b s) (spots 0 fs) (each_at fs) each)

    pub equal_through : (a b c : Value) → IsOf a → IsOf b → IsOf c → AreEqual a b → AreEqual b c → AreEqual a c
    equal_through a b c of_a of_b of_c first second =
        let Kept : Value → Value → Spot → Type 0 = λ x y s. takes trait.PartialEq d s ≡ true → SaysEqual x y s in
        each_weaker (λ s. IsAt fs s × (Kept a b s × Kept b c s)) (Kept a c)
        (λ s facts kept_is. (equality_at s facts.0 kept_is).transitive (column a s.place) (column b s.place) (column c s.place)
        (found a of_a s facts.0) (found b of_b s facts.0) (found c of_c s facts.0) (facts.1.0 kept_is) (facts.1.1 kept_is))
        (spots 0 fs) (each_both (IsAt fs) (λ s. Kept a b s × Kept b c s) (spots 0 fs) (each_at fs) (each_both (Kept a b) (Kept b c) (spots 0 fs) first second))

  -- ---- orders

  -- The order that a field says.
  abbrev pub order_at : Comparison → Value → Value → Spot → Option Ordering
  order_at which a b s = order_said which (says_at which table d s.place s.field (column a s.place) (column b s.place))

  abbrev rank_of : Trait → Spot → ℤ
  rank_of which s = rank_at which d s.place s.field

  -- The fields that take part in an order, by rank.
  abbrev by_rank : Comparison → List Spot
  by_rank which = ranked (rank_of (trait_of which)) (kept (trait_of which))

  -- The order of both values by their fields.
  abbrev pub within : Comparison → Value → Value → Option Ordering
  within which a b = leading (order_at which a b) (by_rank which)

  -- The field takes part, and stands at its place.
  abbrev IsKeptAt : Trait → Spot → Type 0
  IsKeptAt which s = (takes which d s ≡ true) × IsAt fs s

  each_kept : (which : Trait) → AllByRecursion (IsKeptAt which) (kept which)
  each_kept which = each_filtered (IsAt fs) (takes which d) (spots 0 fs) (each_at fs)

  pub order_within : (which : Comparison) → IsTrue (is_order (trait_of which)) → (a b : Value) → IsOf a → IsOf b
      → order_in (order which table (compared which d a b)) ≡ within which a b
  order_within which orders a b own other =
      ap (λ cs. order_in (order which table cs)) (compared_is which a b own other)
      ∙ order_is which table orders (seen (trait_of which) d (column a) (column b)) (kept (trait_of which))

  module _ (which : Comparison) (rules : AreRuled which table d values) (lists : Lists d (trait_of which)) where
    rule : (s : Spot) → IsKeptAt (trait_of which) s → IsRuled which (IsFoundAt values v s.place) (says_at which table d s.place s.field)
    rule s facts = rules v s.place fs s.field exists facts.1 (record { lists = lists; kept = facts.0 })

    in_order : AllByRecursion (IsKeptAt (trait_of which)) (by_rank which)
    in_order = each_ranked (rank_of (trait_of which)) (IsKeptAt (trait_of which)) (kept (trait_of which)) (each_kept (trait_of which))

    pub within_turned : (a b : Value) → IsOf a → IsOf b → within which b a ≡ option_map ordering_reverse (within which a b)
    within_turned a b own other =
        leading_turned (order_at which a b) (order_at which b a) (by_rank which)
        (each_weaker (IsKeptAt (trait_of which)) (λ s. order_at which b a s ≡ option_map ordering_reverse (order_at which a b s))
        (λ s facts. (rule s facts).ordered.turned (column a s.place) (column b s.place) (found a own s facts.1) (found b other s facts.1))
        (by_rank which) in_order)

    pub within_chained : (a b c : Value) → IsOf a → IsOf b → IsOf c → IsChain (within which a b) (within which b c) (within which a c)
    within_chained a b c of_a of_b of_c =
        leading_chained (order_at which a b) (order_at which b c) (order_at which a c) (by_rank which)
        (each_weaker (IsKeptAt (trait_of which)) (λ s. IsChain (order_at which a b s) (order_at which b c s) (order_at which a c s))
        (λ s facts. chained (IsFoundAt values v s.place) (λ x y. order_said which (says_at which table d s.place s.field x y)) (rule s facts).ordered
        (column a s.place) (column b s.place) (column c s.place) (found a of_a s facts.1) (found b of_b s facts.1) (found c of_c s facts.1))
        (by_rank which) in_order)

  -- Each field that takes part says something of both values, where each says something at its place.
  pub all_say : (which : Comparison)
      → AtEachField d values (λ place field In. TakesPart (trait_of which) d field → (x y : FieldValue) → In x → In y → IsSome (says_at which table d place field x y))
      → Lists d (trait_of which) → (a b : Value) → IsOf a → IsOf b → AllByRecursion (λ c. IsSome (says which table c)) (compared which d a b)
  all_say which say listed a b own other =
      subst (AllByRecursion (λ c. IsSome (says which table c))) (sym (compared_is which a b own other))
      (each_image (λ c. IsSome (says which table c)) (seen (trait_of which) d (column a) (column b)) (kept (trait_of which))
      (each_weaker (IsKeptAt (trait_of which)) (λ s. IsSome (says_at which table d s.place s.field (column a s.place) (column b s.place)))
      (λ s facts.
      say v s.place fs s.field exists facts.1 (record { lists = listed; kept = facts.0 }) (column a s.place) (column b s.place) (found a own s facts.1) (found b other s facts.1))
      (kept (trait_of which)) (each_kept (trait_of which))))

  -- ---- two traits, by matching settings

  module _ (matching : MatchInCase d fs) where
    -- The field takes part in both traits or in neither.
    abbrev IsMatched : Comparison → Comparison → Spot → Type 0
    IsMatched which other s = takes (trait_of which) d s ≡ takes (trait_of other) d s

    kept_alike : (which other : Comparison) → Lists d (trait_of which) → Lists d (trait_of other) → AllByRecursion (IsMatched which other) (spots 0 fs)
    kept_alike which other first second =
        each_spot (λ field. is_kept (trait_of which) d field ≡ is_kept (trait_of other) d field) 0 fs (matching.compared which other first second)

    -- What a field says to an order is Equal exactly where it says to `PartialEq` that both are equal.
    module _
        (which : Comparison) (orders : IsTrue (is_order (trait_of which))) (rules : AreRuled which table d values)
        (equals : AreEqualWhereTrue which table d values) (eq_listed : Lists d trait.PartialEq) (listed : Lists d (trait_of which))
      where
        -- The field takes part in both or in neither, and stands at its place.
        abbrev IsMatchedAt : Spot → Type 0
        IsMatchedAt s = IsAt fs s × IsMatched PartialEq which s

        each_matched : AllByRecursion IsMatchedAt (spots 0 fs)
        each_matched = each_both (IsAt fs) (IsMatched PartialEq which) (spots 0 fs) (each_at fs) (kept_alike PartialEq which eq_listed listed)

        -- What the field says to an order where that is Equal.
        abbrev SaysSame : Value → Value → Spot → Type 0
        SaysSame a b s = order_at which a b s ≡ Some Equal

        pub equal_within : (a b : Value) → IsOf a → IsOf b → within which a b ≡ Some Equal → AreEqual a b
        equal_within a b own other is =
            let each = each_if_passes (SaysSame a b) (takes (trait_of which) d) (spots 0 fs)
            (each_unranked (rank_of (trait_of which)) (SaysSame a b) (kept (trait_of which)) (each_equal (order_at which a b) (by_rank which) is)) in
            each_weaker (λ s. IsMatchedAt s × (takes (trait_of which) d s ≡ true → SaysSame a b s)) (λ s. takes trait.PartialEq d s ≡ true → SaysEqual a b s)
            (λ s facts kept_is.
            let also : takes (trait_of which) d s ≡ true = sym facts.0.1 ∙ kept_is in
            let in_a = found a own s facts.0.0 in
            let in_b = found b other s facts.0.0 in
            (equals v s.place fs s.field exists facts.0.0 (record { lists = eq_listed; kept = kept_is }) (record { lists = listed; kept = also })
            (column a s.place) (column b s.place) in_a in_b).0
            ((rule which rules listed s (also, facts.0.0)).decided (column a s.place) (column b s.place) in_a in_b
            ∙ (ap (λ (p : Option Ordering). Some (as_known which p)) (facts.1 also) ∙ ap Some (known_answer which Equal))))
            (spots 0 fs) (each_both IsMatchedAt (λ s. takes (trait_of which) d s ≡ true → SaysSame a b s) (spots 0 fs) each_matched each)

        pub within_equal : (a b : Value) → IsOf a → IsOf b → AreEqual a b → within which a b ≡ Some Equal
        within_equal a b own other each =
            leading_equal (order_at which a b) (by_rank which)
            (each_ranked (rank_of (trait_of which)) (SaysSame a b) (kept (trait_of which))
            (each_that_passes (SaysSame a b) (takes (trait_of which) d) (spots 0 fs)
            (each_weaker (λ s. IsMatchedAt s × (takes trait.PartialEq d s ≡ true → SaysEqual a b s)) (λ s. takes (trait_of which) d s ≡ true → SaysSame a b s)
            (λ s facts kept_is.
            let also : takes trait.PartialEq d s ≡ true = facts.0.1 ∙ kept_is in
            ap (order_said which) ((equals v s.place fs s.field exists facts.0.0 (record { lists = eq_listed; kept = also }) (record { lists = listed; kept = kept_is })
            (column a s.place) (column b s.place) (found a own s facts.0.0) (found b other s facts.0.0)).1 (facts.1 also))
            ∙ answer_known which orders Equal)
            (spots 0 fs) (each_both IsMatchedAt (λ s. takes trait.PartialEq d s ≡ true → SaysEqual a b s) (spots 0 fs) each_matched each))))

    -- What the fields say to `PartialOrd` is `Some` of what they say to `Ord`.
    module _ (rules : AreRuled Ord table d values) (some_of : AreSomeOf table d values) (partial_listed : Lists d trait.PartialOrd) (ord_listed : Lists d trait.Ord) where
      same_kept : kept trait.PartialOrd ≡ kept trait.Ord
      same_kept = filter_alike (takes trait.PartialOrd d) (takes trait.Ord d) (spots 0 fs) (kept_alike PartialOrd Ord partial_listed ord_listed)

      same_ranked : ranked (rank_of trait.PartialOrd) (kept trait.Ord) ≡ by_rank Ord
      same_ranked =
          ranked_alike (rank_of trait.PartialOrd) (rank_of trait.Ord) (kept trait.Ord)
          (pairs_alike (rank_of trait.PartialOrd) (rank_of trait.Ord) (IsKeptAt trait.Ord)
          (λ x y at_x at_y. matching.ranked partial_listed ord_listed y.place x.place y.field x.field at_y.1 at_x.1 at_y.0 at_x.0)
          (kept trait.Ord) (each_kept trait.Ord))

      pub partial_within : (a b : Value) → IsOf a → IsOf b → within PartialOrd a b ≡ within Ord a b
      partial_within a b own other =
          let matched = each_filtered (λ s. IsMatched PartialOrd Ord s × IsAt fs s) (takes trait.Ord d) (spots 0 fs)
          (each_both (IsMatched PartialOrd Ord) (IsAt fs) (spots 0 fs) (kept_alike PartialOrd Ord partial_listed ord_listed) (each_at fs)) in
          let Both : Spot → Type 0 = λ s. (takes trait.Ord d s ≡ true) × (IsMatched PartialOrd Ord s × IsAt fs s) in
          ap (λ ss. leading (order_at PartialOrd a b) ss) (ap (ranked (rank_of trait.PartialOrd)) same_kept ∙ same_ranked)
          ∙ leading_alike (order_at PartialOrd a b) (order_at Ord a b) (by_rank Ord)
          (each_ranked (rank_of trait.Ord) (λ s. order_at PartialOrd a b s ≡ order_at Ord a b s) (kept trait.Ord)
          (each_weaker Both (λ s. order_at PartialOrd a b s ≡ order_at Ord a b s)
          (λ s facts.
          let in_a = found a own s facts.1.1 in
          let in_b = found b other s facts.1.1 in
          let o = unwrap_or (order_at Ord a b s) Equal in
          let said = (rule Ord rules ord_listed s (facts.0, facts.1.1)).decided (column a s.place) (column b s.place) in_a in_b in
          ap (order_said PartialOrd)
          (some_of v s.place fs s.field exists facts.1.1 (record { lists = partial_listed; kept = facts.1.0 ∙ facts.0 }) (record { lists = ord_listed; kept = facts.0 })
          (column a s.place) (column b s.place) o in_a in_b said)
          ∙ sym (ap (order_said Ord) said))
          (kept trait.Ord) matched))

  -- ---- hash

  -- Values that are equal feed the same.
  module _ (hashed_compared : AreHashedCompared d fs) (feed : FieldsFeedAlike table d values) (eq_listed : Lists d trait.PartialEq) (hash_listed : Lists d trait.Hash) where
    -- The field feeds the same of both.
    abbrev FeedsBoth : Value → Value → Spot → Type 0
    FeedsBoth a b s = (n : ℤ) × (feeds_at table d s.place s.field (column a s.place) ≡ Some n) × (feeds_at table d s.place s.field (column b s.place) ≡ Some n)

    feed_both : (a b : Value) → IsOf a → IsOf b → AreEqual a b → AllByRecursion (FeedsBoth a b) (kept trait.Hash)
    feed_both a b own other each =
        let Hashed : Spot → Type 0 = λ s. takes trait.Hash d s ≡ true → takes trait.PartialEq d s ≡ true in
        let Equals : Spot → Type 0 = λ s. takes trait.PartialEq d s ≡ true → SaysEqual a b s in
        let hashed = each_spot (λ field. is_kept trait.Hash d field ≡ true → is_kept trait.PartialEq d field ≡ true) 0 fs hashed_compared in
        each_that_passes (FeedsBoth a b) (takes trait.Hash d) (spots 0 fs)
        (each_weaker (λ s. IsAt fs s × (Hashed s × Equals s)) (λ s. takes trait.Hash d s ≡ true → FeedsBoth a b s)
        (λ s facts kept_is.
        feed v s.place fs s.field exists facts.0 (record { lists = eq_listed; kept = facts.1.0 kept_is }) (record { lists = hash_listed; kept = kept_is })
        (column a s.place) (column b s.place) (found a own s facts.0) (found b other s facts.0) (facts.1.1 (facts.1.0 kept_is)))
        (spots 0 fs) (each_both (IsAt fs) (λ s. Hashed s × Equals s) (spots 0 fs) (each_at fs) (each_both Hashed Equals (spots 0 fs) hashed each)))

    valued_of : (a : Value) → IsOf a → valued trait.Hash d a ≡ map (given trait.Hash d (column a)) (kept trait.Hash)
    valued_of a own =
        ap (λ fields. valued_from trait.Hash d 0 fields a.fields) (case_is a own)
        ∙ valued_is trait.Hash d (column a) (all_fields d) 0 fs a.fields own.types (column_fits a)

    pub all_feed : (a b : Value) → IsOf a → IsOf b → AreEqual a b → AllFeed table (valued trait.Hash d a)
    all_feed a b own other each =
        subst (AllFeed table) (sym (valued_of a own))
        (each_image (λ v. IsSome (feeds table v)) (given trait.Hash d (column a)) (kept trait.Hash)
        (each_weaker (FeedsBoth a b) (λ s. IsSome (feeds table (given trait.Hash d (column a) s)))
        (λ s both. some_is (feeds_at table d s.place s.field (column a s.place)) both.0 both.1) (kept trait.Hash) (feed_both a b own other each)))

    pub all_feed_second : (a b : Value) → IsOf a → IsOf b → AreEqual a b → AllFeed table (valued trait.Hash d b)
    all_feed_second a b own other each =
        subst (AllFeed table) (sym (valued_of b other))
        (each_image (λ v. IsSome (feeds table v)) (given trait.Hash d (column b)) (kept trait.Hash)
        (each_weaker (FeedsBoth a b) (λ s. IsSome (feeds table (given trait.Hash d (column b) s)))
        (λ s both. some_is (feeds_at table d s.place s.field (column b s.place)) both.0 both.2) (kept trait.Hash) (feed_both a b own other each)))

    abbrev part_of_field : Value → Spot → ℤ
    part_of_field a s = unwrap_or (feeds_at table d s.place s.field (column a s.place)) (pos 0)

    fed : (a : Value) → IsOf a → fed_by table (valued trait.Hash d a) ≡ map (part_of_field a) (kept trait.Hash)
    fed a own = ap (fed_by table) (valued_of a own) ∙ map_twice (given trait.Hash d (column a)) (λ v. unwrap_or (feeds table v) (pos 0)) (kept trait.Hash)

    pub fed_alike : (a b : Value) → IsOf a → IsOf b → AreEqual a b → fed_by table (valued trait.Hash d a) ≡ fed_by table (valued trait.Hash d b)
    fed_alike a b own other each =
        fed a own
        ∙ (map_alike (part_of_field a) (part_of_field b) (kept trait.Hash)
        (each_weaker (FeedsBoth a b) (λ s. part_of_field a s ≡ part_of_field b s)
        (λ s both. ap (λ o. unwrap_or o (pos 0)) (both.1 ∙ sym both.2)) (kept trait.Hash) (feed_both a b own other each))
        ∙ sym (fed b other))
