-- Values of a definition among which a table is lawful: what the derived functions mean of them is coherent.
use Rattle.std.proofs.Common.{◌≡◌, ℕ, zero, suc, ℤ, pos, Bool, true, List, [], ◌∷◌, ◌++◌, Option, Some, slice_get, int_cmp, Ordering, Less, Equal, Greater, refl, sym, ap, ◌∙◌, subst, rules}
use Rattle.std.specs.Prelude.{◌==◌, ◌&&◌, unwrap_or, IsTrue}
use Rattle.std.specs.List.{AllByRecursion, Contains}
use Rattle.std.specs.Option.{option_map}
use Rattle.std.specs.Ordering.{ordering_reverse, partial_ordering_then}
use Rattle.std.proofs.lemmas.Map.Lookups.{exact_signed}
use Rattle.std.proofs.lemmas.Option.{same_Some}
use Rattle.educe_syntax.specs.DeriveInput.{DeriveInput}
use Rattle.educe_syntax.specs.Few.{all_fields}
use Rattle.educe_syntax.specs.Field.{Field}
use Rattle.educe_syntax.specs.Shape.{Shape}
use Rattle.educe_syntax.specs.Shape.TheVariants.{Struct, Enum}
use Rattle.educe_bound_traits.specs.declared.traits.Trait.TheVariants as trait
use Rattle.educe_body_forms.specs.declared.comparison.Comparison.{Comparison}
use Rattle.educe_body_forms.specs.declared.comparison.Comparison.TheVariants.{PartialEq, PartialOrd, Ord}
use Rattle.educe_body_values.specs.declared.answers.Answers.{Answers}
use Rattle.educe_body_values.specs.declared.value.Value.{Value}
use Rattle.educe_settings.specs.Cases.{cases_of}
use Rattle.educe_meaning.specs.Comparing.{HasShape, HaveTypes, compared, equal, order, discriminants_first, whole_order}
use Rattle.educe_meaning.specs.Comparisons.{trait_of}
use Rattle.educe_meaning.specs.Discriminants.{HaveDiscriminants}
use Rattle.educe_meaning.specs.Hashing.{valued, fed_by, variant_parts, hash_of, HashCovers}
use Rattle.educe_settings.specs.Rows.{is_order}
use Rattle.educe_meaning_coherence.specs.Lawful.{Lists, AreHashedCompared, MatchInCase, HaveMatchingSettings, AreEquivalences, AreEqualWhereTrue, AreSomeOf, FieldsFeedAlike, HaveShape}
use Rattle.educe_meaning_coherence.proofs.Lexicographic.{IsChain}
use Rattle.educe_meaning_coherence.proofs.Chains.{chain_then, chain_alike, then_turned, then_alike, then_equal}
use Rattle.educe_meaning_coherence.proofs.Deciding.{order_in, as_known, first_known, order_known}
use Rattle.educe_meaning_coherence.proofs.Lists.{both, first_true, second_true}
use Rattle.educe_meaning_coherence.proofs.Numbers.{number_chain, number_turned, number_same, code, AreNumbered, are_numbered, same_code}
use Rattle.educe_meaning_coherence.proofs.Fields as fields

same_number : (m n : ℕ) → (m == n) ≡ true → m ≡ n
same_number m n h = search rules

number_is_same : (m n : ℕ) → m ≡ n → (m == n) ≡ true
number_is_same m n h = search rules

-- What holds of each case holds of the one at a place.
case_has : (P : List Field → Type 0) (cases : List (List Field)) (k : ℕ) (fs : List Field) → AllByRecursion P cases → slice_get cases k ≡ Some fs → P fs
case_has P [] k fs each at = absurd (cc)
case_has P (c ∷ cs) zero fs each at = subst P (same_Some c fs at) each.0
case_has P (c ∷ cs) (suc k) fs each at = case_has P cs k fs each.1 at

-- Values of one case have the same in front of what their fields feed.
variant_alike : (shape : Shape) (a b : Value) → a.variant ≡ b.variant → (xs ys : List ℤ) → xs ≡ ys → variant_parts shape a ++ xs ≡ variant_parts shape b ++ ys
variant_alike (Struct shape) a b one xs ys same = same
variant_alike (Enum variants) a b one xs ys same = λ i. pos (one i) ∷ same i

-- What stands behind an order is an order where it counts.
some_then : (o : Ordering) (r : Option Ordering) → r ≡ Some (unwrap_or r Equal)
    → partial_ordering_then (Some o) r ≡ Some (unwrap_or (partial_ordering_then (Some o) r) Equal)
some_then Less r is = refl
some_then Equal r is = is
some_then Greater r is = refl

module _ (table : Answers) (d : DeriveInput) where
  -- Whether two values are equal.
  abbrev pub same : Value → Value → Bool
  same a b = (a.variant == b.variant) && equal table (compared PartialEq d a b)

  -- The order of the fields of two values.
  abbrev inner : Comparison → Value → Value → Option Ordering
  inner which a b = order_in (order which table (compared which d a b))

  abbrev number : Value → ℤ
  number = code table d

  -- The order of two values: that of their numbers, or where it is Equal that of their fields.
  abbrev pub compared_as : Comparison → Value → Value → Option Ordering
  compared_as which a b = partial_ordering_then (Some (int_cmp (number a) (number b))) (inner which a b)

  -- The order by `Ord`, which any two values have.
  abbrev pub ordered_as : Value → Value → Ordering
  ordered_as a b = unwrap_or (compared_as Ord a b) Equal

  pub is_ordered : (a b : Value) → compared_as Ord a b ≡ Some (ordered_as a b)
  is_ordered a b = some_then (int_cmp (number a) (number b)) (inner Ord a b) (ap order_in (order_known Ord table refl (compared Ord d a b)))

  module _ (values : List Value) (shapes : HaveShape d values) where
    abbrev Among : Value → Type 0
    Among = Contains values

    -- The fields of the case of a value, and another value of that case.
    module _ (a : Value) (shape : HasShape d a) where
      abbrev pub IsOfCase : Value → Type 0
      IsOfCase = fields.IsOf table d values a.variant shape.fields shape.exists

      pub of_case : (b : Value) → Among b → HasShape d b → a.variant ≡ b.variant → IsOfCase b
      of_case b among other same = record {
        among = among;
        variant_is = sym same;
        types = subst (λ (fs : List Field). HaveTypes (all_fields d) fs b.fields)
            (same_Some other.fields shape.fields (sym other.exists ∙ (ap (slice_get (cases_of d)) (sym same) ∙ shape.exists))) other.types;
      }

      matching_case : HaveMatchingSettings d → MatchInCase d shape.fields
      matching_case matching = case_has (MatchInCase d) (cases_of d) a.variant shape.fields matching shape.exists

      abbrev AreEqual : Value → Value → Type 0
      AreEqual = fields.AreEqual table d values a.variant shape.fields shape.exists

      abbrev within : Comparison → Value → Value → Option Ordering
      within = fields.within table d values a.variant shape.fields shape.exists

    -- ---- equality

    -- Values that are equal are of one case.
    pub one_case : (a b : Value) → same a b ≡ true → a.variant ≡ b.variant
    one_case a b is = same_number a.variant b.variant (first_true (a.variant == b.variant) (equal table (compared PartialEq d a b)) is)

    -- The fields of equal values are equal, those of the case of any value of that case.
    pub same_fields : (o : Value) (shape : HasShape d o) (a b : Value) → IsOfCase o shape a → IsOfCase o shape b → same a b ≡ true → AreEqual o shape a b
    same_fields o shape a b of_a of_b is =
        fields.equal_says table d values o.variant shape.fields shape.exists a b of_a of_b (second_true (a.variant == b.variant) (equal table (compared PartialEq d a b)) is)

    pub fields_same : (o : Value) (shape : HasShape d o) (a b : Value) → IsOfCase o shape a → IsOfCase o shape b → AreEqual o shape a b → same a b ≡ true
    fields_same o shape a b of_a of_b each =
        both (a.variant == b.variant) (equal table (compared PartialEq d a b)) (number_is_same a.variant b.variant (of_a.variant_is ∙ sym of_b.variant_is))
        (fields.says_it_equal table d values o.variant shape.fields shape.exists a b of_a of_b each)

    module _ (equality : AreEquivalences table d values) (lists : Lists d trait.PartialEq) where
      pub same_self : (a : Value) → Among a → same a a ≡ true
      same_self a among =
          let shape = shapes a among in
          let own = of_case a shape a among shape refl in
          fields_same a shape a a own own (fields.equal_self table d values a.variant shape.fields shape.exists equality lists a own)

      pub same_turned : (a b : Value) → Among a → Among b → same a b ≡ true → same b a ≡ true
      same_turned a b among_a among_b is =
          let shape = shapes a among_a in
          let own = of_case a shape a among_a shape refl in
          let other = of_case a shape b among_b (shapes b among_b) (one_case a b is) in
          fields_same a shape b a other own
          (fields.equal_turned table d values a.variant shape.fields shape.exists equality lists a b own other (same_fields a shape a b own other is))

      pub same_through : (a b c : Value) → Among a → Among b → Among c → same a b ≡ true → same b c ≡ true → same a c ≡ true
      same_through a b c among_a among_b among_c first second =
          let shape = shapes a among_a in
          let of_a = of_case a shape a among_a shape refl in
          let of_b = of_case a shape b among_b (shapes b among_b) (one_case a b first) in
          let of_c = of_case a shape c among_c (shapes c among_c) (one_case a b first ∙ one_case b c second) in
          fields_same a shape a c of_a of_c
          (fields.equal_through table d values a.variant shape.fields shape.exists equality lists a b c of_a of_b of_c
          (same_fields a shape a b of_a of_b first) (same_fields a shape b c of_b of_c second))

    -- ---- orders

    module _ (has : HaveDiscriminants table d) where
      numbered : (a b : Value) → Among a → Among b → AreNumbered table d has a b
      numbered a b among_a among_b = are_numbered table d has a b (shapes a among_a) (shapes b among_b)

      -- Values whose numbers are Equal are of one case.
      case_of_equal : (a b : Value) → Among a → Among b → int_cmp (number a) (number b) ≡ Equal → a.variant ≡ b.variant
      case_of_equal a b among_a among_b is = (numbered a b among_a among_b).same (exact_signed (number a) (number b) is)

      -- The derived order means that of both values.
      pub whole_known : (which : Comparison) → IsTrue (is_order (trait_of which)) → (a b : Value) → Among a → Among b
          → whole_order which table d a b ≡ as_known which (compared_as which a b)
      whole_known which orders a b among_a among_b =
          let fields_known = order which table (compared which d a b) in
          ap (λ o. discriminants_first which o fields_known) (numbered a b among_a among_b).is
          ∙ first_known which (int_cmp (number a) (number b)) fields_known (order_known which table orders (compared which d a b))

      module _ (which : Comparison) (orders : IsTrue (is_order (trait_of which))) (rules : fields.AreRuled which table d values) (lists : Lists d (trait_of which)) where
        as_within : (o : Value) (shape : HasShape d o) (a b : Value) → IsOfCase o shape a → IsOfCase o shape b → inner which a b ≡ within o shape which a b
        as_within o shape a b = fields.order_within table d values o.variant shape.fields shape.exists which orders a b

        pub order_turned : (a b : Value) → Among a → Among b → compared_as which b a ≡ option_map ordering_reverse (compared_as which a b)
        order_turned a b among_a among_b =
            ap (λ (o : Ordering). partial_ordering_then (Some o) (inner which b a)) (number_turned (number a) (number b))
            ∙ then_turned (int_cmp (number a) (number b)) (inner which a b) (inner which b a) (λ equal.
            let shape = shapes a among_a in
            let own = of_case a shape a among_a shape refl in
            let other = of_case a shape b among_b (shapes b among_b) (case_of_equal a b among_a among_b equal) in
            as_within a shape b a other own
            ∙ (fields.within_turned table d values a.variant shape.fields shape.exists which rules lists a b own other
            ∙ ap (option_map ordering_reverse) (sym (as_within a shape a b own other))))

        pub order_chained : (a b c : Value) → Among a → Among b → Among c → IsChain (compared_as which a b) (compared_as which b c) (compared_as which a c)
        order_chained a b c among_a among_b among_c =
            chain_then (Some (int_cmp (number a) (number b))) (Some (int_cmp (number b) (number c))) (Some (int_cmp (number a) (number c)))
            (inner which a b) (inner which b c) (inner which a c) (number_chain (number a) (number b) (number c)) (λ first second.
            let shape = shapes a among_a in
            let of_a = of_case a shape a among_a shape refl in
            let to_b = case_of_equal a b among_a among_b (same_Some (int_cmp (number a) (number b)) Equal first) in
            let of_b = of_case a shape b among_b (shapes b among_b) to_b in
            let of_c = of_case a shape c among_c (shapes c among_c) (to_b ∙ case_of_equal b c among_b among_c (same_Some (int_cmp (number b) (number c)) Equal second)) in
            chain_alike (inner which a b) (inner which b c) (inner which a c) (within a shape which a b) (within a shape which b c) (within a shape which a c)
            (as_within a shape a b of_a of_b) (as_within a shape b c of_b of_c) (as_within a shape a c of_a of_c)
            (fields.within_chained table d values a.variant shape.fields shape.exists which rules lists a b c of_a of_b of_c))

        -- ---- an order and equality

        module _ (matching : HaveMatchingSettings d) (equals : AreEqualWhereTrue which table d values) (eq_lists : Lists d trait.PartialEq) where
          pub equal_is_same : (a b : Value) → Among a → Among b → compared_as which a b ≡ Some Equal → same a b ≡ true
          equal_is_same a b among_a among_b is =
              let parts = then_equal (Some (int_cmp (number a) (number b))) (inner which a b) is in
              let shape = shapes a among_a in
              let own = of_case a shape a among_a shape refl in
              let other = of_case a shape b among_b (shapes b among_b) (case_of_equal a b among_a among_b (same_Some (int_cmp (number a) (number b)) Equal parts.0)) in
              fields_same a shape a b own other
              (fields.equal_within table d values a.variant shape.fields shape.exists (matching_case a shape matching) which orders rules equals eq_lists lists a b own other
              (sym (as_within a shape a b own other) ∙ parts.1))

          pub same_is_equal : (a b : Value) → Among a → Among b → same a b ≡ true → compared_as which a b ≡ Some Equal
          same_is_equal a b among_a among_b is =
              let shape = shapes a among_a in
              let one = one_case a b is in
              let own = of_case a shape a among_a shape refl in
              let other = of_case a shape b among_b (shapes b among_b) one in
              let numbers : int_cmp (number a) (number b) ≡ Equal = ap (int_cmp (number a)) (sym (same_code table d a b one)) ∙ number_same (number a) in
              ap (λ (o : Ordering). partial_ordering_then (Some o) (inner which a b)) numbers
              ∙ (as_within a shape a b own other
              ∙ fields.within_equal table d values a.variant shape.fields shape.exists (matching_case a shape matching) which orders rules equals eq_lists lists a b own other
              (same_fields a shape a b own other is))

      -- ---- both orders

      module _ (rules : fields.AreRuled Ord table d values) (lists : Lists d trait.Ord) (matching : HaveMatchingSettings d) (some_of : AreSomeOf table d values) (partial_lists : Lists d trait.PartialOrd) where
        pub compared_alike : (a b : Value) → Among a → Among b → compared_as PartialOrd a b ≡ compared_as Ord a b
        compared_alike a b among_a among_b =
            then_alike (int_cmp (number a) (number b)) (inner PartialOrd a b) (inner Ord a b) (λ equal.
            let shape = shapes a among_a in
            let own = of_case a shape a among_a shape refl in
            let other = of_case a shape b among_b (shapes b among_b) (case_of_equal a b among_a among_b equal) in
            let means = fields.order_within table d values a.variant shape.fields shape.exists in
            means PartialOrd refl a b own other
            ∙ (fields.partial_within table d values a.variant shape.fields shape.exists (matching_case a shape matching) rules some_of partial_lists lists a b own other
            ∙ sym (means Ord refl a b own other)))

    -- ---- hash

    module _ (hashed_compared : AllByRecursion (AreHashedCompared d) (cases_of d)) (feed : FieldsFeedAlike table d values) (eq_lists : Lists d trait.PartialEq) (hash_lists : Lists d trait.Hash) where
      hashed_case : (a : Value) (shape : HasShape d a) → AreHashedCompared d shape.fields
      hashed_case a shape = case_has (AreHashedCompared d) (cases_of d) a.variant shape.fields hashed_compared shape.exists

      pub hash_covered : (a b : Value) → Among a → Among b → same a b ≡ true → HashCovers table d a
      hash_covered a b among_a among_b is =
          let shape = shapes a among_a in
          let own = of_case a shape a among_a shape refl in
          let other = of_case a shape b among_b (shapes b among_b) (one_case a b is) in
          record {
            shape = shape;
            each = fields.all_feed table d values a.variant shape.fields shape.exists (hashed_case a shape) feed eq_lists hash_lists a b own other (same_fields a shape a b own other is);
          }

      pub second_covered : (a b : Value) → Among a → Among b → same a b ≡ true → HashCovers table d b
      second_covered a b among_a among_b is =
          let shape = shapes a among_a in
          let own = of_case a shape a among_a shape refl in
          let other = of_case a shape b among_b (shapes b among_b) (one_case a b is) in
          record {
            shape = shapes b among_b;
            each = fields.all_feed_second table d values a.variant shape.fields shape.exists (hashed_case a shape) feed eq_lists hash_lists a b own other (same_fields a shape a b own other is);
          }

      pub hash_alike : (a b : Value) → Among a → Among b → same a b ≡ true → hash_of table d a ≡ hash_of table d b
      hash_alike a b among_a among_b is =
          let shape = shapes a among_a in
          let one = one_case a b is in
          let own = of_case a shape a among_a shape refl in
          let other = of_case a shape b among_b (shapes b among_b) one in
          variant_alike d.shape a b one (fed_by table (valued trait.Hash d a)) (fed_by table (valued trait.Hash d b))
          (fields.fed_alike table d values a.variant shape.fields shape.exists (hashed_case a shape) feed eq_lists hash_lists a b own other (same_fields a shape a b own other is))
