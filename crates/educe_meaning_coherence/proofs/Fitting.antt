-- The functions of items are coherent, where they evaluate to what their traits mean.
use Rattle.std.proofs.Common.{◌≡◌, Bool, true, List, [], ◌∷◌, Option, Some, None, Ordering, Equal, refl, sym, ap, ◌∙◌, subst}
use Rattle.std.specs.Prelude.{◌↔◌, unwrap_or, IsTrue}
use Rattle.std.specs.List.{AllByRecursion, Contains}
use Rattle.educe_syntax.specs.DeriveInput.{DeriveInput}
use Rattle.educe_syntax.specs.Field.{Field}
use Rattle.educe_bound_traits.specs.declared.traits.Trait.{Trait}
use Rattle.educe_bound_traits.specs.declared.traits.Trait.TheVariants as trait
use Rattle.educe_body_forms.specs.declared.body.Body.{Body}
use Rattle.educe_body_forms.specs.declared.comparison.Comparison.{Comparison}
use Rattle.educe_body_forms.specs.declared.comparison.Comparison.TheVariants.{PartialEq, PartialOrd, Ord}
use Rattle.educe_body_items.specs.declared.items.Item.{Item}
use Rattle.educe_body_items.specs.declared.items.Item.TheVariants.{Impl}
use Rattle.educe_body_values.specs.declared.answers.Answers.{Answers}
use Rattle.educe_body_values.specs.declared.outcome.Outcome.{Outcome}
use Rattle.educe_body_values.specs.declared.outcome.Outcome.TheVariants as outcome
use Rattle.educe_body_values.specs.declared.value.Value.{Value}
use Rattle.educe_settings.specs.Cases.{cases_of}
use Rattle.educe_meaning.specs.Blocks.{Compares, Hashes, Evaluates, EachEvaluates}
use Rattle.educe_meaning.specs.Comparing.{outcome as outcome_of}
use Rattle.educe_meaning.specs.Comparisons.{trait_of}
use Rattle.educe_meaning.specs.Discriminants.{HaveDiscriminants}
use Rattle.educe_meaning.specs.Hashing.{hash_of}
use Rattle.educe_settings.specs.Rows.{is_order}
use Rattle.educe_meaning_coherence.specs.Relations.{IsEquivalenceAmong, IsTotalOrderAmong, IsPartialOrderAmong, IsEqualWhereTrue, IsSomeOf, FeedsAlike}
use Rattle.educe_meaning_coherence.specs.Lawful.{Lists, AreHashedCompared, MatchInCase, HaveMatchingSettings, AreEquivalences, AreEqualWhereTrue, AreSomeOf, FieldsFeedAlike, CoversFor, CoversEachTwo, HaveShape}
use Rattle.educe_meaning_coherence.specs.Coherence.{IsDerivedBody, compares, hashes, IsCoherent, CoherenceLaws}
use Rattle.educe_meaning_coherence.proofs.Chains.{IsOrdered, ordered_by, ordered_alike, equivalence_by, partial_by, total_by}
use Rattle.educe_meaning_coherence.proofs.ByNumber.{by_number_lawful, by_number_lawful_for_partial_ord, by_number_covers}
use Rattle.educe_meaning_coherence.proofs.Fields.{AreRuled, total_ruled, partial_ruled}
use Rattle.educe_meaning_coherence.proofs.Lists.{each_has}
use Rattle.educe_meaning_coherence.proofs.Whole.{same, same_self, same_turned, same_through, compared_as, ordered_as, is_ordered}
use Rattle.educe_meaning_coherence.proofs.Whole.{whole_known, order_turned, order_chained, equal_is_same, same_is_equal, compared_alike, hash_covered, second_covered, hash_alike}

-- The truth in an outcome.
abbrev truth_in : Outcome → Bool
truth_in (outcome.Truth b) = b
truth_in other = true

-- The order in an outcome.
abbrev order_in : Outcome → Option Ordering
order_in (outcome.Order o) = Some o
order_in (outcome.PartialOrder p) = p
order_in other = None

module _ (d : DeriveInput) (items : List Item) (each : AllByRecursion (EachEvaluates d) items) where
  -- A function of a trait's impl evaluates to what the trait means.
  evaluates : (which : Trait) (body : Body) (is : IsDerivedBody which d items body) → Evaluates which d is.function
  evaluates which body is =
      subst (λ (w : Trait). Evaluates w d is.function) is.which_is
      (each_has (Evaluates is.item.which d) is.item.functions is.function (each_has (EachEvaluates d) items (Impl is.item) each is.among) is.has)

  eq_compares : (body : Body) → IsDerivedBody trait.PartialEq d items body → Compares PartialEq d body
  eq_compares body is = subst (Compares PartialEq d) is.body_is (evaluates trait.PartialEq body is)

  partial_compares : (body : Body) → IsDerivedBody trait.PartialOrd d items body → Compares PartialOrd d body
  partial_compares body is = subst (Compares PartialOrd d) is.body_is (evaluates trait.PartialOrd body is)

  cmp_compares : (body : Body) → IsDerivedBody trait.Ord d items body → Compares Ord d body
  cmp_compares body is = subst (Compares Ord d) is.body_is (evaluates trait.Ord body is)

  hash_hashes : (body : Body) → IsDerivedBody trait.Hash d items body → Hashes d body
  hash_hashes body is = subst (Hashes d) is.body_is (evaluates trait.Hash body is)

  module _ (table : Answers) (values : List Value) where
    abbrev Among : Value → Type 0
    Among = Contains values

    -- ---- by `PartialEq` alone

    module _ (covers : CoversFor PartialEq table d values) where
      -- Each of the values has the definition's shape.
      eq_shapes : HaveShape d values
      eq_shapes a among = (covers a a among among).first

      -- `eq` evaluates to whether both are equal.
      eq_is : (eq : Body) → IsDerivedBody trait.PartialEq d items eq → (a b : Value) → Among a → Among b
          → compares d table eq a b ≡ outcome.Truth (same table d a b)
      eq_is eq is a b among_a among_b = eq_compares eq is table a b (covers a b among_a among_b)

      equivalence : AreEquivalences table d values → (eq : Body) → IsDerivedBody trait.PartialEq d items eq
          → IsEquivalenceAmong Among (compares d table eq) outcome.Truth
      equivalence lawful eq is =
          equivalence_by Among (compares d table eq) outcome.Truth (λ b c alike. ap truth_in alike) (same table d) (eq_is eq is)
          (same_self table d values eq_shapes lawful is.lists) (same_turned table d values eq_shapes lawful is.lists) (same_through table d values eq_shapes lawful is.lists)

      fed : AllByRecursion (AreHashedCompared d) (cases_of d) → FieldsFeedAlike table d values
          → (hash eq : Body) (other : Option Value) → IsDerivedBody trait.Hash d items hash → IsDerivedBody trait.PartialEq d items eq
          → FeedsAlike Among (hashes d table hash other) outcome.Parts (compares d table eq) outcome.Truth
      fed hashed feed hash eq other is eq_derived a b among_a among_b true_is =
          let alike : same table d a b ≡ true = ap truth_in (sym (eq_is eq eq_derived a b among_a among_b) ∙ true_is) in (
            hash_of table d a,
            hash_hashes hash is table a other (hash_covered table d values eq_shapes hashed feed eq_derived.lists is.lists a b among_a among_b alike),
            hash_hashes hash is table b other (second_covered table d values eq_shapes hashed feed eq_derived.lists is.lists a b among_a among_b alike)
                ∙ ap outcome.Parts (sym (hash_alike table d values eq_shapes hashed feed eq_derived.lists is.lists a b among_a among_b alike)),
          )

    -- ---- by all listed comparisons

    module _ (covers : CoversEachTwo table d values) where
      -- Each of the values has the definition's shape, where a comparison is listed.
      shapes : (which : Comparison) → Lists d (trait_of which) → HaveShape d values
      shapes which lists a among = (covers which lists a a among among).first

      -- Where an order is listed and there is a value, the variants have discriminants.
      discriminants : (which : Comparison) → IsTrue (is_order (trait_of which)) → Lists d (trait_of which) → (a : Value) → Among a → HaveDiscriminants table d
      discriminants which orders lists a among = (covers which lists a a among among).ordered orders

      module _ (which : Comparison) (orders : IsTrue (is_order (trait_of which))) (lists : Lists d (trait_of which)) (rules : AreRuled which table d values) where
        ordered : IsOrdered Among (compared_as table d which)
        ordered =
            ordered_by Among (compared_as table d which)
            (λ a b among_a among_b. order_turned table d values (shapes which lists) (discriminants which orders lists a among_a) which orders rules lists a b among_a among_b)
            (λ a b c among_a among_b among_c. order_chained table d values (shapes which lists) (discriminants which orders lists a among_a) which orders rules lists a b c among_a among_b among_c)

        module _ (matching : HaveMatchingSettings d) (equals : AreEqualWhereTrue which table d values) (eq : Body) (eq_derived : IsDerivedBody trait.PartialEq d items eq) where
          -- The order of two values is Equal exactly where `eq` evaluates to true.
          equal_where : (a b : Value) → Among a → Among b → (compared_as table d which a b ≡ Some Equal) ↔ (compares d table eq a b ≡ outcome.Truth true)
          equal_where a b among_a among_b =
              let has = discriminants which orders lists a among_a in
              let truth = eq_is (covers PartialEq eq_derived.lists) eq eq_derived a b among_a among_b in (
                (λ equal. truth ∙ ap outcome.Truth (equal_is_same table d values (shapes which lists) has which orders rules lists matching equals eq_derived.lists a b among_a among_b equal)),
                (λ true_is. same_is_equal table d values (shapes which lists) has which orders rules lists matching equals eq_derived.lists a b among_a among_b (ap truth_in (sym truth ∙ true_is))),
              )

      -- `cmp` evaluates to the order of both.
      cmp_is : (cmp : Body) → IsDerivedBody trait.Ord d items cmp → (a b : Value) → Among a → Among b → compares d table cmp a b ≡ outcome.Order (ordered_as table d a b)
      cmp_is cmp is a b among_a among_b =
          cmp_compares cmp is table a b (covers Ord is.lists a b among_a among_b)
          ∙ ap outcome_of (whole_known table d values (shapes Ord is.lists) (discriminants Ord refl is.lists a among_a) Ord refl a b among_a among_b)

      -- `partial_cmp` evaluates to the partial order of both.
      partial_is : (partial_cmp : Body) → IsDerivedBody trait.PartialOrd d items partial_cmp → (a b : Value) → Among a → Among b
          → compares d table partial_cmp a b ≡ outcome.PartialOrder (compared_as table d PartialOrd a b)
      partial_is partial_cmp is a b among_a among_b =
          partial_compares partial_cmp is table a b (covers PartialOrd is.lists a b among_a among_b)
          ∙ ap outcome_of (whole_known table d values (shapes PartialOrd is.lists) (discriminants PartialOrd refl is.lists a among_a) PartialOrd refl a b among_a among_b)

      -- The order that `cmp` evaluates to.
      ordered_in : (cmp : Body) (is : IsDerivedBody trait.Ord d items cmp) (a b : Value) → Among a → Among b → order_in (compares d table cmp a b) ≡ compared_as table d Ord a b
      ordered_in cmp is a b among_a among_b = ap order_in (cmp_is cmp is a b among_a among_b) ∙ sym (is_ordered table d a b)

      total : (cmp : Body) → IsDerivedBody trait.Ord d items cmp → AreRuled Ord table d values → IsTotalOrderAmong Among (compares d table cmp) outcome.Order
      total cmp is rules =
          total_by order_in outcome.Order (λ o. refl) Among (compares d table cmp) (ordered_as table d)
          (ordered_alike Among (compared_as table d Ord) (ordered Ord refl is.lists rules) (λ a b. Some (ordered_as table d a b)) (λ a b among_a among_b. sym (is_ordered table d a b)))
          (cmp_is cmp is)

      partial : (partial_cmp : Body) → IsDerivedBody trait.PartialOrd d items partial_cmp → AreRuled PartialOrd table d values
          → IsPartialOrderAmong Among (compares d table partial_cmp) outcome.PartialOrder
      partial partial_cmp is rules =
          partial_by order_in outcome.PartialOrder (λ p. refl) Among (compares d table partial_cmp) (compared_as table d PartialOrd)
          (ordered PartialOrd refl is.lists rules) (partial_is partial_cmp is)

      module _ (matching : HaveMatchingSettings d) where
        equal : (cmp eq : Body) → IsDerivedBody trait.Ord d items cmp → IsDerivedBody trait.PartialEq d items eq → AreRuled Ord table d values → AreEqualWhereTrue Ord table d values
            → IsEqualWhereTrue Among (compares d table cmp) outcome.Order (compares d table eq) outcome.Truth
        equal cmp eq is eq_derived rules equals a b among_a among_b =
            let where_equal = equal_where Ord refl is.lists rules matching equals eq eq_derived a b among_a among_b in
            let known = ordered_in cmp is a b among_a among_b in (
              (λ said. where_equal.0 (sym known ∙ ap order_in said)),
              (λ true_is. cmp_is cmp is a b among_a among_b ∙ ap (λ (p : Option Ordering). outcome.Order (unwrap_or p Equal)) (where_equal.1 true_is)),
            )

        partial_equal : (partial_cmp eq : Body) → IsDerivedBody trait.PartialOrd d items partial_cmp → IsDerivedBody trait.PartialEq d items eq
            → AreRuled PartialOrd table d values → AreEqualWhereTrue PartialOrd table d values
            → IsEqualWhereTrue Among (compares d table partial_cmp) (λ o. outcome.PartialOrder (Some o)) (compares d table eq) outcome.Truth
        partial_equal partial_cmp eq is eq_derived rules equals a b among_a among_b =
            let where_equal = equal_where PartialOrd refl is.lists rules matching equals eq eq_derived a b among_a among_b in
            let means = partial_is partial_cmp is a b among_a among_b in (
              (λ said. where_equal.0 (ap order_in (sym means ∙ said))),
              (λ true_is. means ∙ ap outcome.PartialOrder (where_equal.1 true_is)),
            )

        some_of_cmp : (partial_cmp cmp : Body) → IsDerivedBody trait.PartialOrd d items partial_cmp → IsDerivedBody trait.Ord d items cmp → AreRuled Ord table d values → AreSomeOf table d values
            → IsSomeOf Among (compares d table partial_cmp) outcome.PartialOrder (compares d table cmp) outcome.Order
        some_of_cmp partial_cmp cmp partial_derived is rules some_of a b o among_a among_b said =
            partial_is partial_cmp partial_derived a b among_a among_b
            ∙ ap outcome.PartialOrder
            (compared_alike table d values (shapes Ord is.lists) (discriminants Ord refl is.lists a among_a) rules is.lists matching some_of partial_derived.lists a b among_a among_b
            ∙ (sym (ordered_in cmp is a b among_a among_b) ∙ ap order_in said))

  -- What matches in each case has the fields of `Hash` among those of `PartialEq`.
  hashed_where : Lists d trait.PartialEq → Lists d trait.Hash → (cases : List (List Field)) → AllByRecursion (MatchInCase d) cases → AllByRecursion (AreHashedCompared d) cases
  hashed_where eq_lists hash_lists [] each = tt
  hashed_where eq_lists hash_lists (fields ∷ cases) each = (each.0.hashed eq_lists hash_lists, hashed_where eq_lists hash_lists cases each.1)

  pub coherent : IsCoherent d items
  coherent = record {
    all_functions = λ table values matching covers lawful.
        let rules = total_ruled table d values lawful.total_orders in
        record {
          eq_is_equivalence = λ eq is. equivalence table values (covers PartialEq is.lists) lawful.equivalences eq is;
          cmp_is_total_order = λ cmp is. total table values covers cmp is rules;
          cmp_is_equal_where_eq = λ cmp eq is eq_derived. equal table values covers matching cmp eq is eq_derived rules lawful.equal_where_true;
          partial_cmp_is_some_of_cmp = λ partial_cmp cmp partial_derived is. some_of_cmp table values covers matching partial_cmp cmp partial_derived is rules lawful.some_of;
          hash_respects_eq = λ hash eq other is eq_derived.
              fed table values (covers PartialEq eq_derived.lists) (hashed_where eq_derived.lists is.lists (cases_of d) matching) lawful.feed_alike hash eq other is eq_derived;
        };
    partial_order = λ table values matching covers lawful.
        let rules = partial_ruled table d values lawful.partial_orders in
        record {
          partial_cmp_is_partial_order = λ partial_cmp is. partial table values covers partial_cmp is rules;
          partial_cmp_is_equal_where_eq = λ partial_cmp eq is eq_derived. partial_equal table values covers matching partial_cmp eq is eq_derived rules lawful.equal_where_true;
        };
    equality = λ table values covers lawful eq is. equivalence table values covers lawful eq is;
    hash = λ table values hashed covers feed hash eq other is eq_derived. fed table values covers hashed feed hash eq other is eq_derived;
  }

-- The law of coherence.
pub lawful_coherence : CoherenceLaws
lawful_coherence = record {
  coherent = coherent;
  lawful_by_number = by_number_lawful;
  lawful_for_partial_ord_by_number = by_number_lawful_for_partial_ord;
  covers_by_number = by_number_covers;
}
