-- How the derived comparisons and `Hash` fit together (documentation of `std`, `Eq`, `PartialOrd`, `Ord` and `Hash`).
use Rattle.std.specs.Prelude.{◌≡◌, List, Option, Some, IsTrue}
use Rattle.std.specs.List.{AllByRecursion, Contains}
use Rattle.educe_syntax.specs.DeriveInput.{DeriveInput}
use Rattle.educe_bound_traits.specs.declared.traits.Trait.{Trait}
use Rattle.educe_bound_traits.specs.declared.traits.Trait.TheVariants as trait
use Rattle.educe_body_forms.specs.declared.body.Body.{Body}
use Rattle.educe_body_forms.specs.declared.comparison.Comparison.{Comparison}
use Rattle.educe_body_forms.specs.declared.comparison.Comparison.TheVariants.{PartialEq}
use Rattle.educe_body_items.specs.declared.items.Function.{Function}
use Rattle.educe_body_items.specs.declared.items.ImplItem.{ImplItem}
use Rattle.educe_body_items.specs.declared.items.Item.{Item}
use Rattle.educe_body_items.specs.declared.items.Item.TheVariants.{Impl}
use Rattle.educe_body_values.specs.declared.answers.Answers.{Answers}
use Rattle.educe_body_values.specs.declared.outcome.Outcome.{Outcome}
use Rattle.educe_body_values.specs.declared.outcome.Outcome.TheVariants.{Truth, Order, PartialOrder, Parts}
use Rattle.educe_body_values.specs.declared.value.Value.{Value}
use Rattle.educe_body_values.specs.Meaning.{value}
use Rattle.educe_meaning.specs.Blocks.{scene_of, scene_with, EachEvaluates}
use Rattle.educe_settings.specs.Cases.{cases_of}
use Rattle.educe_meaning.specs.Comparisons.{trait_of}
use Rattle.educe_meaning.specs.Discriminants.{HaveDiscriminants}
use Rattle.educe_settings.specs.Rows.{is_order}
use Rattle.educe_meaning_coherence.specs.Relations.{IsEquivalenceAmong, IsTotalOrderAmong, IsPartialOrderAmong, IsEqualWhereTrue, IsSomeOf, FeedsAlike}
use Rattle.educe_meaning_coherence.specs.Lawful.{Lists, HaveMatchingSettings, AreHashedCompared, AreEquivalences, FieldsFeedAlike, IsLawful, IsLawfulForPartialOrd}
use Rattle.educe_meaning_coherence.specs.Lawful.{CoversFor, CoversEachTwo, HasPlainFields, AreReversedAlike, IsByNumber, HaveShape}

-- The trait is listed, and the body is that of a function of an impl of it among the items.
pub record IsDerivedBody (which : Trait) (definition : DeriveInput) (items : List Item) (body : Body) : Type 0 where
  pub lists : Lists definition which
  pub item : ImplItem
  pub among : Contains items (Impl item)
  pub which_is : item.which ≡ which
  pub function : Function
  pub has : Contains item.functions function
  pub body_is : function.body ≡ body

-- What the body of a comparison evaluates to on two values, by a table.
abbrev pub compares : DeriveInput → Answers → Body → Value → Value → Outcome
compares definition table body a b = value body (scene_of definition a b table)

-- What the body of `hash` evaluates to on a value, by a table, whatever other value is in scope.
abbrev pub hashes : DeriveInput → Answers → Body → Option Value → Value → Outcome
hashes definition table body other a = value body (scene_with definition a other table)

-- The derived functions are coherent among these values: `eq` evaluates to an equivalence; `cmp` to a total order, which is Equal exactly
-- where `eq` is true; `partial_cmp` to `Some` of what `cmp` evaluates to; and where `eq` is true, `hash` feeds the same parts of both.
pub record AreCoherent (definition : DeriveInput) (items : List Item) (table : Answers) (values : List Value) : Type 0 where
  pub eq_is_equivalence : (eq : Body) → IsDerivedBody trait.PartialEq definition items eq
      → IsEquivalenceAmong (Contains values) (compares definition table eq) Truth
  pub cmp_is_total_order : (cmp : Body) → IsDerivedBody trait.Ord definition items cmp
      → IsTotalOrderAmong (Contains values) (compares definition table cmp) Order
  pub cmp_is_equal_where_eq : (cmp eq : Body)
      → IsDerivedBody trait.Ord definition items cmp → IsDerivedBody trait.PartialEq definition items eq
      → IsEqualWhereTrue (Contains values) (compares definition table cmp) Order (compares definition table eq) Truth
  pub partial_cmp_is_some_of_cmp : (partial_cmp cmp : Body)
      → IsDerivedBody trait.PartialOrd definition items partial_cmp → IsDerivedBody trait.Ord definition items cmp
      → IsSomeOf (Contains values) (compares definition table partial_cmp) PartialOrder (compares definition table cmp) Order
  pub hash_respects_eq : (hash eq : Body) (other : Option Value)
      → IsDerivedBody trait.Hash definition items hash → IsDerivedBody trait.PartialEq definition items eq
      → FeedsAlike (Contains values) (hashes definition table hash other) Parts (compares definition table eq) Truth

-- `partial_cmp` is coherent with `eq` among these values, whether `Ord` is listed or not: it evaluates to a partial order, which is
-- Some(Equal) exactly where `eq` is true. A value need not be Equal to itself, as NaN is not.
pub record IsPartialCmpCoherent (definition : DeriveInput) (items : List Item) (table : Answers) (values : List Value) : Type 0 where
  pub partial_cmp_is_partial_order : (partial_cmp : Body) → IsDerivedBody trait.PartialOrd definition items partial_cmp
      → IsPartialOrderAmong (Contains values) (compares definition table partial_cmp) PartialOrder
  pub partial_cmp_is_equal_where_eq : (partial_cmp eq : Body)
      → IsDerivedBody trait.PartialOrd definition items partial_cmp → IsDerivedBody trait.PartialEq definition items eq
      → IsEqualWhereTrue (Contains values) (compares definition table partial_cmp) (λ o. PartialOrder (Some o)) (compares definition table eq) Truth

-- The derived comparisons and `Hash` are coherent. Over each table, and values each two of which it covers:
pub record IsCoherent (definition : DeriveInput) (items : List Item) : Type 0 where
  -- If the settings match and the table is lawful on the values, all functions are coherent.
  pub all_functions : (table : Answers) (values : List Value) → HaveMatchingSettings definition → CoversEachTwo table definition values
      → IsLawful table definition values → AreCoherent definition items table values
  -- If the settings match and the table is lawful on them for `PartialOrd`, `partial_cmp` is a partial order that agrees with `eq`.
  pub partial_order : (table : Answers) (values : List Value) → HaveMatchingSettings definition → CoversEachTwo table definition values
      → IsLawfulForPartialOrd table definition values → IsPartialCmpCoherent definition items table values
  -- If what each field says to `PartialEq` is an equivalence, so is `eq`, whatever the settings.
  pub equality : (table : Answers) (values : List Value) → CoversFor PartialEq table definition values → AreEquivalences table definition values
      → (eq : Body) → IsDerivedBody trait.PartialEq definition items eq → IsEquivalenceAmong (Contains values) (compares definition table eq) Truth
  -- If `Hash` takes no field that `PartialEq` leaves out, and equal fields feed the same, equal values feed the same.
  pub hash : (table : Answers) (values : List Value) → AllByRecursion (AreHashedCompared definition) (cases_of definition)
      → CoversFor PartialEq table definition values → FieldsFeedAlike table definition values
      → (hash eq : Body) (other : Option Value) → IsDerivedBody trait.Hash definition items hash → IsDerivedBody trait.PartialEq definition items eq
      → FeedsAlike (Contains values) (hashes definition table hash other) Parts (compares definition table eq) Truth

-- What holds of the items of a definition with no call: where their functions evaluate to what their traits mean, they are coherent; and
-- the premises about tables can be met. A table that has no rows and answers by number is lawful on all values of the definition's
-- shape, where no field has a method of a comparison or of `Hash` and both orders reverse the same fields; for `PartialOrd` alone,
-- whatever they reverse; and it covers each two of the values, where the discriminants have numbers.
pub record CoherenceLaws : Type 0 where
  pub coherent : (definition : DeriveInput) (items : List Item) → AllByRecursion (EachEvaluates definition) items → IsCoherent definition items
  pub lawful_by_number : (table : Answers) (definition : DeriveInput) (values : List Value) → IsByNumber table
      → HasPlainFields definition → HaveShape definition values → AreReversedAlike definition → IsLawful table definition values
  pub lawful_for_partial_ord_by_number : (table : Answers) (definition : DeriveInput) (values : List Value) → IsByNumber table
      → HasPlainFields definition → HaveShape definition values → IsLawfulForPartialOrd table definition values
  pub covers_by_number : (table : Answers) (definition : DeriveInput) (values : List Value) → IsByNumber table
      → HasPlainFields definition → HaveShape definition values
      → ((which : Comparison) → Lists definition (trait_of which) → IsTrue (is_order (trait_of which)) → HaveDiscriminants table definition)
      → CoversEachTwo table definition values
