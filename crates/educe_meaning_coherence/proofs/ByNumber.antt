-- A table that answers by number is lawful.
use Rattle.std.proofs.Common.{◌≡◌, ℕ, zero, suc, ℤ, Bool, true, false, not, List, [], ◌∷◌, Option, Some, None, slice_get, int_cmp, Ordering, Less, Equal, Greater, refl, sym, ap, ◌∙◌, subst, rules}
use Rattle.std.specs.Prelude.{◌==◌, ◌↔◌, if◌then◌else◌, IsTrue, IsSome}
use Rattle.std.specs.Ordering.{int_eq, ordering_reverse}
use Rattle.std.proofs.lemmas.Bool.Decides.{Decides-int_eq}
use Rattle.std.proofs.lemmas.Map.Lookups.{exact_signed}
use Rattle.std.proofs.lemmas.Option.{same_Some}
use Rattle.educe_syntax.specs.DeriveInput.{DeriveInput}
use Rattle.educe_syntax.specs.Few.{all_fields}
use Rattle.educe_syntax.specs.Field.{Field}
use Rattle.educe_bound_traits.specs.declared.traits.Trait.TheVariants as trait
use Rattle.educe_body_forms.specs.declared.comparison.Comparison.{Comparison}
use Rattle.educe_body_forms.specs.declared.comparison.Comparison.TheVariants.{PartialEq, PartialOrd, Ord}
use Rattle.educe_body_forms.specs.declared.form.Known.{Known}
use Rattle.educe_body_forms.specs.declared.form.Known.TheVariants as known
use Rattle.educe_body_values.specs.declared.answers.Answers.{Answers}
use Rattle.educe_body_values.specs.declared.callee.BuiltIn.TheVariants as built_in
use Rattle.educe_body_values.specs.declared.callee.Callee.{Callee}
use Rattle.educe_body_values.specs.declared.value.FieldValue.{FieldValue}
use Rattle.educe_body_values.specs.declared.value.Value.{Value}
use Rattle.educe_body_values.specs.Answering.{answer_of, first_row, by_number_answer, compared_numbers, or_else}
use Rattle.educe_body_values.specs.Callees.{as_callee}
use Rattle.educe_body_values.specs.Types.{first_place, type_spellings}
use Rattle.educe_settings.specs.Cases.{cases_of}
use Rattle.educe_meaning.specs.Comparing.{HaveTypes, comparison, asked, said, directed, as_answer}
use Rattle.educe_meaning.specs.Comparisons.{trait_of}
use Rattle.educe_meaning.specs.Discriminants.{HaveDiscriminants}
use Rattle.educe_meaning.specs.Hashing.{part_said}
use Rattle.educe_settings.specs.Rows.{is_order}
use Rattle.educe_settings.specs.Settings.{How, plainly}
use Rattle.educe_meaning_coherence.specs.Lawful.{says_at, feeds_at, as_truth, as_order, as_partial_order, as_part, TakesPart, IsFoundAt, AreEquivalences}
use Rattle.educe_meaning_coherence.specs.Lawful.{AreTotalOrders, ArePartialOrders, AreEqualWhereTrue, AreSomeOf, FieldsFeedAlike, IsLawful, IsLawfulForPartialOrd, HasNoMethods, HasPlainFields, IsByNumber, HaveShape}
use Rattle.educe_meaning_coherence.specs.Lawful.{Lists, AtEachField, CoversEachTwo, is_reversed, AreReversedAlike}
use Rattle.educe_meaning_coherence.proofs.Chains.{IsOrdered, ordered_by, ordered_reversed, equivalence_by, partial_by, total_by}
use Rattle.educe_meaning_coherence.proofs.Deciding.{order_in, order_said}
use Rattle.educe_meaning_coherence.proofs.Fields.{all_say}
use Rattle.educe_meaning_coherence.proofs.Numbers.{number_chain, number_turned, number_same}
use Rattle.educe_meaning_coherence.proofs.Whole.{of_case}

same_type : (m n : ℕ) → m ≡ n → (m == n) ≡ true
same_type m n h = search rules

-- Numbers that are answered equal are the same.
equal_numbers : (m n : ℤ) → int_eq m n ≡ true → m ≡ n
equal_numbers m n is = (Decides-int_eq m n).0 is

numbers_equal : (m n : ℤ) → m ≡ n → int_eq m n ≡ true
numbers_equal m n is = (Decides-int_eq m n).1 is

not_not : (b : Bool) → not (not b) ≡ b
not_not true = refl
not_not false = refl

-- The truth that is said.
abbrev truth_in : Option Known → Bool
truth_in (Some (known.Truth b)) = b
truth_in said = true

-- The order that a field says of two numbers in this order: with true, for a reversed field, the reversed one.
abbrev order_by : Bool → Ordering → Ordering
order_by false o = o
order_by true o = ordering_reverse o

directed_order : (reverse : Bool) (o : Ordering) → directed reverse (as_order o) ≡ as_order (order_by reverse o)
directed_order false o = refl
directed_order true o = refl

directed_partial : (reverse : Bool) (o : Ordering) → directed reverse (as_partial_order (Some o)) ≡ as_partial_order (Some (order_by reverse o))
directed_partial false o = refl
directed_partial true o = refl

-- A truth is said as it is.
directed_truth : (reverse b : Bool) → directed reverse (as_truth b) ≡ as_truth b
directed_truth false b = refl
directed_truth true b = refl

-- It is Equal where that of the numbers is.
equal_before : (reverse : Bool) (o : Ordering) → order_by reverse o ≡ Equal → o ≡ Equal
equal_before false o is = is
equal_before true Less is = absurd (cc)
equal_before true Equal is = refl
equal_before true Greater is = absurd (cc)

equal_after : (reverse : Bool) → order_by reverse Equal ≡ Equal
equal_after false = refl
equal_after true = refl

-- The type of a field value is that of its field.
type_at : (all fs : List Field) (xs : List FieldValue) (k : ℕ) (f : Field) (x : FieldValue) → HaveTypes all fs xs → slice_get fs k ≡ Some f → slice_get xs k ≡ Some x
    → x.ty ≡ first_place all (type_spellings f)
type_at all [] xs k f x types at there = absurd (cc)
type_at all (g ∷ fs) [] k f x types at there = absurd types
type_at all (g ∷ fs) (y ∷ ys) zero f x types at there =
    ap (λ (z : FieldValue). z.ty) (sym (same_Some y x there)) ∙ (types.0 ∙ ap (λ (h : Field). first_place all (type_spellings h)) (same_Some g f at))
type_at all (g ∷ fs) (y ∷ ys) (suc k) f x types at there = type_at all fs ys k f x types.1 at there

module _ (table : Answers) (d : DeriveInput) (values : List Value) (numbers : IsByNumber table) (shapes : HaveShape d values) where
  answered : (callee : Callee) (x y : Option FieldValue) → answer_of table callee x y ≡ by_number_answer callee x y
  answered callee x y = λ i. or_else (first_row (numbers.no_rows i) callee x y) (if numbers.by_number i then by_number_answer callee x y else None)

  module _ (v place : ℕ) (fs : List Field) (f : Field) (exists : slice_get (cases_of d) v ≡ Some fs) (at : slice_get fs place ≡ Some f) where
    abbrev In : FieldValue → Type 0
    In = IsFoundAt values v place

    found_type : (x : FieldValue) → In x → x.ty ≡ first_place (all_fields d) (type_spellings f)
    found_type x found =
        let shape = shapes found.value found.among in
        let same : shape.fields ≡ fs = same_Some shape.fields fs (sym shape.exists ∙ (ap (slice_get (cases_of d)) found.variant_is ∙ exists)) in
        type_at (all_fields d) fs found.value.fields place f x (subst (λ (gs : List Field). HaveTypes (all_fields d) gs found.value.fields) same shape.types) at found.at

    says_plain : (which : Comparison) → HasNoMethods d (trait_of which) → TakesPart (trait_of which) d f → (x y : FieldValue) → In x → In y
        → says_at which table d place f x y ≡ directed (is_reversed (trait_of which) d f) (said which plainly (compared_numbers (as_callee (comparison which)) x y))
    says_plain which none taken x y in_x in_y =
        let reverse = is_reversed (trait_of which) d f in
        ap (λ (how : How). directed reverse (said which how (answer_of table (asked (comparison which) how) (Some x) (Some y)))) (none v place fs f exists at taken)
        ∙ ap (λ answer. directed reverse (said which plainly answer))
        (answered (as_callee (comparison which)) (Some x) (Some y)
        ∙ ap (λ (b : Bool). if b then compared_numbers (as_callee (comparison which)) x y else None) (same_type x.ty y.ty (found_type x in_x ∙ sym (found_type y in_y))))

    eq_says : HasNoMethods d trait.PartialEq → TakesPart trait.PartialEq d f → (x y : FieldValue) → In x → In y → says_at PartialEq table d place f x y ≡ as_truth (int_eq x.number y.number)
    eq_says none taken x y in_x in_y =
        says_plain PartialEq none taken x y in_x in_y ∙ directed_truth (is_reversed trait.PartialEq d f) (not (not (int_eq x.number y.number)))
        ∙ ap (λ (b : Bool). as_truth b) (not_not (int_eq x.number y.number))

    ord_says : HasNoMethods d trait.Ord → TakesPart trait.Ord d f → (x y : FieldValue) → In x → In y
        → says_at Ord table d place f x y ≡ as_order (order_by (is_reversed trait.Ord d f) (int_cmp x.number y.number))
    ord_says none taken x y in_x in_y = says_plain Ord none taken x y in_x in_y ∙ directed_order (is_reversed trait.Ord d f) (int_cmp x.number y.number)

    partial_says : HasNoMethods d trait.PartialOrd → TakesPart trait.PartialOrd d f → (x y : FieldValue) → In x → In y
        → says_at PartialOrd table d place f x y ≡ as_partial_order (Some (order_by (is_reversed trait.PartialOrd d f) (int_cmp x.number y.number)))
    partial_says none taken x y in_x in_y =
        says_plain PartialOrd none taken x y in_x in_y ∙ directed_partial (is_reversed trait.PartialOrd d f) (int_cmp x.number y.number)

    hash_feeds : HasNoMethods d trait.Hash → TakesPart trait.Hash d f → (x : FieldValue) → feeds_at table d place f x ≡ as_part x.number
    hash_feeds none taken x =
        ap (λ (how : How). part_said (answer_of table (asked built_in.Hash how) (Some x) None)) (none v place fs f exists at taken)
        ∙ ap part_said (answered (as_callee built_in.Hash) (Some x) None)

  pub equality_by_number : HasNoMethods d trait.PartialEq → AreEquivalences table d values
  equality_by_number none v place fs f exists at taken =
      equivalence_by (IsFoundAt values v place) (says_at PartialEq table d place f) as_truth (λ b c alike. ap truth_in alike) (λ x y. int_eq x.number y.number) (eq_says v place fs f exists at none taken)
      (λ x in_x. numbers_equal x.number x.number refl)
      (λ x y in_x in_y is. numbers_equal y.number x.number (sym (equal_numbers x.number y.number is)))
      (λ x y z in_x in_y in_z first second. numbers_equal x.number z.number (equal_numbers x.number y.number first ∙ equal_numbers y.number z.number second))

  -- The orders of numbers are reversed when they are exchanged, and Less or Equal is transitive.
  plainly_ordered : (v place : ℕ) → IsOrdered (IsFoundAt values v place) (λ x y. Some (int_cmp x.number y.number))
  plainly_ordered v place =
      ordered_by (IsFoundAt values v place) (λ x y. Some (int_cmp x.number y.number))
      (λ x y in_x in_y. ap Some (number_turned x.number y.number))
      (λ x y z in_x in_y in_z. number_chain x.number y.number z.number)

  -- So it is where each of them is reversed.
  numbers_ordered : (reverse : Bool) (v place : ℕ) → IsOrdered (IsFoundAt values v place) (λ x y. Some (order_by reverse (int_cmp x.number y.number)))
  numbers_ordered false v place = plainly_ordered v place
  numbers_ordered true v place = ordered_reversed (IsFoundAt values v place) (λ x y. Some (int_cmp x.number y.number)) (plainly_ordered v place)

  pub order_by_number : HasNoMethods d trait.Ord → AreTotalOrders table d values
  order_by_number none v place fs f exists at taken =
      total_by (order_said Ord) as_order (λ o. refl) (IsFoundAt values v place) (says_at Ord table d place f)
      (λ x y. order_by (is_reversed trait.Ord d f) (int_cmp x.number y.number))
      (numbers_ordered (is_reversed trait.Ord d f) v place) (ord_says v place fs f exists at none taken)

  pub partial_by_number : HasNoMethods d trait.PartialOrd → ArePartialOrders table d values
  partial_by_number none v place fs f exists at taken =
      partial_by (order_said PartialOrd) as_partial_order (λ p. refl) (IsFoundAt values v place) (says_at PartialOrd table d place f)
      (λ x y. Some (order_by (is_reversed trait.PartialOrd d f) (int_cmp x.number y.number)))
      (numbers_ordered (is_reversed trait.PartialOrd d f) v place) (partial_says v place fs f exists at none taken)

  -- Where an order says that of the numbers, or the reversed one, it is Equal exactly where `PartialEq` says that they are equal.
  equal_numbers_said : (which : Comparison) (reverse : Bool) → ((o : Ordering) → order_in (as_answer which o) ≡ Some o) → HasNoMethods d trait.PartialEq
      → (v place : ℕ) (fs : List Field) (f : Field) → slice_get (cases_of d) v ≡ Some fs → slice_get fs place ≡ Some f → TakesPart trait.PartialEq d f
      → (x y : FieldValue) → IsFoundAt values v place x → IsFoundAt values v place y → says_at which table d place f x y ≡ Some (as_answer which (order_by reverse (int_cmp x.number y.number)))
      → (says_at which table d place f x y ≡ Some (as_answer which Equal)) ↔ (says_at PartialEq table d place f x y ≡ as_truth true)
  equal_numbers_said which reverse known none v place fs f exists at taken x y in_x in_y order =
      let truth = eq_says v place fs f exists at none taken x y in_x in_y in
      let own = order_by reverse (int_cmp x.number y.number) in (
        (λ is.
            let same : own ≡ Equal = same_Some own Equal (sym (known own) ∙ (ap order_in (same_Some (as_answer which own) (as_answer which Equal) (sym order ∙ is)) ∙ known Equal)) in
            truth ∙ ap (λ (b : Bool). as_truth b) (numbers_equal x.number y.number (exact_signed x.number y.number (equal_before reverse (int_cmp x.number y.number) same)))),
        (λ is. order ∙ ap (λ (o : Ordering). Some (as_answer which o))
            (ap (λ (n : ℤ). order_by reverse (int_cmp x.number n)) (sym (equal_numbers x.number y.number (ap truth_in (sym truth ∙ is))))
            ∙ (ap (order_by reverse) (number_same x.number) ∙ equal_after reverse))),
      )

  pub equal_by_number : HasNoMethods d trait.PartialEq → HasNoMethods d trait.Ord → AreEqualWhereTrue Ord table d values
  equal_by_number none no_order v place fs f exists at taken ordered x y in_x in_y =
      equal_numbers_said Ord (is_reversed trait.Ord d f) (λ o. refl) none v place fs f exists at taken x y in_x in_y (ord_says v place fs f exists at no_order ordered x y in_x in_y)

  pub partial_equal_by_number : HasNoMethods d trait.PartialEq → HasNoMethods d trait.PartialOrd → AreEqualWhereTrue PartialOrd table d values
  partial_equal_by_number none no_order v place fs f exists at taken ordered x y in_x in_y =
      equal_numbers_said PartialOrd (is_reversed trait.PartialOrd d f) (λ o. refl) none v place fs f exists at taken x y in_x in_y (partial_says v place fs f exists at no_order ordered x y in_x in_y)

  pub some_of_by_number : HasNoMethods d trait.PartialOrd → HasNoMethods d trait.Ord → AreReversedAlike d → AreSomeOf table d values
  some_of_by_number none no_order alike v place fs f exists at taken ordered x y o in_x in_y is =
      partial_says v place fs f exists at none taken x y in_x in_y
      ∙ ap (λ (reverse : Bool). as_partial_order (Some (order_by reverse (int_cmp x.number y.number)))) (alike v place fs f exists at taken ordered)
      ∙ ap as_partial_order (ap (order_said Ord) (sym (ord_says v place fs f exists at no_order ordered x y in_x in_y) ∙ is))

  pub hash_by_number : HasNoMethods d trait.PartialEq → HasNoMethods d trait.Hash → FieldsFeedAlike table d values
  hash_by_number none no_hash v place fs f exists at taken hashed x y in_x in_y is = (
    x.number,
    hash_feeds v place fs f exists at no_hash hashed x,
    hash_feeds v place fs f exists at no_hash hashed y
        ∙ ap (λ (n : ℤ). as_part n) (sym (equal_numbers x.number y.number (ap truth_in (sym (eq_says v place fs f exists at none taken x y in_x in_y) ∙ is)))),
  )

module _ (table : Answers) (d : DeriveInput) (values : List Value) (numbers : IsByNumber table) (plain : HasPlainFields d) (shapes : HaveShape d values) where
  -- A table that has no rows and answers by number is lawful, where no field has a method and both orders reverse the same fields.
  pub by_number_lawful : AreReversedAlike d → IsLawful table d values
  by_number_lawful alike = record {
    equivalences = equality_by_number table d values numbers shapes (plain.compared PartialEq);
    total_orders = order_by_number table d values numbers shapes (plain.compared Ord);
    equal_where_true = equal_by_number table d values numbers shapes (plain.compared PartialEq) (plain.compared Ord);
    some_of = some_of_by_number table d values numbers shapes (plain.compared PartialOrd) (plain.compared Ord) alike;
    feed_alike = hash_by_number table d values numbers shapes (plain.compared PartialEq) plain.hashed;
  }

  -- It is lawful for `PartialOrd` too.
  pub by_number_lawful_for_partial_ord : IsLawfulForPartialOrd table d values
  by_number_lawful_for_partial_ord = record {
    partial_orders = partial_by_number table d values numbers shapes (plain.compared PartialOrd);
    equal_where_true = partial_equal_by_number table d values numbers shapes (plain.compared PartialEq) (plain.compared PartialOrd);
  }

  -- Each field that takes part says something of two values.
  say_by_number : (which : Comparison)
      → AtEachField d values (λ place field In. TakesPart (trait_of which) d field → (x y : FieldValue) → In x → In y → IsSome (says_at which table d place field x y))
  say_by_number PartialEq v place fs f exists at taken x y in_x in_y =
      subst IsSome (sym (eq_says table d values numbers shapes v place fs f exists at (plain.compared PartialEq) taken x y in_x in_y)) refl
  say_by_number PartialOrd v place fs f exists at taken x y in_x in_y =
      subst IsSome (sym (partial_says table d values numbers shapes v place fs f exists at (plain.compared PartialOrd) taken x y in_x in_y)) refl
  say_by_number Ord v place fs f exists at taken x y in_x in_y =
      subst IsSome (sym (ord_says table d values numbers shapes v place fs f exists at (plain.compared Ord) taken x y in_x in_y)) refl

  -- The table covers each two of the values, where the discriminants have numbers.
  pub by_number_covers : ((which : Comparison) → Lists d (trait_of which) → IsTrue (is_order (trait_of which)) → HaveDiscriminants table d) → CoversEachTwo table d values
  by_number_covers have which lists a b among_a among_b =
      let shape = shapes a among_a in
      record {
        first = shape;
        second = shapes b among_b;
        each = λ one.
            all_say table d values a.variant shape.fields shape.exists which (say_by_number which) lists a b
            (of_case table d values shapes a shape a among_a shape refl) (of_case table d values shapes a shape b among_b (shapes b among_b) one);
        ordered = have which lists;
      }
