-- What the bodies of the comparisons of enums evaluate to.
use Rattle.std.proofs.Common.{◌≡◌, ℕ, zero, suc, ℤ, Bool, true, false, ◌&&◌, ◌==◌, IsTrue, List, [], ◌∷◌, map, Option, Some, None, slice_get, int_cmp, int_eq, Ordering, Less, Equal, Greater, refl, sym, ap, ◌∙◌}
use Rattle.std.specs.Cmp.{Equal-is}
use Rattle.std.specs.List.{AllByRecursion, IsDistinct}
use Rattle.std.proofs.lemmas.Bool.{true≢false, false≢true, eqb-true, eq-eqb}
use Rattle.std.proofs.lemmas.Bool.Decides.{Decides-int_eq}
use Rattle.std.proofs.lemmas.List.Elements.{recursion_from_All}
use Rattle.std.proofs.lemmas.List.Sums.{AllPass-from_list_all}
use Rattle.std.proofs.lemmas.Map.Lookups.{exact_signed}
use Rattle.std.proofs.lemmas.Option.{none-some}
use Rattle.educe_syntax.specs.DeriveInput.{DeriveInput}
use Rattle.educe_syntax.specs.Variant.{Variant}
use Rattle.educe_body_values.specs.Meaning.{Scene, form_value, list_value, go_on, leave, start, some_of, order_thing, order_match, held_list, outcome_of, changed_or_given, ended}
use Rattle.educe_body_values.specs.declared.answers.Answers.{Answers}
use Rattle.educe_body_forms.specs.declared.body.Body.{Body}
use Rattle.educe_bound_traits.specs.declared.traits.Trait.TheVariants as trait
use Rattle.educe_body_forms.specs.declared.comparison.Comparison.{Comparison}
use Rattle.educe_body_forms.specs.declared.comparison.Comparison.TheVariants.{PartialEq, PartialOrd, Ord}
use Rattle.educe_body_values.specs.declared.environment.Binding.{Binding}
use Rattle.educe_body_values.specs.declared.environment.Env.{Env}
use Rattle.educe_body_values.specs.declared.outcome.Outcome.TheVariants.{Truth as OutcomeTruth}
use Rattle.educe_body_values.specs.declared.flow.Flow.{Flow}
use Rattle.educe_body_values.specs.declared.flow.Flow.TheVariants.{Gives, Returns, Stuck}
use Rattle.educe_body_values.specs.declared.flow.Thing.TheVariants.{Nothing, Order}
use Rattle.educe_body_forms.specs.declared.form.Form.{Form}
use Rattle.educe_body_forms.specs.declared.form.Known.{Known}
use Rattle.educe_body_values.specs.declared.value.Value.{Value}
use Rattle.educe_settings.specs.Cases.{is_unit}
use Rattle.educe_meaning.specs.Arms.{Names, AreNames, IsMatch, IsKeyComparison, in_answer, is_partial, IsDecision, are_units, IsKeyed, IsEnumBlock}
use Rattle.educe_meaning.specs.Blocks.{IsEnumBody, Compares, scene_of}
use Rattle.educe_meaning.specs.BodyLaws.{lawful_forms}
use Rattle.educe_meaning.specs.Comparing.{case_of, paired_from, compared, Covers, equal, neutral, order, number_order, as_answer, discriminants_first, outcome, meaning}
use Rattle.educe_meaning.specs.Comparisons.{trait_of}
use Rattle.educe_settings.specs.Rows.{is_order}
use Rattle.educe_meaning.specs.Discriminants.{discriminant, flat, counted, discriminant_of}
use Rattle.educe_meaning.proofs.Arms.{IsOf, is_of, go_on-end, match_same, match_differs}
use Rattle.educe_settings.proofs.Elements.{In-found, In-all}
use Rattle.educe_meaning.proofs.Facts.{AreFit, unit_has_none, IsOuter}
use Rattle.educe_meaning.proofs.KeyFunctions.{keyed, outer_values, outer_keyed, number_at, keys_value, keys_compared}
use Rattle.educe_meaning.proofs.Meanings.{same_case}
use Rattle.educe_meaning.proofs.Still.{still_enum}
use Rattle.educe_meaning.proofs.Structs.{names_for, env_of}

-- ---- numbers

-- a number is at no place of those from which it differs
not_at : (numbers : List ℤ) (k : ℕ) (n : ℤ) → AllByRecursion (λ m. int_eq n m ≡ false) numbers → slice_get numbers k ≡ Some n → ⊥
not_at numbers k n differs at = true≢false (sym ((Decides-int_eq n n).1 refl) ∙ In-all (λ m. int_eq n m ≡ false) numbers n differs (In-found numbers k n at))

-- where no two numbers are the same, one number is at one place
pub one_place : (numbers : List ℤ) (j k : ℕ) (n : ℤ) → IsDistinct int_eq numbers → slice_get numbers j ≡ Some n → slice_get numbers k ≡ Some n → j ≡ k
unfolding IsDistinct
one_place [] j k n differ at there = absurd (none-some n at)
one_place (m ∷ ms) zero zero n differ at there = refl
one_place (m ∷ ms) zero (suc k) n differ at there = absurd (not_at ms k m differ.0 (there ∙ sym at))
one_place (m ∷ ms) (suc j) zero n differ at there = absurd (not_at ms j m differ.0 (at ∙ sym there))
one_place (m ∷ ms) (suc j) (suc k) n differ at there = ap suc (one_place ms j k n differ.1 at there)

-- a number does not differ from itself
number_order-same : (o : Option ℤ) → number_order o o ≡ Equal
number_order-same None = refl
number_order-same (Some n) = (Equal-is (int_cmp n n)).0 ((Decides-int_eq n n).1 refl)

-- ---- outcomes

-- behind a block the outcome of its forms is left
left_outcome : (names : List Binding) (flow : Flow) → outcome_of (leave names flow) ≡ outcome_of flow
left_outcome names (Gives env thing) = refl
left_outcome names (Returns env thing) = refl
left_outcome names Stuck = refl

-- an order as the trait answers it
answer_outcome : (which : Comparison) (scene : Scene) (env : Env) (x : Form) (o : Ordering) → IsTrue (is_order (trait_of which)) → form_value scene env x ≡ Gives env (Order o)
    → outcome_of (form_value scene env (in_answer which x)) ≡ outcome (as_answer which o)
answer_outcome PartialEq scene env x o ordered gives = absurd (false≢true ordered)
answer_outcome PartialOrd scene env x o ordered gives = ap outcome_of (lawful_forms.in_some scene env x ∙ ap (λ flow. go_on flow some_of) gives)
answer_outcome Ord scene env x o ordered gives = ap outcome_of gives

-- an order as an arm gives it
arm_outcome : (which : Comparison) (env : Env) (o : Ordering) → IsTrue (is_order (trait_of which)) → outcome_of (Gives env (order_thing (is_partial which) o)) ≡ outcome (as_answer which o)
arm_outcome PartialEq env o ordered = absurd (false≢true ordered)
arm_outcome PartialOrd env o ordered = refl
arm_outcome Ord env o ordered = refl

-- where no field decides, the order of the discriminants is the answer
discriminants_only : (which : Comparison) (o : Ordering) (answer : Known) → (o ≡ Equal → answer ≡ neutral which) → outcome (as_answer which o) ≡ outcome (discriminants_first which o answer)
discriminants_only which Less answer none = refl
discriminants_only which Greater answer none = refl
discriminants_only PartialEq Equal answer none = ap outcome (sym (none refl))
discriminants_only PartialOrd Equal answer none = ap outcome (sym (none refl))
discriminants_only Ord Equal answer none = ap outcome (sym (none refl))

-- ---- the variants of values

-- where all variants are units, a value has no fields
unit_fields : (d : DeriveInput) (variants : List Variant) (value : Value) → IsOf d variants value → are_units variants ≡ true → case_of d value ≡ []
unit_fields d variants value of units =
    let v = of.variant in
    let unit = In-all (λ v. is_unit v ≡ true) variants v (recursion_from_All (λ v. is_unit v ≡ true) variants (AllPass-from_list_all is_unit variants units)) of.inside in
    of.case_is ∙ unit_has_none v unit

-- ---- the blocks of enums

module _ (which : Comparison) (d : DeriveInput) (variants : List Variant) (fit : AreFit (trait_of which) d variants) (names : Names) (are : AreNames d names) (table : Answers) (a b : Value)
    (covers : Covers which table d a b) where
  abbrev scene : Scene
  scene = scene_of d a b table

  -- what the block evaluates to in the scope of a function
  abbrev Means : List Form → Type 0
  Means block = outcome_of (list_value scene (env_of a (names_for names.other)) Nothing block) ≡ meaning which table d a b

  -- each value is of a variant
  abbrev of_a : IsOf d variants a
  of_a = is_of d variants fit.enum a covers.first

  abbrev of_b : IsOf d variants b
  of_b = is_of d variants fit.enum b covers.second

  -- in any scope a match on two values of one variant evaluates to what the comparison means
  matched : (outer : List Binding) → IsOuter names outer → (block : List Form) → IsMatch which d names variants block → a.variant ≡ b.variant
      → outcome_of (list_value scene (env_of a outer) Nothing block) ≡ meaning which table d a b
  matched outer is block k same =
      match_same which d table a b names variants are fit outer is block k covers.first covers.second same (covers.each same)
      ∙ same_case which table d a b same
      (ap (λ (v : ℕ). number_order (flat (slice_get (map (discriminant table) (counted d)) v)) (discriminant_of table d b)) same ∙ number_order-same (discriminant_of table d b))

  module _ (ordered : IsTrue (is_order (trait_of which))) (m n : ℤ) (m_is : discriminant_of table d a ≡ Some m) (n_is : discriminant_of table d b ≡ Some n) (one : int_cmp m n ≡ Equal → a.variant ≡ b.variant) where
    abbrev after : Env
    after = env_of a (keyed names m n)

    -- an order means that of the discriminants, or where that is Equal that of the fields
    means : (o : Ordering) → int_cmp m n ≡ o → meaning which table d a b ≡ outcome (discriminants_first which o (order which table (compared which d a b)))
    means o is = by_trait which ordered ∙ ap (λ o. outcome (discriminants_first which o (order which table (compared which d a b)))) is
      where
        by_trait : (which : Comparison) → IsTrue (is_order (trait_of which)) → meaning which table d a b ≡ outcome (discriminants_first which (int_cmp m n) (order which table (compared which d a b)))
        by_trait PartialEq ordered = absurd (false≢true ordered)
        by_trait PartialOrd ordered = λ i. outcome (discriminants_first PartialOrd (number_order (m_is i) (n_is i)) (order PartialOrd table (compared PartialOrd d a b)))
        by_trait Ord ordered = λ i. outcome (discriminants_first Ord (number_order (m_is i) (n_is i)) (order Ord table (compared Ord d a b)))

    -- the arms of a match on the order of the keys
    arms_value : (block : List Form) → IsMatch which d names variants block → (o : Ordering) → int_cmp m n ≡ o
        → outcome_of (order_match (is_partial which) Greater Less (held_list scene (Some block)) after (Order o)) ≡ meaning which table d a b
    arms_value block k Less is = arm_outcome which after Less ordered ∙ sym (means Less is)
    arms_value block k Greater is = arm_outcome which after Greater ordered ∙ sym (means Greater is)
    arms_value block k Equal is = left_outcome after.names (list_value scene after Nothing block) ∙ matched after.names (outer_keyed d names are m n) block k (one is)

    -- what follows the key function evaluates to what the comparison means
    decision_value : (compares : Form) → IsKeyComparison names compares → (decision : Form) (units : Bool) → are_units variants ≡ units → IsDecision which d names variants compares units decision
        → outcome_of (form_value scene after decision) ≡ meaning which table d a b
    decision_value compares k decision true units is =
        let none : compared which d a b ≡ [] = ap (λ fs. paired_from (trait_of which) d 0 fs a.fields b.fields) (unit_fields d variants a of_a units) in
        ap (λ x. outcome_of (form_value scene after x)) is
        ∙ answer_outcome which scene after compares (int_cmp m n) ordered (keys_compared d names are a b table m n compares k)
        ∙ discriminants_only which (int_cmp m n) (order which table (compared which d a b)) (λ alike. ap (order which table) none)
        ∙ sym (means (int_cmp m n) refl)
    decision_value compares k decision false units (block, block_is, is) =
        let arms = order_match (is_partial which) Greater Less (held_list scene (Some block)) in
        ap (λ x. outcome_of (form_value scene after x)) is
        ∙ ap outcome_of (lawful_forms.matches scene after compares (is_partial which) (Some block) Greater Less ∙ ap (λ flow. go_on flow arms) (keys_compared d names are a b table m n compares k))
        ∙ arms_value block block_is (int_cmp m n) refl

  -- the block of an order
  order_value : IsTrue (is_order (trait_of which)) → (block : List Form) → IsKeyed which d names variants block → Means block
  order_value ordered block k =
      let has = covers.ordered ordered in
      let m = number_at d table variants fit.enum.is has.numbers has.have a of_a.variant of_a.at in
      let n = number_at d table variants fit.enum.is has.numbers has.have b of_b.variant of_b.at in
      let one : int_cmp m.0 n.0 ≡ Equal → a.variant ≡ b.variant =
      λ alike. one_place has.numbers a.variant b.variant m.0 has.distinct m.1 (n.1 ∙ ap Some (sym (exact_signed m.0 n.0 alike))) in
      ap (λ block. outcome_of (list_value scene (env_of a (names_for names.other)) Nothing block)) k.block_is
      ∙ ap (λ flow. outcome_of (go_on flow (λ env thing. list_value scene env thing (k.decision ∷ []))))
      (keys_value d names are a b table (trait_of which) variants fit has.numbers has.have of_a of_b m.0 n.0 m.2 n.2 k.keys k.keys_are)
      ∙ ap outcome_of (go_on-end (form_value scene (env_of a (keyed names m.0 n.0)) k.decision))
      ∙ decision_value ordered m.0 n.0 m.2 n.2 one k.compares k.comparison_is k.decision (are_units variants) refl k.decision_is

-- the block of an equality
equal_value : (d : DeriveInput) (variants : List Variant) (fit : AreFit trait.PartialEq d variants) (names : Names) (are : AreNames d names) (table : Answers) (a b : Value)
    (covers : Covers PartialEq table d a b) (block : List Form) → IsMatch PartialEq d names variants block → Means PartialEq d variants fit names are table a b covers block
equal_value d variants fit names are table a b covers block k = by_variant (a.variant == b.variant) refl
  where
    by_variant : (t : Bool) → (a.variant == b.variant) ≡ t → Means PartialEq d variants fit names are table a b covers block
    by_variant true test =
        matched PartialEq d variants fit names are table a b covers (names_for names.other) (outer_values d names are) block k (eqb-true a.variant b.variant test)
    by_variant false test =
        match_differs d table a b names variants are fit (names_for names.other) (outer_values d names are) block k covers.first covers.second
        (λ same. false≢true (sym test ∙ eq-eqb a.variant b.variant same))
        ∙ ap (λ (t : Bool). OutcomeTruth (t && equal table (compared PartialEq d a b))) (sym test)

-- ---- the bodies of enums

-- the body of a comparison of an enum evaluates to what it means
pub enum_evaluates : (which : Comparison) (d : DeriveInput) (variants : List Variant) (body : Body) → AreFit (trait_of which) d variants → IsEnumBody which d variants body → Compares which d body
enum_evaluates which d variants body fit k table a b covers =
    (λ i. ended (k.params_are i) body.block (list_value (scene_of d a b table) (start (k.params_are i) (Some a)) Nothing body.block))
    ∙ (λ i. changed_or_given (still_enum which d k.names variants body.block k.block_is i) (list_value (scene_of d a b table) (env_of a (names_for (k.param_is i))) Nothing body.block))
    ∙ by_trait which variants fit k.block_is covers
  where
    by_trait : (which : Comparison) (variants : List Variant) (fit : AreFit (trait_of which) d variants) → IsEnumBlock which d k.names variants body.block → (covers : Covers which table d a b)
        → Means which d variants fit k.names k.names_are table a b covers body.block
    by_trait which [] fit is covers = absurd (is_of d [] fit.enum a covers.first).inside
    by_trait PartialEq (v ∷ vs) fit is covers = equal_value d (v ∷ vs) fit k.names k.names_are table a b covers body.block is
    by_trait PartialOrd (v ∷ vs) fit is covers = order_value PartialOrd d (v ∷ vs) fit k.names k.names_are table a b covers refl body.block is
    by_trait Ord (v ∷ vs) fit is covers = order_value Ord d (v ∷ vs) fit k.names k.names_are table a b covers refl body.block is
