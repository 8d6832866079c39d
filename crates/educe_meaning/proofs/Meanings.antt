-- What the fields that take part mean, in the order in which a comparison goes over them.
use Rattle.std.proofs.Common.{◌≡◌, Bool, true, false, not, List, [], ◌∷◌, Option, Some, None, map, refl, sym, ap, ◌∙◌, subst}
use Rattle.std.specs.Prelude.{if◌then◌else◌, IsSome, unwrap_or, ◌&&◌}
use Rattle.std.specs.List.{AllByRecursion}
use Rattle.std.specs.declared.cmp.Ordering.{Ordering}
use Rattle.std.specs.declared.cmp.Ordering.TheVariants.{Equal}
use Rattle.std.proofs.lemmas.Bool.{false≢true, eq-eqb}
use Rattle.std.proofs.lemmas.List.Sorted.{IsPermutation-map}
use Rattle.educe_tokens.specs.declared.token.Token.{Token}
use Rattle.educe_syntax.specs.DeriveInput.{DeriveInput}
use Rattle.educe_bound_traits.specs.declared.traits.Trait.{Trait}
use Rattle.educe_body_values.specs.Meaning.{Scene, list_value, go_on, known_thing, outcome_of, outcome_of_thing}
use Rattle.educe_body_values.specs.Scoping.{IsApart}
use Rattle.educe_body_forms.specs.declared.comparison.Comparison.{Comparison}
use Rattle.educe_body_forms.specs.declared.comparison.Comparison.TheVariants.{PartialEq, PartialOrd, Ord}
use Rattle.educe_body_values.specs.declared.answers.Answer.{Answer}
use Rattle.educe_body_values.specs.declared.answers.Answer.TheVariants.{Truth as AnswerTruth}
use Rattle.educe_body_values.specs.declared.answers.Answers.{Answers}
use Rattle.educe_body_values.specs.declared.environment.Env.{Env}
use Rattle.educe_body_values.specs.declared.value.Value.{Value}
use Rattle.educe_body_forms.specs.declared.form.Form as form
use Rattle.educe_body_values.specs.declared.outcome.Outcome.{Outcome}
use Rattle.educe_body_values.specs.declared.outcome.Outcome.TheVariants.{Truth as OutcomeTruth}
use Rattle.educe_body_forms.specs.declared.form.Known.{Known}
use Rattle.educe_body_forms.specs.declared.form.Known.TheVariants.{Truth, Order, PartialOrder}
use Rattle.educe_meaning.specs.Comparisons.{trait_of}
use Rattle.educe_settings.specs.Rows.{is_order}
use Rattle.educe_settings.specs.Settings.{Kept, How, plainly, by_method, by_order}
use Rattle.educe_meaning.specs.Comparing.{Compared, said, directed, says, says_true, is_apart, differs, equal, compared, neutral, answered, order, outcome, number_order, discriminants_first, meaning}
use Rattle.educe_meaning.specs.Discriminants.{discriminant_of}
use Rattle.educe_settings.specs.Order.{IsByRank, IsOrdered, IsInOrder}
use Rattle.educe_settings.proofs.Elements.{each_moved}
use Rattle.educe_meaning.proofs.Least.{first_where, least_by-first}
use Rattle.educe_meaning.proofs.Pairing.{Look, seen}
use Rattle.educe_settings.proofs.Rising.{Rises-mapped}
use Rattle.educe_meaning.proofs.Stepping.{decided}
use Rattle.educe_meaning.proofs.Turning.{said_stays}

-- ---- the order of the fields

-- what holds of each field that takes part holds of each by rank, and of each as it is written
each_ordered : (by_rank : Bool) (P : Kept → Type 0) (kept ordered : List Kept) → IsOrdered by_rank kept ordered → AllByRecursion P kept → AllByRecursion P ordered
each_ordered true P kept ordered in_order each = each_moved P kept ordered in_order.same each
each_ordered false P kept ordered in_order each = subst (AllByRecursion P) (sym in_order) each

-- what holds of each field that takes part holds of each in the order of the trait
pub each_in_order : (which : Trait) (P : Kept → Type 0) (kept ordered : List Kept) → IsInOrder which kept ordered → AllByRecursion P kept → AllByRecursion P ordered
each_in_order which = each_ordered (is_order which)

-- something is said, and it is a truth value
abbrev IsTruthIfSome : Option Known → Type 0
IsTruthIfSome o = IsSome o → (b : Bool) × (o ≡ Some (Truth b))

truth_said : (how : How) (answer : Option Answer) → IsTruthIfSome (said PartialEq how answer)
truth_said plainly (Some (AnswerTruth b)) known = (not b, refl)
truth_said plainly answer known = absurd (false≢true known)
truth_said (by_method path) (Some (AnswerTruth b)) known = (b, refl)
truth_said (by_method path) answer known = absurd (false≢true known)
truth_said (by_order path) (Some (AnswerTruth b)) known = (b, refl)
truth_said (by_order path) answer known = absurd (false≢true known)

-- what a field says to `PartialEq` is a truth value
truth_directed : (reverse : Bool) (how : How) (answer : Option Answer) → IsTruthIfSome (directed reverse (said PartialEq how answer))
truth_directed reverse how answer = subst IsTruthIfSome (sym (said_stays reverse how answer)) (truth_said how answer)

module _ (table : Answers) where
  equal_step : (c : Compared) (later : Option Compared) (rest b : Bool) → says PartialEq table c ≡ Some (Truth b) → answered PartialEq table later ≡ Truth rest
      → answered PartialEq table (if differs PartialEq table c then Some c else later) ≡ Truth (says_true (says PartialEq table c) && rest)
  equal_step c later rest true is go =
      ap (λ (o : Option Known). answered PartialEq table (if is_apart (unwrap_or o (Truth true)) then Some c else later)) is ∙ go ∙ ap (λ o. Truth (says_true o && rest)) (sym is)
  equal_step c later rest false is go =
      ap (λ (o : Option Known). answered PartialEq table (if is_apart (unwrap_or o (Truth true)) then Some c else later)) is ∙ ap (λ o. unwrap_or o (Truth true)) is
      ∙ ap (λ o. Truth (says_true o && rest)) (sym is)

  -- the first field in which two values differ says whether all are equal
  equal_first : (cs : List Compared) → AllByRecursion (λ c. IsSome (says PartialEq table c)) cs → answered PartialEq table (first_where (differs PartialEq table) cs) ≡ Truth (equal table cs)
  equal_first [] known = refl
  equal_first (c ∷ cs) known =
      let truth = truth_directed c.kept.reverse c.kept.how _ known.0 in
      equal_step c (first_where (differs PartialEq table) cs) (equal table cs) truth.0 truth.1 (equal_first cs known.1)

-- of the fields in which two values differ the one of least rank is the first in the order of ranks
by_least : (which : Comparison) (table : Answers) (look_a look_b : Look) (kept ordered : List Kept) (cs : List Compared) → IsByRank kept ordered → cs ≡ map (seen look_a look_b) kept
    → outcome (answered which table (first_where (differs which table) (map (seen look_a look_b) ordered))) ≡ outcome (order which table cs)
by_least which table look_a look_b kept ordered cs in_order same =
    let one = seen look_a look_b in
    ap (λ o. outcome (answered which table o)) (sym (least_by-first (λ (c : Compared). c.kept.rank) (differs which table) (map one kept) (map one ordered)
    (IsPermutation-map one kept ordered in_order.same) (Rises-mapped (λ (c : Compared). c.kept.rank) one ordered in_order.rises)))
    ∙ ap (λ cs. outcome (order which table cs)) (sym same)

-- what a comparison means of the fields of one case
abbrev pub fields_meaning : Comparison → Answers → List Compared → Outcome
fields_meaning PartialEq table cs = OutcomeTruth (equal table cs)
fields_meaning PartialOrd table cs = outcome (order PartialOrd table cs)
fields_meaning Ord table cs = outcome (order Ord table cs)

-- in the order of the trait the first field in which the two values differ says what the fields mean
pub means_in_order : (which : Comparison) (table : Answers) (look_a look_b : Look) (kept ordered : List Kept) (cs : List Compared) → IsInOrder (trait_of which) kept ordered
    → cs ≡ map (seen look_a look_b) kept → AllByRecursion (λ c. IsSome (says which table c)) cs
    → outcome (answered which table (first_where (differs which table) (map (seen look_a look_b) ordered))) ≡ fields_meaning which table cs
means_in_order PartialEq table look_a look_b kept ordered cs in_order same known =
    ap (λ ks. outcome (answered PartialEq table (first_where (differs PartialEq table) (map (seen look_a look_b) ks)))) in_order
    ∙ ap (λ cs. outcome (answered PartialEq table (first_where (differs PartialEq table) cs))) (sym same) ∙ ap outcome (equal_first table cs known)
means_in_order PartialOrd table look_a look_b kept ordered cs in_order same known = by_least PartialOrd table look_a look_b kept ordered cs in_order same
means_in_order Ord table look_a look_b kept ordered cs in_order same known = by_least Ord table look_a look_b kept ordered cs in_order same

-- two values of one case whose discriminants do not differ mean what their fields do
pub same_case : (which : Comparison) (table : Answers) (d : DeriveInput) (a b : Value) → a.variant ≡ b.variant
    → number_order (discriminant_of table d a) (discriminant_of table d b) ≡ Equal → fields_meaning which table (compared which d a b) ≡ meaning which table d a b
same_case PartialEq table d a b same alike = ap (λ (t : Bool). OutcomeTruth (t && equal table (compared PartialEq d a b))) (sym (eq-eqb a.variant b.variant same))
same_case PartialOrd table d a b same alike = ap (λ (o : Ordering). outcome (discriminants_first PartialOrd o (order PartialOrd table (compared PartialOrd d a b)))) (sym alike)
same_case Ord table d a b same alike = ap (λ (o : Ordering). outcome (discriminants_first Ord o (order Ord table (compared Ord d a b)))) (sym alike)

-- ---- the end of a function

-- an answer that a body names evaluates to it
pub outcome_known : (env : Env) (k : Known) → outcome_of_thing env (known_thing k) ≡ outcome k
outcome_known env (Truth b) = refl
outcome_known env (Order o) = refl
outcome_known env (PartialOrder p) = refl

module _ (scene : Scene) (env : Env) (input : List Token) (apart : AllByRecursion (IsApart input) env.names) (which : Comparison) where
  -- behind the steps stands what is answered where the two values differ in no field
  pub steps_ended : (o : Option Compared)
      → outcome_of (go_on (decided scene env input apart which o) (λ env thing. list_value scene env thing (form.Known (neutral which) ∷ []))) ≡ outcome (answered which scene.answers o)
  steps_ended None = outcome_known env (neutral which)
  steps_ended (Some c) = outcome_known env (answered which scene.answers (Some c))
