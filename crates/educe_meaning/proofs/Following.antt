-- Where `PartialOrd` takes what fields say of `Ord`, it says in `Some` what `Ord` says.
use Rattle.std.proofs.Common.{◌≡◌, ℕ, ◌+◌, ℤ, Bool, true, false, List, [], ◌∷◌, map, Option, Some, None, Ordering, Less, Equal, Greater, int_lt, refl, ap, ◌∙◌}
use Rattle.std.specs.Prelude.{if◌then◌else◌, cond, IsSome, unwrap_or}
use Rattle.std.specs.List.{filter, AllByRecursion}
use Rattle.std.specs.Option.{option_map}
use Rattle.std.proofs.lemmas.Bool.{false≢true}
use Rattle.educe_syntax.specs.DeriveInput.{DeriveInput}
use Rattle.educe_syntax.specs.Field.{Field}
use Rattle.educe_bound_traits.specs.declared.traits.Trait.TheVariants as trait
use Rattle.educe_body_forms.specs.declared.comparison.Comparison.TheVariants.{PartialOrd, Ord}
use Rattle.educe_body_forms.specs.declared.form.Known.{Known}
use Rattle.educe_body_forms.specs.declared.form.Known.TheVariants.{Truth, Order, PartialOrder}
use Rattle.educe_body_values.specs.declared.answers.Answer.{Answer}
use Rattle.educe_body_values.specs.declared.answers.Answer.TheVariants.{Order as AnswerOrder, PartialOrder as AnswerPartialOrder}
use Rattle.educe_body_values.specs.declared.answers.Answers.{Answers}
use Rattle.educe_body_values.specs.declared.callee.BuiltIn.TheVariants.{Cmp, PartialCmp}
use Rattle.educe_body_values.specs.declared.value.FieldValue.{FieldValue}
use Rattle.educe_body_values.specs.declared.value.Value.{Value}
use Rattle.educe_body_values.specs.Answering.{answer_of}
use Rattle.educe_body_values.specs.Callees.{as_callee, callee_of}
use Rattle.educe_meaning.specs.Comparing.{case_of, Compared, paired_from, compared, asked, said_order, said_partial_order, said_in_some, said, says, word_of, is_apart, differs, answered, order, outcome, turned, directed}
use Rattle.educe_settings.specs.Ranks.{lesser, least_by}
use Rattle.educe_settings.specs.Settings.{How, plainly, by_method, by_order, is_kept, kept_at}
use Rattle.educe_meaning.specs.OrderLaws.{TakesFromOrd, IsAnsweredAlike, in_some}
use Rattle.educe_meaning.proofs.Taken.{IsTaken, case_taken, how_taken, kept_taken, kept_alike, kept_at_taken}
use Rattle.educe_meaning.proofs.Turning.{said_before}

-- a field that takes part in `Ord` with its values, as it takes part in `PartialOrd`
abbrev pub followed : Compared → Compared
followed c = record c { kept = kept_taken c.kept }

-- what is said to `Ord`, as it is said to `PartialOrd`
abbrev pub known_in_some : Known → Known
known_in_some (Order o) = PartialOrder (Some o)
known_in_some known = known

-- ---- the fields of two values

module _ (d : DeriveInput) where
  paired_step : (place : ℕ) (f : Field) (x y : FieldValue) (partial total : List Compared) (b : Bool) → kept_at trait.PartialOrd d place f ≡ kept_taken (kept_at trait.Ord d place f)
      → partial ≡ map followed total
      → (if b then record { kept = kept_at trait.PartialOrd d place f; first = x; second = y } ∷ partial else partial)
      ≡ map followed (if b then record { kept = kept_at trait.Ord d place f; first = x; second = y } ∷ total else total)
  paired_step place f x y partial total true kept same = λ i. record { kept = kept i; first = x; second = y } ∷ same i
  paired_step place f x y partial total false kept same = same

  paired_followed : (place : ℕ) (fs : List Field) (xs ys : List FieldValue) → AllByRecursion (IsTaken d) fs
      → paired_from trait.PartialOrd d place fs xs ys ≡ map followed (paired_from trait.Ord d place fs xs ys)
  paired_followed place [] xs ys each = refl
  paired_followed place (f ∷ fs) [] ys each = refl
  paired_followed place (f ∷ fs) (x ∷ xs) [] each = refl
  paired_followed place (f ∷ fs) (x ∷ xs) (y ∷ ys) each =
      let partial = paired_from trait.PartialOrd d (place + 1) fs xs ys in
      let total = paired_from trait.Ord d (place + 1) fs xs ys in
      ap (λ (b : Bool). if b then record { kept = kept_at trait.PartialOrd d place f; first = x; second = y } ∷ partial else partial) (kept_alike d f each.0)
      ∙ paired_step place f x y partial total (is_kept trait.Ord d f) (kept_at_taken d place f each.0) (paired_followed (place + 1) fs xs ys each.1)

-- the fields of two values that take part
pub compared_followed : (d : DeriveInput) → TakesFromOrd d → (a b : Value) → compared PartialOrd d a b ≡ map followed (compared Ord d a b)
compared_followed d takes a b = paired_followed d 0 (case_of d a) a.fields b.fields (case_taken d takes a)

-- ---- what a field says

plain_followed : (total partial : Option Answer) → IsSome (said_order total) → ((o : Ordering) → total ≡ Some (AnswerOrder o) → partial ≡ Some (AnswerPartialOrder (Some o)))
    → said_partial_order partial ≡ option_map known_in_some (said_order total)
plain_followed (Some (AnswerOrder o)) partial known alike = ap said_partial_order (alike o refl)
plain_followed total partial known alike = absurd (false≢true known)

method_followed : (answer : Option Answer) → said_in_some answer ≡ option_map known_in_some (said_order answer)
method_followed (Some (AnswerOrder o)) = refl
method_followed answer = refl

unwrapped : (known : Option Known) → unwrap_or (option_map known_in_some known) (PartialOrder (Some Equal)) ≡ known_in_some (unwrap_or known (Order Equal))
unwrapped None = refl
unwrapped (Some known) = refl

-- it is turned round in `Some` as it is without
turned_followed : (known : Known) → turned (known_in_some known) ≡ known_in_some (turned known)
turned_followed (Truth b) = refl
turned_followed (Order o) = refl
turned_followed (PartialOrder p) = refl

directed_followed : (reverse : Bool) (known : Option Known) → directed reverse (option_map known_in_some known) ≡ option_map known_in_some (directed reverse known)
directed_followed false known = refl
directed_followed true None = refl
directed_followed true (Some known) = ap Some (turned_followed known)

module _ (table : Answers) where
  said_followed : (how : How) (x y : FieldValue) → IsSome (said Ord how (answer_of table (asked Cmp how) (Some x) (Some y)))
      → (how ≡ plainly → (o : Ordering) → answer_of table (as_callee Cmp) (Some x) (Some y) ≡ Some (AnswerOrder o)
      → answer_of table (as_callee PartialCmp) (Some x) (Some y) ≡ Some (AnswerPartialOrder (Some o)))
      → said PartialOrd (how_taken how) (answer_of table (asked PartialCmp (how_taken how)) (Some x) (Some y))
      ≡ option_map known_in_some (said Ord how (answer_of table (asked Cmp how) (Some x) (Some y)))
  said_followed plainly x y known alike =
      plain_followed (answer_of table (as_callee Cmp) (Some x) (Some y)) (answer_of table (as_callee PartialCmp) (Some x) (Some y)) known (alike refl)
  said_followed (by_method path) x y known alike = method_followed (answer_of table (callee_of path) (Some x) (Some y))
  said_followed (by_order path) x y known alike = method_followed (answer_of table (callee_of path) (Some x) (Some y))

  -- the field says something to both orders, to `PartialOrd` in `Some`
  pub record Follows (c : Compared) : Type 0 where
    pub says_is : says PartialOrd table (followed c) ≡ option_map known_in_some (says Ord table c)
    pub known : IsSome (says Ord table c)

  pub each_follows : (cs : List Compared) → AllByRecursion (λ c. IsSome (says Ord table c)) cs → AllByRecursion (IsAnsweredAlike table) cs → AllByRecursion Follows cs
  each_follows [] known alike = tt
  each_follows (c ∷ cs) known alike =
      let total = said Ord c.kept.how (answer_of table (asked Cmp c.kept.how) (Some c.first) (Some c.second)) in
      let said_is = said_followed c.kept.how c.first c.second (said_before c.kept.reverse total known.0) alike.0 in
      (record { says_is = ap (directed c.kept.reverse) said_is ∙ directed_followed c.kept.reverse total; known = known.0 }, each_follows cs known.1 alike.1)

  known_followed : (o : Option Known) → IsSome o → IsSome (option_map known_in_some o)
  known_followed None known = known
  known_followed (Some k) known = refl

  -- each field says something to `PartialOrd`
  pub each_known : (cs : List Compared) → AllByRecursion Follows cs → AllByRecursion (λ c. IsSome (says PartialOrd table c)) (map followed cs)
  each_known [] each = tt
  each_known (c ∷ cs) each = (rw each.0.says_is (known_followed (says Ord table c) each.0.known), each_known cs each.1)

  word_followed : (c : Compared) → Follows c → word_of PartialOrd table (followed c) ≡ known_in_some (word_of Ord table c)
  word_followed c follows = ap (λ (o : Option Known). unwrap_or o (PartialOrder (Some Equal))) follows.says_is ∙ unwrapped (says Ord table c)

  -- ---- the field that decides

  apart_alike : (known : Known) → is_apart (known_in_some known) ≡ is_apart known
  apart_alike (Truth b) = refl
  apart_alike (Order Less) = refl
  apart_alike (Order Equal) = refl
  apart_alike (Order Greater) = refl
  apart_alike (PartialOrder p) = refl

  filter_step : (c : Compared) (partial total : List Compared) (b : Bool) → partial ≡ map followed total → cond b (followed c ∷ partial) partial ≡ map followed (cond b (c ∷ total) total)
  filter_step c partial total true same = ap (λ cs. followed c ∷ cs) same
  filter_step c partial total false same = same

  filter_followed : (cs : List Compared) → AllByRecursion Follows cs → filter (differs PartialOrd table) (map followed cs) ≡ map followed (filter (differs Ord table) cs)
  filter_followed [] each = refl
  filter_followed (c ∷ cs) each =
      let partial = filter (differs PartialOrd table) (map followed cs) in
      ap (λ (b : Bool). cond b (followed c ∷ partial) partial) (ap is_apart (word_followed c each.0) ∙ apart_alike (word_of Ord table c))
      ∙ filter_step c partial (filter (differs Ord table) cs) (differs Ord table c) (filter_followed cs each.1)

  abbrev rank : Compared → ℤ
  rank c = c.kept.rank

  picked : (b : Bool) (x y : Compared) → (if b then Some (followed y) else Some (followed x)) ≡ option_map followed (if b then Some y else Some x)
  picked true x y = refl
  picked false x y = refl

  lesser_followed : (c : Compared) (o : Option Compared) → lesser rank (followed c) (option_map followed o) ≡ option_map followed (lesser rank c o)
  lesser_followed c None = refl
  lesser_followed c (Some y) = picked (int_lt (rank y) (rank c)) c y

  least_followed : (cs : List Compared) → least_by rank (map followed cs) ≡ option_map followed (least_by rank cs)
  least_followed [] = refl
  least_followed (c ∷ cs) = ap (lesser rank (followed c)) (least_followed cs) ∙ lesser_followed c (least_by rank cs)

  -- what holds of each field holds of the one that decides
  abbrev Decides : Option Compared → Type 0
  Decides None = Unit {0}
  Decides (Some c) = Follows c

  kept_passes : (c : Compared) (cs : List Compared) (b : Bool) → Follows c → AllByRecursion Follows cs → AllByRecursion Follows (cond b (c ∷ cs) cs)
  kept_passes c cs true own each = (own, each)
  kept_passes c cs false own each = each

  filter_passes : (cs : List Compared) → AllByRecursion Follows cs → AllByRecursion Follows (filter (differs Ord table) cs)
  filter_passes [] each = tt
  filter_passes (c ∷ cs) each = kept_passes c (filter (differs Ord table) cs) (differs Ord table c) each.0 (filter_passes cs each.1)

  picked_passes : (b : Bool) (x y : Compared) → Follows x → Follows y → Decides (if b then Some y else Some x)
  picked_passes true x y own other = other
  picked_passes false x y own other = own

  lesser_passes : (c : Compared) (o : Option Compared) → Follows c → Decides o → Decides (lesser rank c o)
  lesser_passes c None own other = own
  lesser_passes c (Some y) own other = picked_passes (int_lt (rank y) (rank c)) c y own other

  least_passes : (cs : List Compared) → AllByRecursion Follows cs → Decides (least_by rank cs)
  least_passes [] each = tt
  least_passes (c ∷ cs) each = lesser_passes c (least_by rank cs) each.0 (least_passes cs each.1)

  answered_followed : (o : Option Compared) → Decides o → answered PartialOrd table (option_map followed o) ≡ known_in_some (answered Ord table o)
  answered_followed None follows = refl
  answered_followed (Some c) follows = word_followed c follows

  -- the order of the fields
  pub order_followed : (cs : List Compared) → AllByRecursion Follows cs → order PartialOrd table (map followed cs) ≡ known_in_some (order Ord table cs)
  order_followed cs each =
      let apart = filter (differs Ord table) cs in
      ap (λ cs. answered PartialOrd table (least_by rank cs)) (filter_followed cs each) ∙ ap (answered PartialOrd table) (least_followed apart)
      ∙ answered_followed (least_by rank apart) (least_passes apart (filter_passes cs each))

-- what is said as the outcome of a function
pub outcome_followed : (known : Known) → outcome (known_in_some known) ≡ in_some (outcome known)
outcome_followed (Truth b) = refl
outcome_followed (Order o) = refl
outcome_followed (PartialOrder p) = refl
