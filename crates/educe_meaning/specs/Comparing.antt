-- What the derived comparisons mean.
use Rattle.std.specs.Prelude.{ℕ, ℤ, ◌≡◌, ◌+◌, ◌==◌, Bool, true, false, not, ◌&&◌, IsTrue, List, [], ◌∷◌, Option, Some, None, IsSome, unwrap_or, slice_get, if◌then◌else◌}
use Rattle.std.specs.List.{filter, list_all, AllByRecursion}
use Rattle.std.specs.declared.cmp.Ordering.{Ordering}
use Rattle.std.specs.declared.cmp.Ordering.TheVariants.{Less, Equal, Greater}
use Rattle.std.specs.Option.{option_map}
use Rattle.std.specs.Ordering.{int_cmp, ordering_reverse}
use Rattle.educe_syntax.specs.Field.{Field}
use Rattle.educe_syntax.specs.DeriveInput.{DeriveInput}
use Rattle.educe_syntax.specs.Few.{all_fields}
use Rattle.educe_bound_traits.specs.declared.traits.Trait.{Trait}
use Rattle.educe_body_forms.specs.declared.comparison.Comparison.{Comparison}
use Rattle.educe_body_forms.specs.declared.comparison.Comparison.TheVariants.{PartialEq, PartialOrd, Ord}
use Rattle.educe_body_values.specs.declared.value.FieldValue.{FieldValue}
use Rattle.educe_body_values.specs.declared.value.Value.{Value}
use Rattle.educe_body_values.specs.declared.callee.Callee.{Callee}
use Rattle.educe_body_values.specs.declared.callee.BuiltIn.{BuiltIn}
use Rattle.educe_body_values.specs.declared.callee.BuiltIn.TheVariants.{Ne, Cmp, PartialCmp}
use Rattle.educe_body_forms.specs.declared.form.Known.{Known}
use Rattle.educe_body_forms.specs.declared.form.Known.TheVariants.{Truth, Order, PartialOrder}
use Rattle.educe_body_values.specs.declared.answers.Answer.{Answer}
use Rattle.educe_body_values.specs.declared.answers.Answer.TheVariants.{Truth as AnswerTruth, Order as AnswerOrder, PartialOrder as AnswerPartialOrder}
use Rattle.educe_body_values.specs.declared.answers.Answers.{Answers}
use Rattle.educe_body_values.specs.declared.outcome.Outcome.{Outcome}
use Rattle.educe_body_values.specs.declared.outcome.Outcome.TheVariants.{Truth as OutcomeTruth, Order as OutcomeOrder, PartialOrder as OutcomePartialOrder}
use Rattle.educe_body_values.specs.Answering.{answer_of}
use Rattle.educe_body_values.specs.Callees.{as_callee, callee_of}
use Rattle.educe_body_values.specs.Types.{type_spellings, first_place}
use Rattle.educe_settings.specs.Cases.{cases_of}
use Rattle.educe_meaning.specs.Comparisons.{trait_of}
use Rattle.educe_meaning.specs.Discriminants.{discriminant_of, HaveDiscriminants}
use Rattle.educe_settings.specs.Ranks.{least_by}
use Rattle.educe_settings.specs.Rows.{is_order}
use Rattle.educe_settings.specs.Settings.{Kept, How, plainly, by_method, by_order, is_kept, kept_at}

-- The fields of the case of a value; none where the definition has no such case.
abbrev pub case_of : DeriveInput → Value → List Field
case_of definition value = unwrap_or (slice_get (cases_of definition) value.variant) []

-- ---- values that have the shape of a definition

-- Each field has one value, whose type is given by the type's place among all fields.
abbrev pub HaveTypes : List Field → List Field → List FieldValue → Type 0
HaveTypes all [] [] = Unit {0}
HaveTypes all [] (x ∷ xs) = ⊥
HaveTypes all (f ∷ fs) [] = ⊥
HaveTypes all (f ∷ fs) (x ∷ xs) = (x.ty ≡ first_place all (type_spellings f)) × HaveTypes all fs xs

-- The case of the value exists, and the value has a value of its type for each of its fields.
pub record HasShape (definition : DeriveInput) (value : Value) : Type 0 where
  pub fields : List Field
  pub exists : slice_get (cases_of definition) value.variant ≡ Some fields
  pub types : HaveTypes (all_fields definition) fields value.fields

-- ---- what a field says

-- A field that takes part, with its values in two values.
pub record Compared : Type 0 where
  pub kept : Kept
  pub first : FieldValue
  pub second : FieldValue

-- The fields that take part, with their values in two values, in written order; the first field has this place.
abbrev pub paired_from : Trait → DeriveInput → ℕ → List Field → List FieldValue → List FieldValue → List Compared
paired_from which definition place [] xs ys = []
paired_from which definition place (f ∷ fs) [] ys = []
paired_from which definition place (f ∷ fs) (x ∷ xs) [] = []
paired_from which definition place (f ∷ fs) (x ∷ xs) (y ∷ ys) =
    if is_kept which definition f then record { kept = kept_at which definition place f; first = x; second = y } ∷ paired_from which definition (place + 1) fs xs ys
    else paired_from which definition (place + 1) fs xs ys

-- The fields that take part in what a trait does with two values of one case, with their values.
abbrev pub paired : Trait → DeriveInput → Value → Value → List Compared
paired which definition a b = paired_from which definition 0 (case_of definition a) a.fields b.fields

-- The fields that take part in a comparison, with their values in both values.
abbrev pub compared : Comparison → DeriveInput → Value → Value → List Compared
compared which definition a b = paired (trait_of which) definition a b

-- The function of the core library by which a trait compares two values of a field.
abbrev pub comparison : Comparison → BuiltIn
comparison PartialEq = Ne
comparison PartialOrd = PartialCmp
comparison Ord = Cmp

-- What is called on a field: this function of the core library, or what the method names.
abbrev pub asked : BuiltIn → How → Callee
asked function plainly = as_callee function
asked function (by_method path) = callee_of path
asked function (by_order path) = callee_of path

-- Whether an answer means that two values are equal; with true, the answer is negated.
abbrev pub said_truth : Bool → Option Answer → Option Known
said_truth opposite (Some (AnswerTruth b)) = Some (Truth (if opposite then not b else b))
said_truth opposite answer = None

-- The order that a call answers.
abbrev pub said_order : Option Answer → Option Known
said_order (Some (AnswerOrder o)) = Some (Order o)
said_order answer = None

-- The partial order that a call answers.
abbrev pub said_partial_order : Option Answer → Option Known
said_partial_order (Some (AnswerPartialOrder p)) = Some (PartialOrder p)
said_partial_order answer = None

-- The order that a call answers, in `Some`.
abbrev pub said_in_some : Option Answer → Option Known
said_in_some (Some (AnswerOrder o)) = Some (PartialOrder (Some o))
said_in_some answer = None

-- What a field says by an answer: to `PartialEq` the opposite of what `ne` answers, or what its method answers; to `Ord` the
-- order; to `PartialOrd` the partial order, or in `Some` the order that a method of `Ord` answers; an answer of another kind says
-- nothing.
abbrev pub said : Comparison → How → Option Answer → Option Known
said PartialEq plainly answer = said_truth true answer
said PartialEq (by_method path) answer = said_truth false answer
said PartialEq (by_order path) answer = said_truth false answer
said PartialOrd plainly answer = said_partial_order answer
said PartialOrd (by_method path) answer = said_partial_order answer
said PartialOrd (by_order path) answer = said_in_some answer
said Ord how answer = said_order answer

-- What is known, turned round: Less and Greater are exchanged; Equal, `None` and a truth stay.
abbrev pub turned : Known → Known
turned (Truth b) = Truth b
turned (Order o) = Order (ordering_reverse o)
turned (PartialOrder p) = PartialOrder (option_map ordering_reverse p)

-- What is said of a field; with true, for a reversed field, it is turned round.
abbrev pub directed : Bool → Option Known → Option Known
directed false said = said
directed true said = option_map turned said

-- What a field says to a trait by what the table answers for the call on it, if it says something; a reversed field turns it round.
abbrev pub says : Comparison → Answers → Compared → Option Known
says which table c =
    directed c.kept.reverse (said which c.kept.how (answer_of table (asked (comparison which) c.kept.how) (Some c.first) (Some c.second)))

-- Both values have the definition's shape; where they are of one case, by the table each field that takes part says something;
-- and for an order, by the table the variants have discriminants, which are numbers of their type and differ.
pub record Covers (which : Comparison) (table : Answers) (definition : DeriveInput) (a b : Value) : Type 0 where
  pub first : HasShape definition a
  pub second : HasShape definition b
  pub each : a.variant ≡ b.variant → AllByRecursion (λ c. IsSome (says which table c)) (compared which definition a b)
  pub ordered : IsTrue (is_order (trait_of which)) → HaveDiscriminants table definition

-- ---- what a derived function means

-- What two values say that no field tells apart: `true`, Equal, or Equal in `Some`.
abbrev pub neutral : Comparison → Known
neutral PartialEq = Truth true
neutral PartialOrd = PartialOrder (Some Equal)
neutral Ord = Order Equal

-- What a field says, or `neutral` where it says nothing.
abbrev pub word_of : Comparison → Answers → Compared → Known
word_of which table c = unwrap_or (says which table c) (neutral which)

-- What is said means that two values differ: `false`, or an order that is not Equal; `None` counts as different.
abbrev pub is_apart : Known → Bool
is_apart (Truth b) = not b
is_apart (Order Less) = true
is_apart (Order Equal) = false
is_apart (Order Greater) = true
is_apart (PartialOrder None) = true
is_apart (PartialOrder (Some Less)) = true
is_apart (PartialOrder (Some Equal)) = false
is_apart (PartialOrder (Some Greater)) = true

-- Whether a field's two values differ, by what it says.
abbrev pub differs : Comparison → Answers → Compared → Bool
differs which table c = is_apart (word_of which table c)

-- Whether the answer is that two values are equal.
abbrev pub says_true : Option Known → Bool
says_true None = false
says_true (Some (Truth b)) = b
says_true (Some (Order o)) = false
says_true (Some (PartialOrder p)) = false

-- Every field that takes part is equal in both.
abbrev pub equal : Answers → List Compared → Bool
equal table cs = list_all (λ c. says_true (says PartialEq table c)) cs

-- The field that decides: of those whose values differ the one of least rank.
abbrev pub deciding : Comparison → Answers → List Compared → Option Compared
deciding which table cs = least_by (λ c. c.kept.rank) (filter (differs which table) cs)

-- What the deciding field says, or `neutral` without one.
abbrev pub answered : Comparison → Answers → Option Compared → Known
answered which table None = neutral which
answered which table (Some c) = word_of which table c

-- The order, or partial order, of two values of one case: what the deciding field says, and without one what two values say that
-- no field tells apart; nothing is sorted here.
abbrev pub order : Comparison → Answers → List Compared → Known
order which table cs = answered which table (deciding which table cs)

-- The order of two discriminants, and Equal where one is missing.
abbrev pub number_order : Option ℤ → Option ℤ → Ordering
number_order None n = Equal
number_order (Some m) None = Equal
number_order (Some m) (Some n) = int_cmp m n

-- An order as the answer of a comparison; `partial_cmp` has it in `Some`.
abbrev pub as_answer : Comparison → Ordering → Known
as_answer PartialEq o = Truth true
as_answer PartialOrd o = PartialOrder (Some o)
as_answer Ord o = Order o

-- The order of the discriminants, or where that is Equal what else is answered.
abbrev pub discriminants_first : Comparison → Ordering → Known → Known
discriminants_first which Less answer = as_answer which Less
discriminants_first which Equal answer = answer
discriminants_first which Greater answer = as_answer which Greater

-- The order of the discriminants of two values if they differ, otherwise that of their fields; a struct has no discriminants.
abbrev pub whole_order : Comparison → Answers → DeriveInput → Value → Value → Known
whole_order which table definition a b =
    discriminants_first which (number_order (discriminant_of table definition a) (discriminant_of table definition b)) (order which table (compared which definition a b))

-- An answer as what a function evaluates to.
abbrev pub outcome : Known → Outcome
outcome (Truth b) = OutcomeTruth b
outcome (Order o) = OutcomeOrder o
outcome (PartialOrder p) = OutcomePartialOrder p

-- What the function of a trait means of two values: whether they are of one case and every field that takes part is equal in
-- both; or their order.
abbrev pub meaning : Comparison → Answers → DeriveInput → Value → Value → Outcome
meaning PartialEq table definition a b = OutcomeTruth ((a.variant == b.variant) && equal table (compared PartialEq definition a b))
meaning PartialOrd table definition a b = outcome (whole_order PartialOrd table definition a b)
meaning Ord table definition a b = outcome (whole_order Ord table definition a b)
