-- What the field decides that differs and has the least rank, as an order.
use Rattle.std.proofs.Common.{◌≡◌, ℤ, Bool, true, false, List, [], ◌∷◌, map, Option, Some, None, Ordering, Less, Equal, Greater, refl, sym, ap, ◌∙◌, subst}
use Rattle.std.specs.Prelude.{if◌then◌else◌, unwrap_or, IsTrue}
use Rattle.std.specs.Ordering.{partial_ordering_then}
use Rattle.std.proofs.lemmas.Bool.{true≢false}
use Rattle.educe_body_forms.specs.declared.comparison.Comparison.{Comparison}
use Rattle.educe_body_forms.specs.declared.comparison.Comparison.TheVariants.{PartialEq, PartialOrd, Ord}
use Rattle.educe_body_forms.specs.declared.form.Known.{Known}
use Rattle.educe_body_forms.specs.declared.form.Known.TheVariants.{Truth, Order, PartialOrder}
use Rattle.educe_body_values.specs.Answering.{answer_of}
use Rattle.educe_body_values.specs.declared.answers.Answer.{Answer}
use Rattle.educe_body_values.specs.declared.answers.Answer.TheVariants.{Order as AnswerOrder, PartialOrder as AnswerPartialOrder}
use Rattle.educe_body_values.specs.declared.answers.Answers.{Answers}
use Rattle.educe_meaning.specs.Comparing.{Compared, comparison, asked, said, turned, directed, neutral, word_of, is_apart, differs, answered, deciding, order, as_answer, discriminants_first}
use Rattle.educe_meaning.specs.Comparisons.{trait_of}
use Rattle.educe_settings.specs.Rows.{is_order}
use Rattle.educe_settings.specs.Settings.{How, plainly, by_method, by_order}
use Rattle.educe_meaning_coherence.proofs.Lexicographic.{first_where, ranked, leading}
use Rattle.educe_meaning_coherence.proofs.Sorting.{least_is_first, ranked_map}

-- ---- what is known, as an order

-- The order that is known; a truth is none.
abbrev pub order_in : Known → Option Ordering
order_in (Truth b) = None
order_in (Order o) = Some o
order_in (PartialOrder p) = p

-- The order that a field says; Equal where it says nothing.
abbrev pub order_said : Comparison → Option Known → Option Ordering
order_said which said = order_in (unwrap_or said (neutral which))

-- An order as what is known by a comparison.
abbrev pub as_known : Comparison → Option Ordering → Known
as_known PartialEq p = Truth true
as_known PartialOrd p = PartialOrder p
as_known Ord p = Order (unwrap_or p Equal)

pub known_answer : (which : Comparison) (o : Ordering) → as_known which (Some o) ≡ as_answer which o
known_answer PartialEq o = refl
known_answer PartialOrd o = refl
known_answer Ord o = refl

pub answer_known : (which : Comparison) → IsTrue (is_order (trait_of which)) → (o : Ordering) → order_in (as_answer which o) ≡ Some o
answer_known PartialEq orders o = absurd (true≢false (sym orders))
answer_known PartialOrd orders o = refl
answer_known Ord orders o = refl

-- It is an order, and no truth.
abbrev IsNoTruth : Known → Type 0
IsNoTruth (Truth b) = ⊥
IsNoTruth (Order o) = Unit {0}
IsNoTruth (PartialOrder p) = Unit {0}

no_truth : (which : Comparison) → IsTrue (is_order (trait_of which)) → (p : Option Ordering) → IsNoTruth (as_known which p)
no_truth PartialEq orders p = absurd (true≢false (sym orders))
no_truth PartialOrd orders p = tt
no_truth Ord orders p = tt

-- What is known where it differs, and else what stands behind it, is the first of both orders that is not Equal.
known_then : (w r : Known) → IsNoTruth w → order_in (if is_apart w then w else r) ≡ partial_ordering_then (order_in w) (order_in r)
known_then (Truth b) r order = absurd order
known_then (Order Less) r order = refl
known_then (Order Equal) r order = refl
known_then (Order Greater) r order = refl
known_then (PartialOrder None) r order = refl
known_then (PartialOrder (Some Less)) r order = refl
known_then (PartialOrder (Some Equal)) r order = refl
known_then (PartialOrder (Some Greater)) r order = refl

-- The discriminants first, and what is known behind them where those are Equal.
pub first_known : (which : Comparison) (o : Ordering) (known : Known) → known ≡ as_known which (order_in known)
    → discriminants_first which o known ≡ as_known which (partial_ordering_then (Some o) (order_in known))
first_known which Less known is = sym (known_answer which Less)
first_known which Equal known is = is
first_known which Greater known is = sym (known_answer which Greater)

-- ---- the fields that take part

neutral_known : (which : Comparison) → IsTrue (is_order (trait_of which)) → neutral which ≡ as_known which (order_in (neutral which))
neutral_known PartialEq orders = absurd (true≢false (sym orders))
neutral_known PartialOrd orders = refl
neutral_known Ord orders = refl

neutral_equal : (which : Comparison) → IsTrue (is_order (trait_of which)) → order_in (neutral which) ≡ Some Equal
neutral_equal PartialEq orders = absurd (true≢false (sym orders))
neutral_equal PartialOrd orders = refl
neutral_equal Ord orders = refl

-- What a field says by an answer is an order of the trait's kind.
said_known : (which : Comparison) → IsTrue (is_order (trait_of which)) → (how : How) (answer : Option Answer)
    → unwrap_or (said which how answer) (neutral which) ≡ as_known which (order_said which (said which how answer))
said_known PartialEq orders how answer = absurd (true≢false (sym orders))
said_known Ord orders how (Some (AnswerOrder o)) = refl
said_known Ord orders how answer = refl
said_known PartialOrd orders plainly (Some (AnswerPartialOrder p)) = refl
said_known PartialOrd orders plainly answer = refl
said_known PartialOrd orders (by_method path) (Some (AnswerPartialOrder p)) = refl
said_known PartialOrd orders (by_method path) answer = refl
said_known PartialOrd orders (by_order path) (Some (AnswerOrder o)) = refl
said_known PartialOrd orders (by_order path) answer = refl

-- So is what is turned round.
turned_known : (which : Comparison) → IsTrue (is_order (trait_of which)) → (p : Option Ordering) → turned (as_known which p) ≡ as_known which (order_in (turned (as_known which p)))
turned_known PartialEq orders p = absurd (true≢false (sym orders))
turned_known PartialOrd orders p = refl
turned_known Ord orders p = refl

directed_known : (which : Comparison) → IsTrue (is_order (trait_of which)) → (reverse : Bool) (said : Option Known) → unwrap_or said (neutral which) ≡ as_known which (order_said which said)
    → unwrap_or (directed reverse said) (neutral which) ≡ as_known which (order_said which (directed reverse said))
directed_known which orders false said is = is
directed_known which orders true None is = is
directed_known which orders true (Some known) is =
    subst (λ (k : Known). turned k ≡ as_known which (order_in (turned k))) (sym is) (turned_known which orders (order_in known))

module _ (which : Comparison) (table : Answers) (orders : IsTrue (is_order (trait_of which))) where
  word_known : (c : Compared) → word_of which table c ≡ as_known which (order_in (word_of which table c))
  word_known c =
      let answer = answer_of table (asked (comparison which) c.kept.how) (Some c.first) (Some c.second) in
      directed_known which orders c.kept.reverse (said which c.kept.how answer) (said_known which orders c.kept.how answer)

  answered_known : (c : Option Compared) → answered which table c ≡ as_known which (order_in (answered which table c))
  answered_known None = neutral_known which orders
  answered_known (Some c) = word_known c

  -- The order of the fields is one of the trait's kind.
  pub order_known : (cs : List Compared) → order which table cs ≡ as_known which (order_in (order which table cs))
  order_known cs = answered_known (deciding which table cs)

  answered_if : (b : Bool) (c : Compared) (rest : Option Compared)
      → answered which table (if b then Some c else rest) ≡ (if b then word_of which table c else answered which table rest)
  answered_if true c rest = refl
  answered_if false c rest = refl

  module _ {X : Type 0} (f : X → Compared) where
    -- The order that the field of an element says.
    abbrev order_of : X → Option Ordering
    order_of x = order_in (word_of which table (f x))

    answered_leading : (xs : List X) → order_in (answered which table (first_where (differs which table) (map f xs))) ≡ leading order_of xs
    answered_leading [] = neutral_equal which orders
    answered_leading (x ∷ xs) =
        let word = word_of which table (f x) in
        let rest = first_where (differs which table) (map f xs) in
        ap order_in (answered_if (is_apart word) (f x) rest)
        ∙ (known_then word (answered which table rest) (subst IsNoTruth (sym (word_known (f x))) (no_truth which orders (order_in word)))
        ∙ ap (partial_ordering_then (order_of x)) (answered_leading xs))

    abbrev rank_by_field : X → ℤ
    rank_by_field x = (f x).kept.rank

    -- The order of the fields is that of the first that is not Equal, in the order of ranks.
    pub order_is : (xs : List X) → order_in (order which table (map f xs)) ≡ leading order_of (ranked rank_by_field xs)
    order_is xs =
        ap (λ c. order_in (answered which table c)) (least_is_first (λ (c : Compared). c.kept.rank) (differs which table) (map f xs))
        ∙ (ap (λ cs. order_in (answered which table (first_where (differs which table) cs))) (ranked_map (λ (c : Compared). c.kept.rank) f xs)
        ∙ answered_leading (ranked rank_by_field xs))
