-- What steps evaluate to, for each comparison, however a field is compared and read.
use Rattle.std.proofs.Common.{◌≡◌, ◌≢◌, Bool, true, false, List, [], ◌∷◌, ◌++◌, map, Option, Some, None, refl, sym, ap, ◌∙◌}
use Rattle.std.specs.Prelude.{if◌then◌else◌, unwrap_or, IsSome}
use Rattle.std.specs.List.{AllByRecursion, AllZip}
use Rattle.std.specs.declared.cmp.Ordering.TheVariants.{Less, Equal, Greater}
use Rattle.std.proofs.lemmas.Bool.{false≢true}
use Rattle.educe_tokens.specs.declared.token.Token.{Token}
use Rattle.educe_syntax.specs.ExprPath.{ExprPath}
use Rattle.educe_body_forms.specs.declared.comparison.Comparison.{Comparison}
use Rattle.educe_body_forms.specs.declared.comparison.Comparison.TheVariants.{PartialEq, PartialOrd, Ord}
use Rattle.educe_body_values.specs.declared.answers.Answer.{Answer}
use Rattle.educe_body_values.specs.declared.answers.Answer.TheVariants.{Truth as AnswerTruth, Order as AnswerOrder, PartialOrder as AnswerPartialOrder}
use Rattle.educe_body_values.specs.declared.answers.Answers.{Answers}
use Rattle.educe_body_values.specs.declared.callee.BuiltIn.{BuiltIn}
use Rattle.educe_body_values.specs.declared.callee.Callee.{Callee}
use Rattle.educe_body_values.specs.declared.environment.Binding.{Binding}
use Rattle.educe_body_values.specs.declared.environment.Env.{Env}
use Rattle.educe_body_values.specs.declared.flow.Flow.{Flow}
use Rattle.educe_body_values.specs.declared.flow.Flow.TheVariants.{Gives, Returns}
use Rattle.educe_body_values.specs.declared.flow.Thing.TheVariants.{Nothing, Part}
use Rattle.educe_body_forms.specs.declared.form.Form.{Form, Call}
use Rattle.educe_body_forms.specs.declared.form.Known.{Known}
use Rattle.educe_body_forms.specs.declared.form.Known.TheVariants.{Truth, Order, PartialOrder}
use Rattle.educe_body_values.specs.Answering.{answer_of}
use Rattle.educe_body_values.specs.Meaning.{Scene, form_value, list_value, call_named, answer_flow, go_on, opposite, some_of, unless_true, arm_of, known_thing}
use Rattle.educe_body_values.specs.Scoping.{callee_in, IsApart, AreOwnNames}
use Rattle.educe_settings.specs.Settings.{Kept, How, plainly, by_method, by_order}
use Rattle.educe_meaning.specs.Comparing.{Compared, comparison, asked, said_truth, said_order, said_partial_order, said_in_some, said, directed, says, neutral, word_of, is_apart, differs}
use Rattle.educe_meaning.specs.Steps.{Reading, IsRead, tested, if_greater, if_less, step_of, IsCalled, IsStep, AreSteps}
use Rattle.educe_meaning.specs.BodyLaws.{lawful_forms, lawful_scopes}
use Rattle.educe_meaning.proofs.Least.{first_where}
use Rattle.educe_meaning.proofs.Pairing.{Look, value_in, seen}
use Rattle.educe_meaning.proofs.Turning.{truth_stays}

-- ---- the function that a step calls

-- the identifiers of a method's path are words of the input
abbrev pub HasOwnPath : List Token → How → Type 0
HasOwnPath input plainly = Unit {0}
HasOwnPath input (by_method path) = AreOwnNames input path.written.tokens
HasOwnPath input (by_order path) = AreOwnNames input path.written.tokens

-- the path calls what it is to call
pub called : (function : BuiltIn) (how : How) (input : List Token) (names : List Binding) (path : ExprPath) → AllByRecursion (IsApart input) names → HasOwnPath input how
    → IsCalled function how path → callee_in names path ≡ Some (asked function how)
called function plainly input names path apart own is = lawful_scopes.made names path function is
called function (by_method method) input names path apart own is = ap (callee_in names) is ∙ lawful_scopes.own input names method apart own
called function (by_order method) input names path apart own is = ap (callee_in names) is ∙ lawful_scopes.own input names method apart own

-- ---- one step, by the answer of its call

-- what a step comes to where a field says this: it goes on, or returns what is said
abbrev pub step_flow : Env → Known → Flow
step_flow env k = if is_apart k then Returns env (known_thing k) else Gives env Nothing

abbrev test_flow : Comparison → How → Env → Option Answer → Flow
test_flow PartialEq plainly env answer = answer_flow env answer
test_flow PartialEq (by_method path) env answer = go_on (answer_flow env answer) opposite
test_flow PartialEq (by_order path) env answer = go_on (answer_flow env answer) opposite
test_flow PartialOrd plainly env answer = answer_flow env answer
test_flow PartialOrd (by_method path) env answer = answer_flow env answer
test_flow PartialOrd (by_order path) env answer = go_on (answer_flow env answer) some_of
test_flow Ord how env answer = answer_flow env answer

abbrev end_flow : Comparison → Bool → Flow → Flow
end_flow PartialEq reverse flow = go_on flow unless_true
end_flow PartialOrd reverse flow = go_on flow (arm_of true (if_greater reverse) (if_less reverse))
end_flow Ord reverse flow = go_on flow (arm_of false (if_greater reverse) (if_less reverse))

none_some : {X : Type 0} (x : X) → None ≢ Some x
none_some x e = let t : false ≡ true = ap (λ o. elim o [ None ↦ false | Some y ↦ true ]) e in cc

-- a step that comes to what one word says comes to what another says, where both are what the field says
ends : (env : Env) (flow : Flow) (x k : Known) → flow ≡ step_flow env x → Some x ≡ Some k → flow ≡ step_flow env k
ends env flow x k here same = here ∙ ap (step_flow env) (ap (λ o. unwrap_or o k) same)

by_ne : (env : Env) (answer : Option Answer) (k : Known) → said_truth true answer ≡ Some k → go_on (answer_flow env answer) unless_true ≡ step_flow env k
by_ne env (Some (AnswerTruth true)) k is = ends env _ (Truth false) k refl is
by_ne env (Some (AnswerTruth false)) k is = ends env _ (Truth true) k refl is
by_ne env answer k is = absurd (none_some k is)

by_truth : (env : Env) (answer : Option Answer) (k : Known) → said_truth false answer ≡ Some k → go_on (go_on (answer_flow env answer) opposite) unless_true ≡ step_flow env k
by_truth env (Some (AnswerTruth true)) k is = ends env _ (Truth true) k refl is
by_truth env (Some (AnswerTruth false)) k is = ends env _ (Truth false) k refl is
by_truth env answer k is = absurd (none_some k is)

by_cmp : (reverse : Bool) (env : Env) (answer : Option Answer) (k : Known) → directed reverse (said_order answer) ≡ Some k
    → go_on (answer_flow env answer) (arm_of false (if_greater reverse) (if_less reverse)) ≡ step_flow env k
by_cmp false env (Some (AnswerOrder Less)) k is = ends env _ (Order Less) k refl is
by_cmp false env (Some (AnswerOrder Equal)) k is = ends env _ (Order Equal) k refl is
by_cmp false env (Some (AnswerOrder Greater)) k is = ends env _ (Order Greater) k refl is
by_cmp false env answer k is = absurd (none_some k is)
by_cmp true env (Some (AnswerOrder Less)) k is = ends env _ (Order Greater) k refl is
by_cmp true env (Some (AnswerOrder Equal)) k is = ends env _ (Order Equal) k refl is
by_cmp true env (Some (AnswerOrder Greater)) k is = ends env _ (Order Less) k refl is
by_cmp true env answer k is = absurd (none_some k is)

by_partial_cmp : (reverse : Bool) (env : Env) (answer : Option Answer) (k : Known) → directed reverse (said_partial_order answer) ≡ Some k
    → go_on (answer_flow env answer) (arm_of true (if_greater reverse) (if_less reverse)) ≡ step_flow env k
by_partial_cmp false env (Some (AnswerPartialOrder None)) k is = ends env _ (PartialOrder None) k refl is
by_partial_cmp false env (Some (AnswerPartialOrder (Some Less))) k is = ends env _ (PartialOrder (Some Less)) k refl is
by_partial_cmp false env (Some (AnswerPartialOrder (Some Equal))) k is = ends env _ (PartialOrder (Some Equal)) k refl is
by_partial_cmp false env (Some (AnswerPartialOrder (Some Greater))) k is = ends env _ (PartialOrder (Some Greater)) k refl is
by_partial_cmp false env answer k is = absurd (none_some k is)
by_partial_cmp true env (Some (AnswerPartialOrder None)) k is = ends env _ (PartialOrder None) k refl is
by_partial_cmp true env (Some (AnswerPartialOrder (Some Less))) k is = ends env _ (PartialOrder (Some Greater)) k refl is
by_partial_cmp true env (Some (AnswerPartialOrder (Some Equal))) k is = ends env _ (PartialOrder (Some Equal)) k refl is
by_partial_cmp true env (Some (AnswerPartialOrder (Some Greater))) k is = ends env _ (PartialOrder (Some Less)) k refl is
by_partial_cmp true env answer k is = absurd (none_some k is)

by_some : (reverse : Bool) (env : Env) (answer : Option Answer) (k : Known) → directed reverse (said_in_some answer) ≡ Some k
    → go_on (go_on (answer_flow env answer) some_of) (arm_of true (if_greater reverse) (if_less reverse)) ≡ step_flow env k
by_some false env (Some (AnswerOrder Less)) k is = ends env _ (PartialOrder (Some Less)) k refl is
by_some false env (Some (AnswerOrder Equal)) k is = ends env _ (PartialOrder (Some Equal)) k refl is
by_some false env (Some (AnswerOrder Greater)) k is = ends env _ (PartialOrder (Some Greater)) k refl is
by_some false env answer k is = absurd (none_some k is)
by_some true env (Some (AnswerOrder Less)) k is = ends env _ (PartialOrder (Some Greater)) k refl is
by_some true env (Some (AnswerOrder Equal)) k is = ends env _ (PartialOrder (Some Equal)) k refl is
by_some true env (Some (AnswerOrder Greater)) k is = ends env _ (PartialOrder (Some Less)) k refl is
by_some true env answer k is = absurd (none_some k is)

step_case : (which : Comparison) (reverse : Bool) (how : How) (env : Env) (answer : Option Answer) (k : Known) → directed reverse (said which how answer) ≡ Some k
    → end_flow which reverse (test_flow which how env answer) ≡ step_flow env k
step_case PartialEq reverse plainly env answer k is = by_ne env answer k (sym (truth_stays reverse true answer) ∙ is)
step_case PartialEq reverse (by_method path) env answer k is = by_truth env answer k (sym (truth_stays reverse false answer) ∙ is)
step_case PartialEq reverse (by_order path) env answer k is = by_truth env answer k (sym (truth_stays reverse false answer) ∙ is)
step_case PartialOrd reverse plainly env answer k is = by_partial_cmp reverse env answer k is
step_case PartialOrd reverse (by_method path) env answer k is = by_partial_cmp reverse env answer k is
step_case PartialOrd reverse (by_order path) env answer k is = by_some reverse env answer k is
step_case Ord reverse how env answer k is = by_cmp reverse env answer k is

-- ---- the steps on several fields

pub some_is : {X : Type 0} (o : Option X) (d : X) → IsSome o → o ≡ Some (unwrap_or o d)
some_is None d known = absurd (false≢true known)
some_is (Some x) d known = refl

module _ (scene : Scene) (env : Env) (input : List Token) (apart : AllByRecursion (IsApart input) env.names) (which : Comparison) where
  abbrev table : Answers
  table = scene.answers

  -- the step on a field whose two values these forms give, and whose method's names are the input's
  pub record IsReadStep (c : Compared) (x : Form) : Type 0 where
    pub path : ExprPath
    pub own : Form
    pub others : Form
    pub is : x ≡ step_of which c.kept.reverse (tested which c.kept.how (Call path (own ∷ others ∷ [])))
    pub path_is : IsCalled (comparison which) c.kept.how path
    pub named : HasOwnPath input c.kept.how
    pub first : form_value scene env own ≡ Gives env (Part c.first)
    pub second : form_value scene env others ≡ Gives env (Part c.second)

  step_of-value : (which : Comparison) (reverse : Bool) (x : Form) → form_value scene env (step_of which reverse x) ≡ end_flow which reverse (form_value scene env x)
  step_of-value PartialEq reverse x = lawful_forms.test scene env x
  step_of-value PartialOrd reverse x = lawful_forms.matches scene env x true None (if_greater reverse) (if_less reverse)
  step_of-value Ord reverse x = lawful_forms.matches scene env x false None (if_greater reverse) (if_less reverse)

  tested-value : (which : Comparison) (how : How) (call : Form) (answer : Option Answer) → form_value scene env call ≡ answer_flow env answer
      → form_value scene env (tested which how call) ≡ test_flow which how env answer
  tested-value PartialEq plainly call answer is = is
  tested-value PartialEq (by_method path) call answer is = lawful_forms.negation scene env call ∙ ap (λ flow. go_on flow opposite) is
  tested-value PartialEq (by_order path) call answer is = lawful_forms.negation scene env call ∙ ap (λ flow. go_on flow opposite) is
  tested-value PartialOrd plainly call answer is = is
  tested-value PartialOrd (by_method path) call answer is = is
  tested-value PartialOrd (by_order path) call answer is = lawful_forms.in_some scene env call ∙ ap (λ flow. go_on flow some_of) is
  tested-value Ord how call answer is = is

  call_value-answer : (c : Compared) (x : Form) (step : IsReadStep c x)
      → form_value scene env (Call step.path (step.own ∷ step.others ∷ [])) ≡ answer_flow env (answer_of table (asked (comparison which) c.kept.how) (Some c.first) (Some c.second))
  call_value-answer c x step =
      lawful_forms.call_two scene env step.path step.own step.others (Part c.first) (Part c.second) step.first step.second
      ∙ ap (λ (callee : Option Callee). call_named table callee env (Part c.first ∷ Part c.second ∷ [])) (called (comparison which) c.kept.how input env.names step.path apart step.named step.path_is)

  -- a step goes on, or returns what the field says
  step-value : (c : Compared) (x : Form) (k : Known) → IsReadStep c x → says which table c ≡ Some k → form_value scene env x ≡ step_flow env k
  step-value c x k step is =
      let call = Call step.path (step.own ∷ step.others ∷ []) in
      let answer = answer_of table (asked (comparison which) c.kept.how) (Some c.first) (Some c.second) in
      ap (form_value scene env) step.is ∙ step_of-value which c.kept.reverse (tested which c.kept.how call)
      ∙ ap (end_flow which c.kept.reverse) (tested-value which c.kept.how call answer (call_value-answer c x step)) ∙ step_case which c.kept.reverse c.kept.how env answer k is

  -- the field that decides returns what it says; without one the steps go on
  abbrev pub decided : Option Compared → Flow
  decided None = Gives env Nothing
  decided (Some c) = Returns env (known_thing (word_of which table c))

  module _ (rest : List Form) where
    abbrev pub then_rest : Flow → Flow
    then_rest flow = go_on flow (λ env thing. list_value scene env thing rest)

    by_word : (c : Compared) (k : Known) (later : Option Compared) (more : List Form) (b : Bool) → word_of which table c ≡ k → is_apart k ≡ b → list_value scene env Nothing more ≡ then_rest (decided later)
        → go_on (step_flow env k) (λ env thing. list_value scene env thing more) ≡ then_rest (decided (if differs which table c then Some c else later))
    by_word c k later more true is h go =
        ap (λ (b : Bool). go_on (if b then Returns env (known_thing k) else Gives env Nothing) (λ env thing. list_value scene env thing more)) h
        ∙ ap (λ (word : Known). Returns env (known_thing word)) (sym is)
        ∙ ap (λ (b : Bool). then_rest (decided (if b then Some c else later))) (sym (ap is_apart is ∙ h))
    by_word c k later more false is h go =
        ap (λ (b : Bool). go_on (if b then Returns env (known_thing k) else Gives env Nothing) (λ env thing. list_value scene env thing more)) h
        ∙ go ∙ ap (λ (b : Bool). then_rest (decided (if b then Some c else later))) (sym (ap is_apart is ∙ h))

    -- the steps go on, or return the answer of the first field in which the two values differ; then comes what stands behind them
    pub steps-value : (cs : List Compared) (steps : List Form) → AllZip IsReadStep cs steps → AllByRecursion (λ c. IsSome (says which table c)) cs
        → list_value scene env Nothing (steps ++ rest) ≡ then_rest (decided (first_where (differs which table) cs))
    steps-value [] [] are known = refl
    steps-value [] (s ∷ steps) are known = absurd are
    steps-value (c ∷ cs) [] are known = absurd are
    steps-value (c ∷ cs) (s ∷ steps) are known =
        let k = word_of which table c in
        let here = step-value c s k are.0 (some_is (says which table c) (neutral which) known.0) in
        ap (λ flow. go_on flow (λ env thing. list_value scene env thing (steps ++ rest))) here
        ∙ by_word c k (first_where (differs which table) cs) (steps ++ rest) (is_apart k) refl refl (steps-value cs steps are.1 known.1)

-- ---- the steps of a function, however they read their fields

module _ (scene : Scene) (env : Env) (input : List Token) (apart : AllByRecursion (IsApart input) env.names) (which : Comparison) (own others : Reading) (look_a look_b : Look) where
  -- what reads a field so gives the value that is looked up
  abbrev pub Reads : Reading → Look → Kept → Type 0
  Reads reading look k = (x : Form) → IsRead reading k x → form_value scene env x ≡ Gives env (Part (value_in look k))

  read_step : (k : Kept) (x : Form) → IsStep which own others k x → HasOwnPath input k.how → Reads own look_a k → Reads others look_b k
      → IsReadStep scene env input apart which (seen look_a look_b k) x
  read_step k x step named reads_a reads_b =
      let call = step.comparison_is in
      record {
        path = call.path;
        own = call.first;
        others = call.second;
        is = step.is ∙ ap (λ x. step_of which k.reverse (tested which k.how x)) call.is;
        path_is = call.path_is;
        named = named;
        first = reads_a call.first call.first_is;
        second = reads_b call.second call.second_is;
      }

  -- each step on a field reads its two values
  pub read_steps : (ks : List Kept) (steps : List Form) → AreSteps which own others ks steps → AllByRecursion (λ k. HasOwnPath input k.how) ks → AllByRecursion (Reads own look_a) ks
      → AllByRecursion (Reads others look_b) ks → AllZip (IsReadStep scene env input apart which) (map (seen look_a look_b) ks) steps
  read_steps [] [] are named reads_a reads_b = tt
  read_steps [] (s ∷ steps) are named reads_a reads_b = absurd are
  read_steps (k ∷ ks) [] are named reads_a reads_b = absurd are
  read_steps (k ∷ ks) (s ∷ steps) are named reads_a reads_b = (read_step k s are.0 named.0 reads_a.0 reads_b.0, read_steps ks steps are.1 named.1 reads_a.1 reads_b.1)
