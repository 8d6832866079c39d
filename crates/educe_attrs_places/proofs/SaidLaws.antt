-- What the metas of a place say of a trait, and why they are rejected, as they are read.
use Rattle.std.proofs.Common.{◌≡◌, List, [], ◌∷◌, ◌++◌, refl, sym, subst, ◌∙◌, ap, Bool, true, false, Option, Some, None, Result, Ok, Err, ◌⊎◌, inl, inr}
use Rattle.std.specs.Prelude.{if◌then◌else◌}
use Rattle.std.proofs.lemmas.Bool.{false≢true}
use Rattle.educe_tokens.specs.declared.error.EduceError.{EduceError}
use Rattle.educe_tokens.specs.declared.error.Kind.TheVariants.{ReuseATrait}
use Rattle.educe_bound_traits.specs.declared.traits.Trait.{Trait}
use Rattle.educe_bound_traits.specs.Traits.{is_listed}
use Rattle.educe_syntax.specs.Attribute.{Attribute}
use Rattle.educe_syntax.specs.Meta.{Meta}
use Rattle.educe_syntax.specs.MetaPath.{MetaPath}
use Rattle.educe_attrs_values.specs.Chains.{and_then}
use Rattle.educe_attrs_values.specs.declared.stop.Stop.{Stop}
use Rattle.educe_attrs_values.specs.declared.stop.Stop.TheVariants.{Memory, Refused}
use Rattle.educe_attrs_values.specs.Refusals.{at_name}
use Rattle.educe_attrs_rows.specs.declared.row.Row.{Row}
use Rattle.educe_attrs_rows.specs.declared.values.Values.{Values}
use Rattle.educe_attrs_rows.specs.Among.{IsAmong}
use Rattle.educe_attrs_rows.specs.Program.{read_meta}
use Rattle.educe_attrs_values.specs.Words.{path_of}
use Rattle.educe_attrs_places.specs.Lists.{all_metas, AreMetas}
use Rattle.educe_attrs_places.specs.Named.{is_of, all_checked, IsReused}
use Rattle.educe_attrs_places.specs.Said.{if_listed, listed_metas, refused_again, said_once, next_said, read_one, IsUnsaid, SaysThere, IsPlaceCause, IsSaidCause}
use Rattle.educe_attrs_places.proofs.ListLaws.{metas_one, all_are, lists_cause}
use Rattle.educe_attrs_places.proofs.NamedLaws.{each_listed, names_cause, no_place_cause}
use Rattle.educe_attrs_rows.proofs.MetaLaws.{meta_says, meta_cause, meta_excludes}
use Rattle.educe_attrs_rows.proofs.Among.{among_first, among_more}
use Rattle.educe_attrs_rows.proofs.Chained.{ok_one, err_one, chained, mapped, mapped_err, refused_one}
use Rattle.educe_attrs_places.proofs.SaysOne.{says_one}

module _ (which : Trait) (row : Row) where
  -- ---- one meta

  abbrev StepOk : Meta → Option Values → Option Values → Type 0
  StepOk m before r =
      ((is_of which m ≡ false) × (r ≡ before))
      ⊎ ((is_of which m ≡ true) × (before ≡ None) × (v : Values) × (r ≡ Some v) × (read_meta row m ≡ Ok v))

  again_ok : (m : Meta) (o : Option MetaPath) (r : Option Values) → refused_again o ≡ Ok r → ⊥
  again_ok m None r h = cc
  again_ok m (Some path) r h = cc

  once_ok : (m : Meta) (before r : Option Values) → is_of which m ≡ true → said_once row m before ≡ Ok r → StepOk m before r
  once_ok m None r is h = let v = mapped Some (read_meta row m) r h in inr (is, refl, v.0, sym v.2, v.1)
  once_ok m (Some values) r is h = absurd (again_ok m (path_of m) r h)

  step_ok_by : (m : Meta) (before r : Option Values) (b : Bool) → is_of which m ≡ b → (if b then said_once row m before else Ok before) ≡ Ok r → StepOk m before r
  step_ok_by m before r true is h = once_ok m before r is h
  step_ok_by m before r false is h = inl (is, sym (ok_one h))

  step_ok : (m : Meta) (before r : Option Values) → next_said which row m before ≡ Ok r → StepOk m before r
  step_ok m before r h = step_ok_by m before r (is_of which m) refl h

  -- a meta of the trait is read, and none was before it
  step_of : (m : Meta) (before r : Option Values) → next_said which row m before ≡ Ok r → is_of which m ≡ true → (before ≡ None) × (v : Values) × (r ≡ Some v) × (read_meta row m ≡ Ok v)
  step_of m before r h is = elim (step_ok m before r h) [
    | inl other ↦ absurd (false≢true (sym other.0 ∙ is))
    | inr read ↦ (read.1, read.2, read.3, read.4)
  ]

  abbrev StepErr : Meta → Option Values → EduceError → Type 0
  StepErr m before e =
      (is_of which m ≡ true)
      × (((before ≡ None) × (read_meta row m ≡ Err (Refused e))) ⊎ ((v : Values) × (before ≡ Some v) × (path : MetaPath) × (path_of m ≡ Some path) × (at_name ReuseATrait path ≡ e)))

  again_err : (m : Meta) (v : Values) (e : EduceError) (o : Option MetaPath) → path_of m ≡ o → is_of which m ≡ true → refused_again o ≡ Err (Refused e) → StepErr m (Some v) e
  again_err m v e None path_is is h = let same : Memory ≡ Refused e = err_one h in absurd (cc)
  again_err m v e (Some path) path_is is h = (is, inr (v, refl, path, path_is, refused_one h))

  once_err : (m : Meta) (before : Option Values) (e : EduceError) → is_of which m ≡ true → said_once row m before ≡ Err (Refused e) → StepErr m before e
  once_err m None e is h = (is, inl (refl, mapped_err Some (read_meta row m) (Refused e) h))
  once_err m (Some v) e is h = again_err m v e (path_of m) refl is h

  step_err_by : (m : Meta) (before : Option Values) (e : EduceError) (b : Bool) → is_of which m ≡ b → (if b then said_once row m before else Ok before) ≡ Err (Refused e) → StepErr m before e
  step_err_by m before e true is h = once_err m before e is h
  step_err_by m before e false is h = absurd (cc)

  step_err : (m : Meta) (before : Option Values) (e : EduceError) → next_said which row m before ≡ Err (Refused e) → StepErr m before e
  step_err m before e h = step_err_by m before e (is_of which m) refl h

  -- ---- all metas

  record Passes (front : List Meta) (m : Meta) (back : List Meta) (before r : Option Values) : Type 0 where
    pub here : Option Values
    pub next : Option Values
    pub front_read : read_one which row front before ≡ Ok here
    pub step : next_said which row m here ≡ Ok next
    pub back_read : read_one which row back next ≡ Ok r

  passes : (front : List Meta) (m : Meta) (back : List Meta) (before r : Option Values) → read_one which row (front ++ m ∷ back) before ≡ Ok r → Passes front m back before r
  passes [] m back before r h =
      let c = chained (read_one which row back) (next_said which row m before) r h in
      record { here = before; next = c.0; front_read = refl; step = c.1; back_read = c.2 }
  passes (f ∷ front) m back before r h =
      let c = chained (read_one which row (front ++ m ∷ back)) (next_said which row f before) r h in
      let p = passes front m back c.0 r c.2 in
      record { here = p.here; next = p.next; front_read = ap (and_then (read_one which row front)) c.1 ∙ p.front_read; step = p.step; back_read = p.back_read }

  passes_among : (m : Meta) (ms : List Meta) (before r : Option Values) (a : IsAmong m ms) → read_one which row ms before ≡ Ok r → Passes a.front m a.back before r
  passes_among m ms before r a h = passes a.front m a.back before r (subst (λ ms. read_one which row ms before ≡ Ok r) a.is h)

  -- what is said stays
  stays : (ms : List Meta) (v : Values) (before r : Option Values) → before ≡ Some v → read_one which row ms before ≡ Ok r → r ≡ Some v
  stays [] v before r some h = sym (ok_one h) ∙ some
  stays (m ∷ ms) v before r some h =
      let c = chained (read_one which row ms) (next_said which row m before) r h in
      elim (step_ok m before c.0 c.1) [
        | inl other ↦ stays ms v c.0 r (other.1 ∙ some) c.2
        | inr read ↦ (let bad : None ≡ Some v = sym read.1 ∙ some in absurd (cc))
      ]

  -- no second meta is of the trait
  no_reuse : (ms : List Meta) (before r : Option Values) → read_one which row ms before ≡ Ok r → (later : Meta) → IsReused which ms later → ⊥
  no_reuse ms before r h later reused =
      let p = passes (reused.front ++ reused.earlier ∷ reused.between) later reused.rest before r (subst (λ ms. read_one which row ms before ≡ Ok r) reused.is h) in
      let q = passes reused.front reused.earlier reused.between before p.here p.front_read in
      let first = step_of reused.earlier q.here q.next q.step reused.earlier_is in
      let some : p.here ≡ Some first.1 = stays reused.between first.1 q.next p.here first.2 q.back_read in
      let none = step_of later p.here p.next p.step reused.later_is in
      let bad : None ≡ Some first.1 = sym none.0 ∙ some in cc

  -- each meta of the trait is read
  each_read : (ms : List Meta) (before r : Option Values) → read_one which row ms before ≡ Ok r → (m : Meta) → IsAmong m ms → is_of which m ≡ true → (v : Values) × (read_meta row m ≡ Ok v)
  each_read ms before r h m among is =
      let p = passes_among m ms before r among h in
      let s = step_of m p.here p.next p.step is in
      (s.1, s.3)

  -- where nothing is said, no meta is of the trait
  none_said : (ms : List Meta) (before : Option Values) → read_one which row ms before ≡ Ok None → (m : Meta) → IsAmong m ms → is_of which m ≡ true → ⊥
  none_said ms before h m among is =
      let p = passes_among m ms before None among h in
      let s = step_of m p.here p.next p.step is in
      let bad : None ≡ Some s.1 = stays among.back s.1 p.next None s.2 p.back_read in cc

  -- where something is said, a meta says it
  record SaidBy (ms : List Meta) (v : Values) : Type 0 where
    pub meta : Meta
    pub among : IsAmong meta ms
    pub of : is_of which meta ≡ true
    pub read : read_meta row meta ≡ Ok v

  some_said : (ms : List Meta) (before : Option Values) (v : Values) → before ≡ None → read_one which row ms before ≡ Ok (Some v) → SaidBy ms v
  some_said [] before v none h = let bad : None ≡ Some v = sym none ∙ ok_one h in absurd (cc)
  some_said (m ∷ ms) before v none h =
      let c = chained (read_one which row ms) (next_said which row m before) (Some v) h in
      elim (step_ok m before c.0 c.1) [
        | inl other ↦ (let more = some_said ms c.0 v (other.1 ∙ none) c.2 in record { meta = more.meta; among = among_more m more.meta ms more.among; of = more.of; read = more.read })
        | inr read ↦ (
            let kept : Some v ≡ Some read.2 = stays ms read.2 c.0 (Some v) read.3 c.2 in
            let same : read.2 ≡ v = cc in
            record { meta = m; among = among_first m ms; of = read.0; read = read.4 ∙ ap Ok same }
            )
      ]

  data OneErr (ms : List Meta) (before : Option Values) (e : EduceError) : Type 0 where
    bad_meta : (m : Meta) → IsAmong m ms → is_of which m ≡ true → read_meta row m ≡ Err (Refused e) → OneErr ms before e
    again : (later : Meta) (path : MetaPath) → IsReused which ms later → path_of later ≡ Some path → at_name ReuseATrait path ≡ e → OneErr ms before e
    against : (v : Values) (later : Meta) (path : MetaPath) (front rest : List Meta) → before ≡ Some v → ms ≡ front ++ later ∷ rest → is_of which later ≡ true → path_of later ≡ Some path
        → at_name ReuseATrait path ≡ e → OneErr ms before e

  here_err : (m : Meta) (ms : List Meta) (before : Option Values) (e : EduceError) → StepErr m before e → OneErr (m ∷ ms) before e
  here_err m ms before e s = elim s.1 [
    | inl bad ↦ OneErr.bad_meta m (among_first m ms) s.0 bad.1
    | inr two ↦ OneErr.against two.0 m two.2 [] ms two.1 refl s.0 two.3 two.4
  ]

  later_err : (m : Meta) (ms : List Meta) (before next : Option Values) (e : EduceError) → StepOk m before next → OneErr ms next e → OneErr (m ∷ ms) before e
  later_err m ms before next e s (OneErr.bad_meta n among is h) = OneErr.bad_meta n (among_more m n ms among) is h
  later_err m ms before next e s (OneErr.again later path reused path_is is) =
      OneErr.again later path
      (record { front = m ∷ reused.front; earlier = reused.earlier; between = reused.between; rest = reused.rest; is = ap (λ xs. m ∷ xs) reused.is; earlier_is = reused.earlier_is; later_is = reused.later_is })
      path_is is
  later_err m ms before next e (inl other) (OneErr.against v later path front rest some ms_is of path_is is) =
      OneErr.against v later path (m ∷ front) rest (sym other.1 ∙ some) (ap (λ xs. m ∷ xs) ms_is) of path_is is
  later_err m ms before next e (inr read) (OneErr.against v later path front rest some ms_is of path_is is) =
      OneErr.again later path (record { front = []; earlier = m; between = front; rest = rest; is = ap (λ xs. m ∷ xs) ms_is; earlier_is = read.0; later_is = of }) path_is is

  one_err_by : (m : Meta) (ms : List Meta) (before : Option Values) (e : EduceError) (r : Result (Option Values) Stop) → next_said which row m before ≡ r
      → and_then (read_one which row ms) r ≡ Err (Refused e) → ((next : Option Values) → read_one which row ms next ≡ Err (Refused e) → OneErr ms next e) → OneErr (m ∷ ms) before e
  one_err_by m ms before e (Ok next) is h more = later_err m ms before next e (step_ok m before next is) (more next h)
  one_err_by m ms before e (Err s) is h more = here_err m ms before e (step_err m before e (is ∙ h))

  one_err : (ms : List Meta) (before : Option Values) (e : EduceError) → read_one which row ms before ≡ Err (Refused e) → OneErr ms before e
  one_err [] before e h = absurd (cc)
  one_err (m ∷ ms) before e h = one_err_by m ms before e (next_said which row m before) refl h (λ next k. one_err ms next e k)

  -- ---- causes

  said_by : (attributes : List Attribute) (found : List Meta) → AreMetas attributes found → (e : EduceError) → OneErr found None e → IsSaidCause which row attributes e
  said_by attributes found are e (OneErr.bad_meta m among is h) = IsSaidCause.meta found m are among is (meta_cause row m e h)
  said_by attributes found are e (OneErr.again later path reused path_is is) = subst (IsSaidCause which row attributes) is (IsSaidCause.reuse found later path are reused path_is)
  said_by attributes found are e (OneErr.against v later path front rest some ms_is of path_is is) = absurd (cc)

  pub said_cause : (attributes : List Attribute) (found : List Meta) → AreMetas attributes found → (e : EduceError) → read_one which row found None ≡ Err (Refused e) → IsSaidCause which row attributes e
  said_cause attributes found are e h = said_by attributes found are e (one_err found None e h)

  pub said_uncaused : (attributes : List Attribute) (found : List Meta) → AreMetas attributes found → (r : Option Values) → read_one which row found None ≡ Ok r → (e : EduceError) → IsSaidCause which row attributes e → ⊥
  said_uncaused attributes found are r h e (IsSaidCause.reuse others later path are_others reused path_is) =
      no_reuse found None r h later (subst (λ ms. IsReused which ms later) (metas_one attributes others found are_others are) reused)
  said_uncaused attributes found are r h e (IsSaidCause.meta others m are_others among is cause) =
      let v = each_read found None r h m (subst (IsAmong m) (metas_one attributes others found are_others are) among) is in
      meta_excludes row m v.0 v.1 e cause

  -- ---- what they say

  pub says_there : (attributes : List Attribute) (found : List Meta) → AreMetas attributes found → (v : Values) → read_one which row found None ≡ Ok (Some v) → SaysThere which row attributes v
  says_there attributes found are v h =
      let s = some_said found None v refl h in
      record { found = found; meta = s.meta; are = are; among = s.among; of = s.of; says = meta_says row s.meta v s.read }

  pub is_unsaid : (attributes : List Attribute) (found : List Meta) → AreMetas attributes found → read_one which row found None ≡ Ok None → IsUnsaid which attributes
  is_unsaid attributes found are h others are_others m among is = none_said found None h m (subst (IsAmong m) (metas_one attributes others found are_others are) among) is

  -- where it is said, it is not unsaid
  pub not_unsaid : (attributes : List Attribute) (found : List Meta) → AreMetas attributes found → (v : Values) → read_one which row found None ≡ Ok (Some v) → IsUnsaid which attributes → ⊥
  not_unsaid attributes found are v h none = let s = some_said found None v refl h in none found are s.meta s.among s.of

  -- what a meta of the trait says there is read
  pub said_read : (attributes : List Attribute) (found : List Meta) → AreMetas attributes found → (o : Option Values) → read_one which row found None ≡ Ok o → (v : Values) → SaysThere which row attributes v → o ≡ Some v
  said_read attributes found are o h v s =
      let among = subst (IsAmong s.meta) (metas_one attributes s.found found s.are are) s.among in
      let p = passes_among s.meta found None o among h in
      let read = step_of s.meta p.here p.next p.step s.of in
      stays among.back read.1 p.next o read.2 p.back_read ∙ ap Some (says_one row s.meta read.1 v (meta_says row s.meta read.1 read.3) s.says)

-- ---- the metas of a place, each of a listed trait

module _ (listed : List Trait) (attributes : List Attribute) where
  -- they are the metas of the place, and checked
  pub record AreListed (found : List Meta) : Type 0 where
    pub are : AreMetas attributes found
    pub checked_as : Unit {0}
    pub checked : all_checked listed found ≡ Ok checked_as

  pub metas_listed : (found : List Meta) → listed_metas listed attributes ≡ Ok found → AreListed found
  metas_listed found h =
      let all = chained (if_listed listed) (all_metas [] attributes) found h in
      let checks = mapped (λ _. all.0) (all_checked listed all.0) found all.2 in
      record { are = subst (AreMetas attributes) checks.2 (all_are attributes all.0 all.1); checked_as = checks.0; checked = subst (λ ms. all_checked listed ms ≡ Ok checks.0) checks.2 checks.1 }

  listed_by : (e : EduceError) (r : Result (List Meta) Stop) → all_metas [] attributes ≡ r → and_then (if_listed listed) r ≡ Err (Refused e) → IsPlaceCause listed attributes e
  listed_by e (Ok found) is h = names_cause listed attributes found (all_are attributes found is) e (mapped_err (λ _. found) (all_checked listed found) (Refused e) h)
  listed_by e (Err s) is h = IsPlaceCause.list (lists_cause attributes e (is ∙ ap Err (err_one h)))

  pub listed_cause : (e : EduceError) → listed_metas listed attributes ≡ Err (Refused e) → IsPlaceCause listed attributes e
  listed_cause e h = listed_by e (all_metas [] attributes) refl h

  pub listed_uncaused : (found : List Meta) → AreListed found → (e : EduceError) → IsPlaceCause listed attributes e → ⊥
  listed_uncaused found l e cause = no_place_cause listed attributes found l.are l.checked_as l.checked e cause

  -- where what they say of a trait is rejected, it is listed
  pub said_listed : (found : List Meta) → AreListed found → (which : Trait) (row : Row) (e : EduceError) → IsSaidCause which row attributes e → is_listed listed which ≡ true
  said_listed found l which row e (IsSaidCause.reuse others later path are reused path_is) =
      let among : IsAmong later others = record { front = reused.front ++ reused.earlier ∷ reused.between; back = reused.rest; is = reused.is } in
      each_listed listed found l.checked_as l.checked later (subst (IsAmong later) (metas_one attributes others found are l.are) among) which reused.later_is
  said_listed found l which row e (IsSaidCause.meta others m are among of cause) =
      each_listed listed found l.checked_as l.checked m (subst (IsAmong m) (metas_one attributes others found are l.are) among) which of
