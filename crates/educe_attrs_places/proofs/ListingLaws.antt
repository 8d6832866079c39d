-- The traits that a type lists, and why its attributes are rejected, as they are read.
use Rattle.std.proofs.Common.{◌≡◌, ◌≢◌, ℕ, List, [], ◌∷◌, ◌++◌, refl, sym, subst, ◌∙◌, ap, append_assoc, append-nil, Bool, true, false, ◌||◌, Option, Some, None, Result, Ok, Err, ◌⊎◌, inl, inr}
use Rattle.std.specs.Prelude.{if◌then◌else◌, IfOk, IfErr}
use Rattle.std.specs.List.{filter_map, IsDistinct}
use Rattle.std.specs.Result.{result_unwrap_or}
use Rattle.std.proofs.lemmas.Bool.{false≢true}
use Rattle.std.proofs.lemmas.List.Folds.{list_any-append}
use Rattle.std.proofs.lemmas.Map.Keys.{IsDistinct-push}
use Rattle.std.proofs.lemmas.Cmp.{nat_eq_equiv}
use Rattle.std.specs.Cmp.{IsEquivalence}
use Rattle.educe_tokens.specs.declared.error.EduceError.{EduceError}
use Rattle.educe_tokens.specs.declared.error.Kind.TheVariants.{UnsupportedTrait, ReuseATrait}
use Rattle.educe_bound_traits.specs.declared.traits.Trait.{Trait}
use Rattle.educe_bound_traits.specs.Named.{trait_named}
use Rattle.educe_bound_traits.specs.Traits.{is_listed, place, same_trait}
use Rattle.educe_syntax.specs.Attribute.{Attribute}
use Rattle.educe_syntax.specs.Meta.{Meta}
use Rattle.educe_syntax.specs.Meta.TheVariants as said
use Rattle.educe_syntax.specs.MetaPath.{MetaPath}
use Rattle.educe_attrs_values.specs.Chains.{Gives, and_then}
use Rattle.educe_attrs_values.specs.declared.stop.Stop.{Stop}
use Rattle.educe_attrs_values.specs.declared.stop.Stop.TheVariants.{Memory, Refused}
use Rattle.educe_attrs_values.specs.Words.{path_of}
use Rattle.educe_attrs_rows.specs.Among.{IsAmong}
use Rattle.educe_attrs_values.specs.Metas.{IsNamed}
use Rattle.educe_attrs_values.specs.Refusals.{at_name}
use Rattle.educe_attrs_places.specs.Causes.{OfStop, NoCause}
use Rattle.educe_attrs_places.specs.Lists.{is_educe, all_metas, AreMetas}
use Rattle.educe_attrs_places.specs.Named.{trait_of, is_trait, is_of, IsReused}
use Rattle.educe_attrs_places.specs.Listing.{format_incorrect, checked_other, checked_list, checked_lists, with_trait, with_named, with_listed, traits_of, if_set_up, read_listing, listed_traits, IsListing, IsBareEduce, IsListingCause, IsNotSetUp, OfListing}
use Rattle.educe_attrs_places.proofs.ListLaws.{metas_one, all_are, lists_cause, lists_uncaused, name_met, name_in}
use Rattle.educe_bound_traits.proofs.Apart.{same_is}
use Rattle.educe_attrs_rows.proofs.Among.{among_none, among_first, among_more, among_cases}
use Rattle.educe_attrs_rows.proofs.Chained.{ok_one, err_one, chained, refused_one}

-- ---- traits

-- to be one trait is an equivalence
same_equivalence : IsEquivalence same_trait
same_equivalence = record {
  refl = λ a. nat_eq_equiv.refl (place a);
  symm = λ a b. nat_eq_equiv.symm (place a) (place b);
  congr = λ a b c. nat_eq_equiv.congr (place a) (place b) (place c);
}

-- ---- lists

abbrev BareErr : Meta → EduceError → Type 0
BareErr m e = (path : MetaPath) × IsBareEduce path m × (format_incorrect path ≡ e)

abbrev other_by : MetaPath → Bool → Result (Unit {0}) Stop
other_by path b = if b then Err (Refused (format_incorrect path)) else Ok tt

other_err : (path : MetaPath) (e : EduceError) (b : Bool) → is_educe path ≡ b → other_by path b ≡ Err (Refused e) → (is_educe path ≡ true) × (format_incorrect path ≡ e)
other_err path e true is h = (is, refused_one h)
other_err path e false is h = absurd (cc)

bare_err : (m : Meta) (e : EduceError) → checked_list m ≡ Err (Refused e) → BareErr m e
bare_err (said.Word path) e h = let r = other_err path e (is_educe path) refl h in (path, IsBareEduce.word r.0, r.1)
bare_err (said.List path written place) e h = absurd (cc)
bare_err (said.NameValue path x place) e h = let r = other_err path e (is_educe path) refl h in (path, IsBareEduce.name_value x place r.0, r.1)
bare_err (said.Doc t) e h = absurd (cc)
bare_err (said.Unread path written place) e h = let r = other_err path e (is_educe path) refl h in (path, IsBareEduce.unread written place r.0, r.1)

other_ok : (path : MetaPath) (u : Unit {0}) → checked_other path ≡ Ok u → is_educe path ≡ true → ⊥
other_ok path u h named = let bad : ◌≡◌ {A = Result (Unit {0}) Stop} (Err (Refused (format_incorrect path))) (Ok u) = sym (ap (other_by path) named) ∙ h in cc

bare_ok : (m : Meta) (path : MetaPath) (u : Unit {0}) → checked_list m ≡ Ok u → IsBareEduce path m → ⊥
bare_ok _ path u h (IsBareEduce.word named) = other_ok path u h named
bare_ok _ path u h (IsBareEduce.name_value x place named) = other_ok path u h named
bare_ok _ path u h (IsBareEduce.unread written place named) = other_ok path u h named

abbrev ListErr : List Attribute → EduceError → Type 0
ListErr attributes e = (a : Attribute) × IsAmong a attributes × BareErr a.meta e

list_err_by : (a : Attribute) (more : List Attribute) (e : EduceError) (r : Result (Unit {0}) Stop) → checked_list a.meta ≡ r → and_then (λ _. checked_lists more) r ≡ Err (Refused e)
    → (checked_lists more ≡ Err (Refused e) → ListErr more e) → ListErr (a ∷ more) e
list_err_by a more e (Ok u) is h later = let r = later h in (r.0, among_more a r.0 more r.1, r.2)
list_err_by a more e (Err s) is h later = (a, among_first a more, bare_err a.meta e (is ∙ h))

list_err : (attributes : List Attribute) (e : EduceError) → checked_lists attributes ≡ Err (Refused e) → ListErr attributes e
list_err [] e h = absurd (cc)
list_err (a ∷ more) e h = list_err_by a more e (checked_list a.meta) refl h (λ k. list_err more e k)

list_ok : (attributes : List Attribute) (u : Unit {0}) → checked_lists attributes ≡ Ok u → (a : Attribute) → IsAmong a attributes → (w : Unit {0}) × (checked_list a.meta ≡ Ok w)
list_ok [] u h a among = absurd (among_none a among)
list_ok (b ∷ more) u h a among =
    let r = chained (λ _. checked_lists more) (checked_list b.meta) u h in
    elim (among_cases a b more among) [
      | inl same ↦ (r.0, subst (λ (b : Attribute). checked_list b.meta ≡ Ok r.0) same r.1)
      | inr later ↦ list_ok more u r.2 a later
    ]

-- ---- one meta

-- what a meta adds to the traits: none, where it has no name; else its trait, which does not stand there yet
data Adds (m : Meta) (before r : List Trait) : Type 0 where
  passed : trait_of m ≡ None → ((path : MetaPath) → IsNamed m → path_of m ≡ Some path → ⊥) → r ≡ before → Adds m before r
  added : (which : Trait) → trait_of m ≡ Some which → ((path : MetaPath) → path_of m ≡ Some path → trait_named path ≡ Some which) → is_listed before which ≡ false → r ≡ before ++ which ∷ [] → Adds m before r

abbrev trait_by : List Trait → MetaPath → Trait → Bool → Result (List Trait) Stop
trait_by before path which b = if b then Err (Refused (at_name ReuseATrait path)) else Ok (before ++ which ∷ [])

record Named (path : MetaPath) (before r : List Trait) : Type 0 where
  pub which : Trait
  pub is : trait_named path ≡ Some which
  pub fresh : is_listed before which ≡ false
  pub all : r ≡ before ++ which ∷ []

named_at : (path : MetaPath) (before r : List Trait) (which : Trait) → trait_named path ≡ Some which → (b : Bool) → is_listed before which ≡ b → trait_by before path which b ≡ Ok r → Named path before r
named_at path before r which is true stands h = absurd (cc)
named_at path before r which is false stands h = record { which = which; is = is; fresh = stands; all = sym (ok_one h) }

named_by : (path : MetaPath) (before r : List Trait) (o : Option Trait) → trait_named path ≡ o → with_trait before path o ≡ Ok r → Named path before r
named_by path before r None is h = absurd (cc)
named_by path before r (Some which) is h = named_at path before r which is (is_listed before which) refl h

added_as : (m : Meta) (path : MetaPath) (before r : List Trait) → trait_of m ≡ trait_named path → path_of m ≡ Some path → with_named before path ≡ Ok r → Adds m before r
added_as m path before r of is h =
    let n = named_by path before r (trait_named path) refl h in
    Adds.added n.which (of ∙ n.is) (λ p p_is. let both : Some path ≡ Some p = sym is ∙ p_is in let same : path ≡ p = cc in subst (λ q. trait_named q ≡ Some n.which) same n.is) n.fresh n.all

adds : (m : Meta) (before r : List Trait) → with_listed before m ≡ Ok r → Adds m before r
adds (said.Word path) before r h = added_as (said.Word path) path before r refl refl h
adds (said.List path written place) before r h = added_as (said.List path written place) path before r refl refl h
adds (said.NameValue path x place) before r h = added_as (said.NameValue path x place) path before r refl refl h
adds (said.Doc t) before r h = Adds.passed refl (λ path named is. named) (sym (ok_one h))
adds (said.Unread path written place) before r h = Adds.passed refl (λ p named is. named) (sym (ok_one h))

-- ---- all metas, where they are read

in_order_by : (m : Meta) (ms : List Meta) (before next r : List Trait) → Adds m before next → r ≡ next ++ filter_map trait_of ms → r ≡ before ++ filter_map trait_of (m ∷ ms)
in_order_by m ms before next r (Adds.passed none nameless is) rest = rw none (rest ∙ ap (λ xs. xs ++ filter_map trait_of ms) is)
in_order_by m ms before next r (Adds.added which some named fresh is) rest =
    rw some (rest ∙ (ap (λ xs. xs ++ filter_map trait_of ms) is ∙ append_assoc before (which ∷ []) (filter_map trait_of ms)))

-- the traits are those of the metas, behind what was there
in_order : (ms : List Meta) (before r : List Trait) → traits_of before ms ≡ Ok r → r ≡ before ++ filter_map trait_of ms
in_order [] before r h = sym (ok_one h) ∙ sym (append-nil before)
in_order (m ∷ ms) before r h =
    let c = chained (λ found. traits_of found ms) (with_listed before m) r h in
    in_order_by m ms before c.0 r (adds m before c.0 c.1) (in_order ms c.0 r c.2)

distinct_by : (m : Meta) (before next : List Trait) → IsDistinct same_trait before → Adds m before next → IsDistinct same_trait next
distinct_by m before next apart (Adds.passed none nameless is) = subst (IsDistinct same_trait) (sym is) apart
distinct_by m before next apart (Adds.added which some named fresh is) = subst (IsDistinct same_trait) (sym is) (IsDistinct-push same_equivalence before which apart fresh)

-- none of them stands twice
stay_apart : (ms : List Meta) (before r : List Trait) → IsDistinct same_trait before → traits_of before ms ≡ Ok r → IsDistinct same_trait r
stay_apart [] before r apart h = subst (IsDistinct same_trait) (ok_one h) apart
stay_apart (m ∷ ms) before r apart h =
    let c = chained (λ found. traits_of found ms) (with_listed before m) r h in
    stay_apart ms c.0 r (distinct_by m before c.0 apart (adds m before c.0 c.1)) c.2

record Passes (front : List Meta) (m : Meta) (back : List Meta) (before r : List Trait) : Type 0 where
  pub here : List Trait
  pub next : List Trait
  pub front_read : traits_of before front ≡ Ok here
  pub step : Adds m here next
  pub back_read : traits_of next back ≡ Ok r

passes : (front : List Meta) (m : Meta) (back : List Meta) (before r : List Trait) → traits_of before (front ++ m ∷ back) ≡ Ok r → Passes front m back before r
passes [] m back before r h =
    let c = chained (λ found. traits_of found back) (with_listed before m) r h in
    record { here = before; next = c.0; front_read = refl; step = adds m before c.0 c.1; back_read = c.2 }
passes (f ∷ front) m back before r h =
    let c = chained (λ found. traits_of found (front ++ m ∷ back)) (with_listed before f) r h in
    let p = passes front m back c.0 r c.2 in
    record { here = p.here; next = p.next; front_read = ap (and_then (λ found. traits_of found front)) c.1 ∙ p.front_read; step = p.step; back_read = p.back_read }

-- each meta with a name is of a trait
each_named : (ms : List Meta) (before r : List Trait) → traits_of before ms ≡ Ok r → (m : Meta) → IsAmong m ms → (path : MetaPath) → IsNamed m → path_of m ≡ Some path → trait_named path ≡ None → ⊥
each_named ms before r h m a path named is none =
    let p = passes a.front m a.back before r (subst (λ ms. traits_of before ms ≡ Ok r) a.is h) in
    elim p.step [
      | passed none_is nameless same ↦ nameless path named is
      | added which some of fresh same ↦ (let bad : None ≡ Some which = sym none ∙ of path is in cc)
    ]

or_left : (b c : Bool) → b ≡ true → (b || c) ≡ true
or_left true c h = refl
or_left false c h = absurd (false≢true h)

or_right : (b c : Bool) → c ≡ true → (b || c) ≡ true
or_right true c h = refl
or_right false c h = h

or_cases : (b c : Bool) → (b || c) ≡ true → (b ≡ true) ⊎ (c ≡ true)
or_cases true c h = inl refl
or_cases false c h = inr h

-- the one item of a list
only_one : (w t : Trait) → is_listed (w ∷ []) t ≡ (same_trait t w || false)
only_one w t = refl

-- what stands in the middle stands there
stands_among : (xs ys : List Trait) (t : Trait) → is_listed ((xs ++ t ∷ []) ++ ys) t ≡ true
stands_among xs ys t =
    let here : is_listed (t ∷ []) t ≡ true = only_one t t ∙ or_left (same_trait t t) false (same_equivalence.refl t) in
    let pushed : is_listed (xs ++ t ∷ []) t ≡ true = list_any-append (λ name. same_trait t name) xs (t ∷ []) ∙ or_right (is_listed xs t) (is_listed (t ∷ []) t) here in
    list_any-append (λ name. same_trait t name) (xs ++ t ∷ []) ys ∙ or_left (is_listed (xs ++ t ∷ []) t) (is_listed ys t) pushed

-- what was pushed stands there, or stood there before
pushed_or : (xs : List Trait) (w t : Trait) → is_listed (xs ++ w ∷ []) t ≡ true → (is_listed xs t ≡ true) ⊎ (same_trait t w ≡ true)
pushed_or xs w t h = elim (or_cases (is_listed xs t) (is_listed (w ∷ []) t) (sym (list_any-append (λ name. same_trait t name) xs (w ∷ [])) ∙ h)) [
  | inl stood ↦ inl stood
  | inr one ↦ (elim (or_cases (same_trait t w) false (sym (only_one w t) ∙ one)) [ inl same ↦ inr same | inr never ↦ absurd (false≢true never) ])
]

-- a meta of a trait adds it
adds_it : (which : Trait) (m : Meta) (before next : List Trait) → is_of which m ≡ true → Adds m before next → (is_listed before which ≡ false) × (next ≡ before ++ which ∷ [])
adds_it which m before next is (Adds.passed none nameless same) = absurd (false≢true (ap (is_trait which) (sym none) ∙ is))
adds_it which m before next is (Adds.added w some of fresh same) =
    let one : which ≡ w = (same_is which w).0 (ap (is_trait which) (sym some) ∙ is) in
    (subst (λ w. is_listed before w ≡ false) (sym one) fresh, subst (λ w. next ≡ before ++ w ∷ []) (sym one) same)

no_reuse : (ms : List Meta) (before r : List Trait) → traits_of before ms ≡ Ok r → (which : Trait) (later : Meta) → IsReused which ms later → ⊥
no_reuse ms before r h which later reused =
    let p = passes (reused.front ++ reused.earlier ∷ reused.between) later reused.rest before r (subst (λ ms. traits_of before ms ≡ Ok r) reused.is h) in
    let q = passes reused.front reused.earlier reused.between before p.here p.front_read in
    let first = adds_it which reused.earlier q.here q.next reused.earlier_is q.step in
    let second = adds_it which later p.here p.next reused.later_is p.step in
    let all : p.here ≡ (q.here ++ which ∷ []) ++ filter_map trait_of reused.between =
    in_order reused.between q.next p.here q.back_read ∙ ap (λ xs. xs ++ filter_map trait_of reused.between) first.1 in
    false≢true (sym second.0 ∙ (ap (λ xs. is_listed xs which) all ∙ stands_among q.here (filter_map trait_of reused.between) which))

-- ---- all metas, where they are rejected

-- a path is rejected: it names no trait, or one that stands there
abbrev NameErr : List Trait → MetaPath → EduceError → Type 0
NameErr before path e =
    ((trait_named path ≡ None) × (at_name UnsupportedTrait path ≡ e))
    ⊎ ((which : Trait) × (trait_named path ≡ Some which) × (is_listed before which ≡ true) × (at_name ReuseATrait path ≡ e))

name_err_at : (before : List Trait) (path : MetaPath) (which : Trait) → trait_named path ≡ Some which → (e : EduceError) (b : Bool) → is_listed before which ≡ b → trait_by before path which b ≡ Err (Refused e) → NameErr before path e
name_err_at before path which is e true stands h = inr (which, is, stands, refused_one h)
name_err_at before path which is e false stands h = absurd (cc)

name_err : (before : List Trait) (path : MetaPath) (e : EduceError) (o : Option Trait) → trait_named path ≡ o → with_trait before path o ≡ Err (Refused e) → NameErr before path e
name_err before path e None is h = inl (is, refused_one h)
name_err before path e (Some which) is h = name_err_at before path which is e (is_listed before which) refl h

data ListedErr (ms : List Meta) (before : List Trait) (e : EduceError) : Type 0 where
  no_trait : (m : Meta) (path : MetaPath) → IsAmong m ms → IsNamed m → path_of m ≡ Some path → trait_named path ≡ None → at_name UnsupportedTrait path ≡ e → ListedErr ms before e
  again : (which : Trait) (later : Meta) (path : MetaPath) → IsReused which ms later → path_of later ≡ Some path → at_name ReuseATrait path ≡ e → ListedErr ms before e
  against : (which : Trait) (later : Meta) (path : MetaPath) (front rest : List Meta) → is_listed before which ≡ true → ms ≡ front ++ later ∷ rest → is_of which later ≡ true → path_of later ≡ Some path
      → at_name ReuseATrait path ≡ e → ListedErr ms before e

here_as : (m : Meta) (path : MetaPath) (ms : List Meta) (before : List Trait) (e : EduceError) → IsNamed m → trait_of m ≡ trait_named path → path_of m ≡ Some path → with_named before path ≡ Err (Refused e) → ListedErr (m ∷ ms) before e
here_as m path ms before e named of is h = elim (name_err before path e (trait_named path) refl h) [
  | inl none ↦ ListedErr.no_trait m path (among_first m ms) named is none.0 none.1
  | inr stands ↦ ListedErr.against stands.0 m path [] ms stands.2 refl (ap (is_trait stands.0) (of ∙ stands.1) ∙ same_equivalence.refl stands.0) is stands.3
]

here_err : (m : Meta) (ms : List Meta) (before : List Trait) (e : EduceError) → with_listed before m ≡ Err (Refused e) → ListedErr (m ∷ ms) before e
here_err (said.Word path) ms before e h = here_as (said.Word path) path ms before e tt refl refl h
here_err (said.List path written place) ms before e h = here_as (said.List path written place) path ms before e tt refl refl h
here_err (said.NameValue path x place) ms before e h = here_as (said.NameValue path x place) path ms before e tt refl refl h
here_err (said.Doc t) ms before e h = absurd (cc)
here_err (said.Unread path written place) ms before e h = absurd (cc)

later_err : (m : Meta) (ms : List Meta) (before next : List Trait) (e : EduceError) → Adds m before next → ListedErr ms next e → ListedErr (m ∷ ms) before e
later_err m ms before next e step (ListedErr.no_trait n path among named is none e_is) = ListedErr.no_trait n path (among_more m n ms among) named is none e_is
later_err m ms before next e step (ListedErr.again which later path reused is e_is) =
    ListedErr.again which later path
    (record { front = m ∷ reused.front; earlier = reused.earlier; between = reused.between; rest = reused.rest; is = ap (λ xs. m ∷ xs) reused.is; earlier_is = reused.earlier_is; later_is = reused.later_is })
    is e_is
later_err m ms before next e (Adds.passed none nameless same) (ListedErr.against which later path front rest stands ms_is of is e_is) =
    ListedErr.against which later path (m ∷ front) rest (ap (λ xs. is_listed xs which) (sym same) ∙ stands) (ap (λ xs. m ∷ xs) ms_is) of is e_is
later_err m ms before next e (Adds.added w some named fresh same) (ListedErr.against which later path front rest stands ms_is of is e_is) =
    elim (pushed_or before w which (ap (λ xs. is_listed xs which) (sym same) ∙ stands)) [
      | inl stood ↦ ListedErr.against which later path (m ∷ front) rest stood (ap (λ xs. m ∷ xs) ms_is) of is e_is
      | inr one ↦ ListedErr.again which later path
          (record { front = []; earlier = m; between = front; rest = rest; is = ap (λ xs. m ∷ xs) ms_is; earlier_is = ap (is_trait which) some ∙ one; later_is = of }) is e_is
    ]

listed_err_by : (m : Meta) (ms : List Meta) (before : List Trait) (e : EduceError) (r : Result (List Trait) Stop) → with_listed before m ≡ r → and_then (λ found. traits_of found ms) r ≡ Err (Refused e)
    → ((next : List Trait) → traits_of next ms ≡ Err (Refused e) → ListedErr ms next e) → ListedErr (m ∷ ms) before e
listed_err_by m ms before e (Ok next) is h more = later_err m ms before next e (adds m before next is) (more next h)
listed_err_by m ms before e (Err s) is h more = here_err m ms before e (is ∙ h)

listed_err : (ms : List Meta) (before : List Trait) (e : EduceError) → traits_of before ms ≡ Err (Refused e) → ListedErr ms before e
listed_err [] before e h = absurd (cc)
listed_err (m ∷ ms) before e h = listed_err_by m ms before e (with_listed before m) refl h (λ next k. listed_err ms next e k)

-- ---- the attributes of a type

module _ (attributes : List Attribute) where
  listed_cause : (found : List Meta) → AreMetas attributes found → (e : EduceError) → ListedErr found [] e → IsListingCause attributes e
  listed_cause found are e (ListedErr.no_trait m path among named is none e_is) =
      subst (IsListingCause attributes) e_is (IsListingCause.unsupported path (name_in attributes found are m among path named is) none)
  listed_cause found are e (ListedErr.again which later path reused is e_is) = subst (IsListingCause attributes) e_is (IsListingCause.reuse which found later path are reused is)
  listed_cause found are e (ListedErr.against which later path front rest stands ms_is of is e_is) = absurd (false≢true stands)

  -- where the traits are read, no cause of them stands
  module _ (u : Unit {0}) (lists : checked_lists attributes ≡ Ok u) (found : List Meta) (are : AreMetas attributes found) (traits : List Trait) (read : traits_of [] found ≡ Ok traits) where
    uncaused : (e : EduceError) → IsListingCause attributes e → ⊥
    uncaused e (IsListingCause.format a path among bare) = let r = list_ok attributes u lists a among in bare_ok a.meta path r.0 r.1 bare
    uncaused e (IsListingCause.list cause) = lists_uncaused attributes found are e cause
    uncaused e (IsListingCause.unsupported path n none) =
        let met = name_met attributes found are path n in
        each_named found [] traits read met.meta met.among path met.named met.path_is none
    uncaused e (IsListingCause.reuse which others later path are_others reused is) =
        no_reuse found [] traits read which later (subst (λ ms. IsReused which ms later) (metas_one attributes others found are_others are) reused)

    traits_are : traits ≡ filter_map trait_of found
    traits_are = in_order found [] traits read

    none_set_up : traits ≡ [] → IsNotSetUp attributes
    none_set_up none = record { found = found; are = are; none_listed = sym traits_are ∙ none; no_other = record { none_stands = uncaused } }

    set_up : traits ≢ [] → IsNotSetUp attributes → ⊥
    set_up some n = some (traits_are ∙ (ap (filter_map trait_of) (metas_one attributes found n.found are n.are) ∙ n.none_listed))

  module _ (end : ℕ) where
    abbrev of_metas : List Meta → Result (List Trait) Stop
    of_metas found = and_then (if_set_up end) (traits_of [] found)

    abbrev of_lists : Unit {0} → Result (List Trait) Stop
    of_lists u = and_then of_metas (all_metas [] attributes)

    traits_err : (u : Unit {0}) → checked_lists attributes ≡ Ok u → (found : List Meta) → AreMetas attributes found → (e : EduceError) (r : Result (List Trait) Stop) → traits_of [] found ≡ r
        → and_then (if_set_up end) r ≡ Err (Refused e) → OfListing attributes end e
    traits_err u lists found are e (Ok []) is h = inr (none_set_up u lists found are [] is refl, sym (refused_one h))
    traits_err u lists found are e (Ok (t ∷ ts)) is h = absurd (cc)
    traits_err u lists found are e (Err s) is h = inl (listed_cause found are e (listed_err found [] e (is ∙ ap Err (err_one h))))

    metas_err : (u : Unit {0}) → checked_lists attributes ≡ Ok u → (e : EduceError) (r : Result (List Meta) Stop) → all_metas [] attributes ≡ r → and_then of_metas r ≡ Err (Refused e) → OfListing attributes end e
    metas_err u lists e (Ok found) is h = traits_err u lists found (all_are attributes found is) e (traits_of [] found) refl h
    metas_err u lists e (Err s) is h = inl (IsListingCause.list (lists_cause attributes e (is ∙ ap Err (err_one h))))

    lists_err : (e : EduceError) (r : Result (Unit {0}) Stop) → checked_lists attributes ≡ r → and_then of_lists r ≡ Err (Refused e) → OfListing attributes end e
    lists_err e (Ok u) is h = metas_err u is e (all_metas [] attributes) refl h
    lists_err e (Err s) is h =
        let r = list_err attributes e (is ∙ ap Err (err_one h)) in
        inl (subst (IsListingCause attributes) r.2.2 (IsListingCause.format r.0 r.2.0 r.1 r.2.1))

    -- a rejection has a cause
    pub listing_cause : (e : EduceError) → read_listing attributes end ≡ Err (Refused e) → OfListing attributes end e
    unfolding read_listing
    listing_cause e h = lists_err e (checked_lists attributes) refl h

    -- what is read: the lists, the metas and the traits
    record IsRead (traits : List Trait) : Type 0 where
      pub lists_as : Unit {0}
      pub lists : checked_lists attributes ≡ Ok lists_as
      pub found : List Meta
      pub found_is : all_metas [] attributes ≡ Ok found
      pub read : traits_of [] found ≡ Ok traits
      pub some_listed : traits ≢ []

    set_up_is : (before traits : List Trait) → if_set_up end before ≡ Ok traits → (before ≡ traits) × (traits ≢ [])
    set_up_is [] traits h = absurd (cc)
    set_up_is (t ∷ ts) traits h = let same : t ∷ ts ≡ traits = ok_one h in (same, λ none. let bad : t ∷ ts ≡ [] = same ∙ none in cc)

    is_read : (traits : List Trait) → read_listing attributes end ≡ Ok traits → IsRead traits
    unfolding read_listing
    is_read traits h =
        let lists = chained of_lists (checked_lists attributes) traits h in
        let metas = chained of_metas (all_metas [] attributes) traits lists.2 in
        let read = chained (if_set_up end) (traits_of [] metas.0) traits metas.2 in
        let some = set_up_is read.0 traits read.2 in
        record { lists_as = lists.0; lists = lists.1; found = metas.0; found_is = metas.1; read = read.1 ∙ ap Ok some.0; some_listed = some.1 }

    -- where traits are read, no cause stands
    pub listing_uncaused : (traits : List Trait) → read_listing attributes end ≡ Ok traits → NoCause (OfListing attributes end)
    listing_uncaused traits h =
        let r = is_read traits h in
        let are = all_are attributes r.found r.found_is in
        record {
          none_stands = λ e cause. elim cause [
            | inl listing ↦ uncaused r.lists_as r.lists r.found are traits r.read e listing
            | inr none ↦ set_up r.lists_as r.lists r.found are traits r.read r.some_listed none.0
          ];
        }

    -- they are those of the metas, each once
    pub listing_is : (traits : List Trait) → read_listing attributes end ≡ Ok traits → IsListing attributes traits
    unfolding IsDistinct
    listing_is traits h =
        let r = is_read traits h in
        let are = all_are attributes r.found r.found_is in
        record {
          found = r.found;
          are = are;
          in_order = traits_are r.lists_as r.lists r.found are traits r.read;
          once = stay_apart r.found [] traits tt r.read;
          some_listed = r.some_listed;
        }

    pub traits_listed : (traits : List Trait) → read_listing attributes end ≡ Ok traits → traits ≡ listed_traits attributes
    unfolding listed_traits
    traits_listed traits h =
        let r = is_read traits h in
        let are = all_are attributes r.found r.found_is in
        traits_are r.lists_as r.lists r.found are traits r.read ∙ ap (λ o. filter_map trait_of (result_unwrap_or o [])) (sym r.found_is)

    -- ---- the answer of a function that reads them

    pub answer_listed : (r : Result (List Trait) Stop) → Gives Memory (read_listing attributes end) r → IfOk r (λ traits. traits ≡ listed_traits attributes)
    answer_listed (Ok traits) h = traits_listed traits h
    answer_listed (Err s) h = tt

    pub answer_listing : (r : Result (List Trait) Stop) → Gives Memory (read_listing attributes end) r → IfOk r (λ traits. IsListing attributes traits)
    answer_listing (Ok traits) h = listing_is traits h
    answer_listing (Err s) h = tt

    pub answer_cause : (r : Result (List Trait) Stop) → Gives Memory (read_listing attributes end) r → IfErr r (λ s. OfStop (OfListing attributes end) s)
    answer_cause (Ok traits) h = tt
    answer_cause (Err Memory) h = tt
    answer_cause (Err (Refused e)) h = listing_cause e (h (λ same. cc))

    pub answer_uncaused : (r : Result (List Trait) Stop) → Gives Memory (read_listing attributes end) r → IfOk r (λ traits. NoCause (OfListing attributes end))
    answer_uncaused (Ok traits) h = listing_uncaused traits h
    answer_uncaused (Err s) h = tt
