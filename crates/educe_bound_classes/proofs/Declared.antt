-- Places of type parameters, by their names and in order.
use Rattle.std.proofs.Common.{◌≡◌, ℕ, zero, suc, ◌+◌, ◌-◌, ◌<◌, ◌≤◌, Bool, true, false, ◌||◌, cond, List, [], ◌∷◌, ◌++◌, map, take, drop, get_or, length, filter, refl, ap, sym, ◌∙◌, Option, Some, None, Bor, chars, arith, inl, inr}
use Rattle.std.specs.Prelude.{slice_get, unwrap_or}
use Rattle.std.specs.List.{flat_map, filter_map, cons_option, AllByRecursion}
use Rattle.std.specs.List.Sorted.{IsStrictlySortedBy}
use Rattle.std.specs.Str.{bytes_eq, IsUtf8}
use Rattle.std.specs.Ordering.{nat_cmp, is_eq}
use Rattle.std.specs.Cmp.{nat_cmp_is}
use Rattle.std.specs.Cmp.Lexicographic.{slice_cmp}
use Rattle.std.specs.declared.cmp.Ordering.TheVariants.{Less, Equal, Greater}
use Rattle.std.specs.BTreeMap.{BTreeMap, get_by}
use Rattle.std.specs.BTreeSet.{BTreeSet, contains}
use Rattle.std.specs.declared.vec.Vec.{Vec}
use Rattle.std.specs.declared.alloc.Global.{Global}
use Rattle.std.proofs.lemmas.Bool.Decides.{nat_tests}
use Rattle.std.proofs.lemmas.Cmp.{ranked}
use Rattle.std.proofs.lemmas.Grind.{common_steps}
use Rattle.std.proofs.lemmas.List.{get_or_default}
use Rattle.std.proofs.lemmas.List.Elements.{filter-append}
use Rattle.std.proofs.lemmas.List.Folds.{list_any-append}
use Rattle.std.proofs.lemmas.Option.{slice_get_cases}
use Rattle.std.proofs.lemmas.Slice.Eq.{bytes_eq-Decides}
use Rattle.std.proofs.lemmas.Map.Text.{is_eq-slice_cmp}
use Rattle.std.proofs.Math.Seq.{drop-cons}
use Rattle.educe_tree.specs.declared.generics.GenericParam.{GenericParam}
use Rattle.educe_tree.specs.declared.generics.GenericParam.TheVariants.{Lifetime, TypeParam, Const}
use Rattle.educe_bound_classes.specs.Classes.{type_name}
use Rattle.educe_bound_classes.specs.Texts.{texts_of, has_text}
use Rattle.educe_bound_classes.specs.Places.{is_among, is_listed, has_place, KeepsPlaces, IsPlacedAs, ArePlaced, AddsPlaces, HaveTheirPlaces, name_list, names_at, HasFound}
use Rattle.educe_bound_classes.proofs.Collecting.{any_take}
use Rattle.educe_bound_classes.proofs.Texts.{same_text}

-- ---- numbers

below : (i k : ℕ) → i < k → is_eq (nat_cmp i k) ≡ false
below i k less = ap is_eq (sym (nat_cmp_is i k Less less))

above : (i k : ℕ) → k < i → is_eq (nat_cmp i k) ≡ false
above i k more = ap is_eq (sym (nat_cmp_is i k Greater more))

at_itself : (k : ℕ) → is_eq (nat_cmp k k) ≡ true
at_itself k = ap is_eq (sym (nat_cmp_is k k Equal refl))

less_from : (k y : ℕ) → nat_cmp k y ≡ Less → k < y
less_from k y is = ranked k y Less (sym is)

-- a number that is not above another is not among those above it
none_below : (i k : ℕ) (ks : List ℕ) → i ≤ k → AllByRecursion (λ y. nat_cmp k y ≡ Less) ks → is_among ks i ≡ false
none_below i k [] le all = refl
none_below i k (y ∷ ys) le all =
    let less = less_from k y all.0 in
    λ j. below i y (omega arith) j || none_below i k ys le all.1 j

all_from : (k : ℕ) (ks : List ℕ) → AllByRecursion (λ y. nat_cmp k y ≡ Less) ks → AllByRecursion (λ y. k + 1 ≤ y) ks
all_from k [] all = tt
all_from k (y ∷ ys) all = (let less = less_from k y all.0 in omega arith, all_from k ys all.1)

from_zero : (ks : List ℕ) → AllByRecursion (λ y. 0 ≤ y) ks
from_zero [] = tt
from_zero (y ∷ ys) = (omega arith, from_zero ys)

-- ---- names in declared order

cons_split : {A : Type 0} (o : Option A) (xs : List A) → cons_option o xs ≡ cons_option o [] ++ xs
cons_split None xs = refl
cons_split (Some x) xs = refl

module _ (test : List ℕ → Bool) (params : List GenericParam) where
  -- the names that pass at a place
  abbrev passing : ℕ → List (List ℕ)
  passing place = filter test (names_at params place)

  -- those from a place on
  abbrev passing_from : ℕ → List (List ℕ)
  passing_from place = filter test (filter_map type_name (drop place params))

  from_param : (b : ℕ) (x : GenericParam) → drop b params ≡ x ∷ drop (b + 1) params → slice_get params b ≡ Some x → passing_from b ≡ passing b ++ passing_from (b + 1)
  from_param b x front is =
      ap (λ ps. filter test (filter_map type_name ps)) front ∙ ap (filter test) (cons_split (type_name x) (filter_map type_name (drop (b + 1) params)))
      ∙ filter-append test (cons_option (type_name x) []) (filter_map type_name (drop (b + 1) params))
      ∙ ap (λ o. filter test (name_list o) ++ passing_from (b + 1)) (sym is)

  from_past : (b : ℕ) → length params ≤ b → passing_from b ≡ []
  from_past b past = let none : drop b params ≡ [] = grind (arith, common_steps) in ap (λ ps. filter test (filter_map type_name ps)) none

  from_end : (b : ℕ) → length params ≤ b → slice_get params b ≡ None → passing_from b ≡ passing b ++ passing_from (b + 1)
  from_end b past is =
      from_past b past ∙ sym (from_past (b + 1) (omega arith)) ∙ ap (λ o. filter test (name_list o) ++ passing_from (b + 1)) (sym is)

  one_more : (b : ℕ) → passing_from b ≡ passing b ++ passing_from (b + 1)
  one_more b =
      elim (slice_get_cases params b).1 [
        | inl h ↦
            let next : suc b ≡ b + 1 = omega arith in
            from_param b h.0 (drop-cons params b h.0 h.1 ∙ ap (λ y. y ∷ drop (suc b) params) h.3 ∙ ap (λ n. h.0 ∷ drop n params) next) h.2
        | inr h ↦ from_end b h.0 h.1
      ]

  -- places at which none passes
  passed_over : (n b : ℕ) → ((i : ℕ) → b ≤ i → i < b + n → passing i ≡ []) → passing_from b ≡ passing_from (b + n)
  passed_over zero b none = let e : b ≡ b + 0 = omega arith in ap passing_from e
  passed_over (suc n) b none =
      let e : (b + 1) + n ≡ b + suc n = omega arith in
      one_more b ∙ ap (λ xs. xs ++ passing_from (b + 1)) (none b (omega arith) (omega arith))
      ∙ passed_over n (b + 1) (λ i le less. none i (omega arith) (omega arith)) ∙ ap passing_from e

  in_order : (places : List ℕ) (b : ℕ) → IsStrictlySortedBy nat_cmp places → AllByRecursion (λ k. b ≤ k) places → ((i : ℕ) → b ≤ i → is_among places i ≡ false → passing i ≡ [])
      → filter test (flat_map (names_at params) places) ≡ passing_from b
  unfolding IsStrictlySortedBy
  in_order [] b sorted all none = sym (passed_over (length params) b (λ i le less. none i le refl) ∙ from_past (b + length params) (omega arith))
  in_order (k ∷ ks) b sorted all none =
      let le = all.0 in
      let e : b + (k - b) ≡ k = omega arith in
      let skipped : passing_from b ≡ passing_from (b + (k - b)) = passed_over (k - b) b (λ i from less.
      let before : i < k = omega arith in
      none i from (λ j. below i k before j || none_below i k ks (omega arith) sorted.0 j)) in
      let rest = in_order ks (k + 1) sorted.1 (all_from k ks sorted.0) (λ i from absent.
      let behind : k < i = omega arith in
      none i (omega arith) (λ j. above i k behind j || absent j)) in
      filter-append test (names_at params k) (flat_map (names_at params) ks) ∙ ap (λ xs. passing k ++ xs) rest ∙ sym (one_more k) ∙ sym (skipped ∙ ap passing_from e)

-- the names at places in order, beside which none was found
pub found_in_order : (test : List ℕ → Bool) (params : List GenericParam) (places : BTreeSet ℕ) → IsStrictlySortedBy nat_cmp places.keys → HasFound params test places
    → filter test (flat_map (names_at params) places.keys) ≡ filter test (filter_map type_name params)
found_in_order test params places sorted found = in_order test params places.keys 0 sorted (from_zero places.keys) (λ i le absent. found i absent)

-- ---- places by names

or_first : (a b : Bool) → a ≡ true → (a || b) ≡ true
or_first true b is = refl
or_first false b is = ap (λ a. a || b) is

or_last : (a b : Bool) → b ≡ true → (a || (b || false)) ≡ true
or_last true b is = refl
or_last false b is = ap (λ c. c || false) is

not_false : {P : Type 0} → false ≡ true → P
not_false is = cc

-- places of a name that has some, or none yet
listed_before : (o : Option (Vec ℕ Global)) (fresh : Vec ℕ Global) (place : ℕ) → is_listed o place ≡ true → is_among (unwrap_or o fresh).items place ≡ true
listed_before None fresh place is = not_false is
listed_before (Some known) fresh place is = is

abbrev PlaceMap : Type 0
PlaceMap = BTreeMap (Bor (List ℕ)) (Vec ℕ Global)

-- the places at a name
abbrev pub at_name : List ℕ → PlaceMap → Option (Vec ℕ Global)
at_name name map = get_by (λ known. slice_cmp nat_cmp name known.now) map

module _ (old mid new : PlaceMap) (name : Bor (List ℕ)) (fresh known : Vec ℕ Global) (place : ℕ)
    (items : known.items ≡ (unwrap_or (at_name name.now old) fresh).items ++ place ∷ [])
    (taken : (q : Bor (List ℕ)) → at_name q.now mid ≡ cond (is_eq (slice_cmp nat_cmp name.now q.now)) None (at_name q.now old))
    (put : (q : Bor (List ℕ)) → at_name q.now new ≡ cond (is_eq (slice_cmp nat_cmp name.now q.now)) (Some known) (at_name q.now mid)) where
  among_more : (p : ℕ) → is_among known.items p ≡ (is_among (unwrap_or (at_name name.now old) fresh).items p || (is_eq (nat_cmp p place) || false))
  among_more p = ap (λ ps. is_among ps p) items ∙ list_any-append (λ known. is_eq (nat_cmp p known)) (unwrap_or (at_name name.now old) fresh).items (place ∷ [])

  -- at another name
  kept_by : (b : Bool) (q : Bor (List ℕ)) (p : ℕ) → is_eq (slice_cmp nat_cmp name.now q.now) ≡ b → has_place old q.now p ≡ true → has_place new q.now p ≡ true
  kept_by true q p is had =
      let same : name.now ≡ q.now = (bytes_eq-Decides name.now q.now).0 (sym (is_eq-slice_cmp name.now q.now) ∙ is) in
      ap (λ o. is_listed o p) (put q ∙ ap (λ b. cond b (Some known) (at_name q.now mid)) is)
      ∙ among_more p ∙ or_first _ _ (listed_before (at_name name.now old) fresh p (ap (λ n. has_place old n p) same ∙ had))
  kept_by false q p is had =
      ap (λ o. is_listed o p) (put q ∙ ap (λ b. cond b (Some known) (at_name q.now mid)) is ∙ taken q ∙ ap (λ b. cond b None (at_name q.now old)) is) ∙ had

  pub place_kept : KeepsPlaces old new
  place_kept q p had = kept_by (is_eq (slice_cmp nat_cmp name.now q.now)) q p refl had

  pub place_added : (text : List ℕ) → IsUtf8 name.now → chars name.now ≡ text → IsPlacedAs text place new
  place_added text utf8 is q other named =
      let same : name.now ≡ q.now = same_text name.now q.now utf8 other (is ∙ sym ((bytes_eq-Decides (chars q.now) text).0 named)) in
      let equal = is_eq-slice_cmp name.now q.now ∙ (bytes_eq-Decides name.now q.now).1 same in
      ap (λ o. is_listed o place) (put q ∙ ap (λ b. cond b (Some known) (at_name q.now mid)) equal) ∙ among_more place ∙ or_last _ _ (at_itself place)

-- ---- places in a set

equal_either : (x y : ℕ) → is_eq (nat_cmp x y) ≡ is_eq (nat_cmp y x)
equal_either x y = grind (arith, nat_tests)

put_by : (b old before : Bool) → cond b true (old || before) ≡ (old || (before || b))
put_by true true before = refl
put_by true false true = refl
put_by true false false = refl
put_by false true before = refl
put_by false false true = refl
put_by false false false = refl

-- one more place of a list is put into the set
pub put_more : (places : List ℕ) (i place d : ℕ) (first old new : BTreeSet ℕ) → i < length places → place ≡ get_or places i d
    → ((p : ℕ) → contains nat_cmp old p ≡ (contains nat_cmp first p || is_among (take i places) p))
    → ((p : ℕ) → contains nat_cmp new p ≡ cond (is_eq (nat_cmp place p)) true (contains nat_cmp old p))
    → (p : ℕ) → contains nat_cmp new p ≡ (contains nat_cmp first p || is_among (take (i + 1) places) p)
put_more places i place d first old new within is had put p =
    put p ∙ ap (λ b. cond b true (contains nat_cmp old p)) (equal_either place p) ∙ ap (λ b. cond (is_eq (nat_cmp p place)) true b) (had p)
    ∙ put_by (is_eq (nat_cmp p place)) (contains nat_cmp first p) (is_among (take i places) p)
    ∙ ap (λ b. contains nat_cmp first p || b) (sym (any_take (λ known. is_eq (nat_cmp p known)) places i place within (is ∙ get_or_default places i d place within)))

-- ---- names that were found

pub have_more : (map : PlaceMap) (names : List (Bor (List ℕ))) (name : Bor (List ℕ)) (old new : BTreeSet ℕ) → HaveTheirPlaces map names old → AddsPlaces map name.now old new
    → HaveTheirPlaces map (names ++ name ∷ []) new
have_more map [] name old new have adds = ((λ place has. (adds place).1 has), tt)
have_more map (n ∷ names) name old new have adds = ((λ place has. (adds place).0 (have.0 place has)), have_more map names name old new have.1 adds)

either : (a b : Bool) → (P : Type 0) → (a ≡ true → P) → (b ≡ true → P) → (a || b) ≡ true → P
either true b P here there is = here refl
either false b P here there is = there is

-- a text that is among the names has its places
has_key : (map : PlaceMap) (found : BTreeSet ℕ) (text : List ℕ) (place : ℕ) → IsPlacedAs text place map → (keys : List (Bor (List ℕ))) → AllByRecursion (λ t. IsUtf8 t.now) keys
    → HaveTheirPlaces map keys found → has_text (texts_of keys) text ≡ true → contains nat_cmp found place ≡ true
has_key map found text place at [] utf8 have is = not_false is
has_key map found text place at (k ∷ keys) utf8 have is =
    either (bytes_eq text (chars k.now)) (has_text (texts_of keys) text) (contains nat_cmp found place ≡ true)
    (λ same. have.0 place (at k utf8.0 ((bytes_eq-Decides (chars k.now) text).1 (sym ((bytes_eq-Decides text (chars k.now)).0 same)))))
    (λ more. has_key map found text place at keys utf8.1 have.1 more) is

none_passes : (test : List ℕ → Bool) (text : List ℕ) (b : Bool) → b ≡ test text → (b ≡ true → ⊥) → filter test (text ∷ []) ≡ []
none_passes test text true is not = absurd (not refl)
none_passes test text false is not = ap (λ b. cond b (text ∷ []) []) (sym is)

module _ (params : List GenericParam) (map : PlaceMap) (keys : List (Bor (List ℕ))) (found : BTreeSet ℕ) (utf8 : AllByRecursion (λ t. IsUtf8 t.now) keys)
    (placed : ArePlaced params map) (have : HaveTheirPlaces map keys found) where
  found_at : (place : ℕ) (o : Option GenericParam) → slice_get params place ≡ o → contains nat_cmp found place ≡ false → filter (has_text (texts_of keys)) (name_list o) ≡ []
  found_at place None is absent = refl
  found_at place (Some (Lifetime p)) is absent = refl
  found_at place (Some (TypeParam p)) is absent =
      none_passes (has_text (texts_of keys)) p.ident.text (has_text (texts_of keys) p.ident.text) refl
      (λ passes. not_false (sym absent ∙ has_key map found p.ident.text place (placed place (TypeParam p) is) keys utf8 have passes))
  found_at place (Some (Const p)) is absent = refl

  -- at no other place is the name of a type parameter that was found
  pub has_found : HasFound params (has_text (texts_of keys)) found
  has_found place absent = found_at place (slice_get params place) refl absent
