-- The marks of variants, one after the other.
use Rattle.std.proofs.Common.{◌≡◌, ◌≢◌, ◌∙◌, ℕ, suc, ◌+◌, ◌<◌, Bool, true, false, List, [], ◌∷◌, ◌++◌, Option, Some, None, map, length, take, drop, get_or, inl, inr, refl, ap, sym, subst, arith, append-nil, length-take, drop-cons}
use Rattle.std.specs.Prelude.{if◌then◌else◌, IsSome}
use Rattle.std.proofs.lemmas.List.{take_more, take-append-drop}
use Rattle.std.proofs.lemmas.Bool.{false≢true}
use Rattle.educe_tokens.specs.declared.span.Span.{Span}
use Rattle.educe_attrs.specs.Among.{IsAmong}
use Rattle.educe_attrs.specs.Values.{Values}
use Rattle.educe_settings.specs.Defaults.{is_one}
use Rattle.educe_settings.proofs.Elements.{In}
use Rattle.educe_settings.proofs.Uncaused.{in_among}
use Rattle.educe_settings_types.specs.Defaults.{places_from, found_only, AreTwice, IsOnly}

-- ---- there is one, and only one

pub one_of_length : {X : Type 0} (xs : List X) → length xs ≡ 1 → is_one xs ≡ true
one_of_length [] one = absurd (omega arith)
one_of_length (x ∷ []) one = refl
one_of_length (x ∷ y ∷ xs) one = absurd (omega arith)

pub many_of_length : {X : Type 0} (xs : List X) → length xs ≢ 1 → is_one xs ≡ false
many_of_length [] many = refl
many_of_length (x ∷ []) many = absurd (many refl)
many_of_length (x ∷ y ∷ xs) many = refl

-- a list has exactly one element where what is made of each has
pub one_mapped : {X Y : Type 0} (f : X → Y) (xs : List X) → is_one (map f xs) ≡ is_one xs
one_mapped f [] = refl
one_mapped f (x ∷ []) = refl
one_mapped f (x ∷ y ∷ xs) = refl

-- ---- the places of marks

-- the places of marks in two lists, one behind the other
places_joined : (n : ℕ) (xs ys : List Values) → places_from n (xs ++ ys) ≡ places_from n xs ++ places_from (n + length xs) ys
places_joined n [] ys = let here : n ≡ n + 0 = omega arith in ap (λ k. places_from k ys) here
places_joined n (x ∷ xs) ys =
    let there : n + 1 + length xs ≡ n + length (x ∷ xs) = omega arith in
    by_flag (places_from (n + 1) xs) (places_from (n + length (x ∷ xs)) ys) (places_from (n + 1) (xs ++ ys)) x.flag
    (places_joined (n + 1) xs ys ∙ ap (λ k. places_from (n + 1) xs ++ places_from k ys) there)
  where
    by_flag : (front back rest : List ℕ) (b : Bool) → rest ≡ front ++ back → (if b then n ∷ rest else rest) ≡ (if b then n ∷ front else front) ++ back
    by_flag front back rest true same = ap (λ more. n ∷ more) same
    by_flag front back rest false same = same

-- the places of marks in a list and one more
places_more : (marks : List Values) (i : ℕ) (d m : Values) → i < length marks → m ≡ get_or marks i d → places_from 0 (take (i + 1) marks) ≡ places_from 0 (take i marks) ++ (if m.flag then i ∷ [] else [])
places_more marks i d m less item =
    let long : 0 + length (take i marks) ≡ i = omega (arith, length-take i marks) in
    ap (places_from 0) (take_more marks i d less)
    ∙ places_joined 0 (take i marks) (get_or marks i d ∷ [])
    ∙ (λ j. places_from 0 (take i marks) ++ (if (sym item j).flag then long j ∷ [] else []))

-- where no second one is met, the only one so far is known
pub only_more : (marks : List Values) (i : ℕ) (d m : Values) (found next : Option ℕ) → i < length marks → m ≡ get_or marks i d → places_from 0 (take i marks) ≡ found_only found
    → next ≡ (if m.flag then Some i else found) → (m.flag ≡ true → found ≡ None) → places_from 0 (take (i + 1) marks) ≡ found_only next
only_more marks i d m found next less item before is only =
    places_more marks i d m less item ∙ ap (λ own. own ++ (if m.flag then i ∷ [] else [])) before ∙ by_flag m.flag only ∙ ap found_only (sym is)
  where
    by_flag : (b : Bool) → (b ≡ true → found ≡ None) → found_only found ++ (if b then i ∷ [] else []) ≡ found_only (if b then Some i else found)
    by_flag true only = ap (λ own. found_only own ++ i ∷ []) (only refl)
    by_flag false only = append-nil (found_only found)

-- a place is that of a mark
place_marked : (n : ℕ) (ms : List Values) (p : ℕ) → In p (places_from n ms) → (m : Values) × In m ms × (m.flag ≡ true)
place_marked n [] p found = absurd found
place_marked n (m ∷ ms) p found = by_flag m.flag refl (λ later. place_marked (n + 1) ms p later) found
  where
    by_flag : (b : Bool) → m.flag ≡ b → (In p (places_from (n + 1) ms) → (own : Values) × In own ms × (own.flag ≡ true)) → In p (if b then n ∷ places_from (n + 1) ms else places_from (n + 1) ms)
        → (own : Values) × In own (m ∷ ms) × (own.flag ≡ true)
    by_flag true flag later found = (m, inl refl, flag)
    by_flag false flag later found = let rest = later found in (rest.0, inr rest.1, rest.2)

-- a mark behind another one is the second
pub met_twice : (marks : List Values) (i : ℕ) (d m : Values) (found : Option ℕ) (span : Span) → i < length marks → m ≡ get_or marks i d → places_from 0 (take i marks) ≡ found_only found
    → m.flag ≡ true → IsSome found → span ≡ m.span → AreTwice marks span
met_twice marks i d m None span less item before flag found is = absurd (false≢true found)
met_twice marks i d m (Some p) span less item before flag found is =
    let first = place_marked 0 (take i marks) p (subst (In p) (sym before) (inl refl)) in
    let among : IsAmong first.0 (take i marks) = in_among first.0 (take i marks) first.1 in
    record {
      front = among.front;
      first = first.0;
      between = among.back;
      later = m;
      back = drop (suc i) marks;
      are = sym (take-append-drop i marks) ∙ (λ j. among.is j ++ (drop-cons marks i d less j)) ∙ ap (λ own. (among.front ++ first.0 ∷ among.back) ++ own ∷ drop (suc i) marks) (sym item);
      first_flag = first.2;
      later_flag = flag;
      span_is = is;
    }

-- ---- places are those of items

place_within : (n : ℕ) (ms : List Values) (p : ℕ) → In p (places_from n ms) → p < n + length ms
place_within n [] p found = absurd found
place_within n (m ∷ ms) p found = by_flag m.flag (λ later. let less = place_within (n + 1) ms p later in omega arith) found
  where
    by_flag : (b : Bool) → (In p (places_from (n + 1) ms) → p < n + length (m ∷ ms)) → In p (if b then n ∷ places_from (n + 1) ms else places_from (n + 1) ms) → p < n + length (m ∷ ms)
    by_flag true later (inl here) = omega arith
    by_flag true later (inr found) = later found
    by_flag false later found = later found

some_within : {X : Type 0} (xs : List X) → is_one xs ≡ true → 0 < length xs
some_within [] one = absurd (false≢true one)
some_within (x ∷ xs) one = omega arith

-- the only one is one of them
pub only_within : (marks : List Values) (place : ℕ) → IsOnly marks place → place < length marks
only_within marks _ (IsOnly.alone one) = some_within marks one
only_within marks _ (IsOnly.marked place many places) =
    let less : place < 0 + length marks = place_within 0 marks place (subst (In place) (sym places) (inl refl)) in
    omega arith
