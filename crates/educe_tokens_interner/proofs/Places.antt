-- Keys found by their places.
use Rattle.std.proofs.Common.{◌≡◌, ◌⊎◌, inl, inr, ℕ, zero, suc, ◌+◌, Bool, true, false, cond, List, [], ◌∷◌, ◌++◌, map, length, refl, ap, sym, subst, ◌∙◌, arith, Option, Some, None, Vec, Global}
use Rattle.std.specs.Prelude.{slice_get, IfSome, IfNone, Result, Ok, Err, IfOk, OnOk}
use Rattle.std.specs.declared.alloc.AllocError.{AllocError}
use Rattle.std.specs.Str.{bytes_eq}
use Rattle.std.specs.BTreeMap.{BTreeMap, get, is_at, Updates}
use Rattle.std.proofs.lemmas.Bool.{both_ways}
use Rattle.std.proofs.lemmas.Slice.Eq.{bytes_eq-Decides}
use Rattle.std.proofs.lemmas.Map.Text.{is_eq-slice_cmp}
use Rattle.std.proofs.lemmas.List.{map-append, length-map}
use Rattle.educe_tokens.specs.declared.token.Token.{Token}
use Rattle.educe_tokens.specs.Lexes.{Lexeme}
use Rattle.educe_tokens.specs.Same.{lexemes_aside}
use Rattle.educe_tokens_interner.specs.Keys.{tokens_key, key_cmp}
use Rattle.educe_tokens_interner.specs.Distinct.{Has, AreDistinct}
use Rattle.educe_tokens_interner.specs.Interned.{aside, IsHeld, IsUnder, AreApart, Interns}
use Rattle.educe_tokens_interner.specs.Places.{place_from, Numbers}
use Rattle.educe_tokens_interner.proofs.KeysApart.{same_tokens, same_key}

-- ---- places

found_if : (b : Bool) (n m : ℕ) (o : Option ℕ) → cond b (Some n) o ≡ Some m → ((b ≡ true) × (m ≡ n)) ⊎ ((b ≡ false) × (o ≡ Some m))
found_if true n m o h = inl (refl, (let e : ◌≡◌ {A = Option ℕ} (Some n) (Some m) = h in cc))
found_if false n m o h = inr (refl, h)

none_if : (b : Bool) (n : ℕ) (o : Option ℕ) → cond b (Some n) o ≡ None → (b ≡ false) × (o ≡ None)
none_if true n o h = absurd (cc)
none_if false n o h = (refl, h)

-- at the place of a key stands the key
place_found : (n : ℕ) (ks : List (List ℕ)) (key : List ℕ) (m : ℕ) → place_from n ks key ≡ Some m → (i : ℕ) × (m ≡ n + i) × (slice_get ks i ≡ Some key)
place_found n [] key m h = absurd (cc)
place_found n (k ∷ ks) key m h =
    elim (found_if (bytes_eq k key) n m (place_from (n + 1) ks key) h) [
      | inl is ↦ (zero, (let e = is.1 in omega arith), ap Some ((bytes_eq-Decides k key).0 is.0))
      | inr more ↦ (let found = place_found (n + 1) ks key m more.1 in (suc found.0, (let e = found.1 in omega arith), found.2))
    ]

-- a key that has no place is not there
pub place_none : (n : ℕ) (ks : List (List ℕ)) (key : List ℕ) → place_from n ks key ≡ None → Has ks key → ⊥
place_none n [] key h has = has
place_none n (k ∷ ks) key h (inl same) =
    both_ways (bytes_eq k key) (none_if (bytes_eq k key) n (place_from (n + 1) ks key) h).0 ((bytes_eq-Decides k key).1 same)
place_none n (k ∷ ks) key h (inr has) = place_none (n + 1) ks key (none_if (bytes_eq k key) n (place_from (n + 1) ks key) h).1 has

cond_false : {A : Type 0} (b : Bool) (x y : A) → b ≡ false → cond b x y ≡ y
cond_false b x y h = ap (λ c. cond c x y) h

-- the places of keys with a new one behind them
new_at : (n : ℕ) (k x q : List ℕ) (b c : Bool) (l : ℕ) (o : Option ℕ) → bytes_eq x k ≡ false → (b ≡ true → x ≡ q) → (c ≡ true → k ≡ q)
    → cond b (Some n) (cond c (Some (n + 1 + l)) o) ≡ cond c (Some (n + suc l)) (cond b (Some n) o)
new_at n k x q true true l o apart f g = absurd (both_ways (bytes_eq x k) apart ((bytes_eq-Decides x k).1 (f refl ∙ sym (g refl))))
new_at n k x q true false l o apart f g = refl
new_at n k x q false true l o apart f g = ap Some (omega arith)
new_at n k x q false false l o apart f g = refl

pub place_new : (n : ℕ) (ks : List (List ℕ)) (k q : List ℕ) → place_from n ks k ≡ None
    → place_from n (ks ++ k ∷ []) q ≡ cond (bytes_eq k q) (Some (n + length ks)) (place_from n ks q)
place_new n [] k q none = ap (λ (m : ℕ). cond (bytes_eq k q) (Some m) None) (omega arith)
place_new n (x ∷ ks) k q none =
    let each = none_if (bytes_eq x k) n (place_from (n + 1) ks k) none in
    ap (cond (bytes_eq x q) (Some n)) (place_new (n + 1) ks k q each.1)
    ∙ new_at n k x q (bytes_eq x q) (bytes_eq k q) (length ks) (place_from (n + 1) ks q) each.0 (λ h. (bytes_eq-Decides x q).0 h) (λ h. (bytes_eq-Decides k q).0 h)

-- ---- lists and their keys

-- where a list is held, its key is there
pub held_key : (lists : List (List Token)) (tokens : List Token) → IsHeld lists tokens → Has (map tokens_key lists) (tokens_key tokens)
held_key [] tokens h = h
held_key (ts ∷ lists) tokens (inl same) = inl (same_key ts tokens same)
held_key (ts ∷ lists) tokens (inr h) = inr (held_key lists tokens h)

-- where its key stands, an equal list stands
pub under_key : (lists : List (List Token)) (number : ℕ) (tokens : List Token) → slice_get (map tokens_key lists) number ≡ Some (tokens_key tokens) → IsUnder lists number tokens
under_key [] number tokens h = absurd (cc)
under_key (ts ∷ lists) zero tokens h = ap Some (same_tokens ts tokens (let e : ◌≡◌ {A = Option (List ℕ)} (Some (tokens_key ts)) (Some (tokens_key tokens)) = h in cc))
under_key (ts ∷ lists) (suc number) tokens h = under_key lists number tokens h

-- a list whose key has this place is under it
pub under_place : (lists : List (List Token)) (number : ℕ) (tokens : List Token) → place_from 0 (map tokens_key lists) (tokens_key tokens) ≡ Some number → IsUnder lists number tokens
under_place lists number tokens h =
    let found = place_found 0 (map tokens_key lists) (tokens_key tokens) number h in
    under_key lists number tokens (subst (λ (i : ℕ). slice_get (map tokens_key lists) i ≡ Some (tokens_key tokens)) (let e = found.1 in omega arith) found.2)

-- ---- items by their places

pub get_has : {K : Type 0} (xs : List K) (i : ℕ) (k : K) → slice_get xs i ≡ Some k → Has xs k
get_has [] i k h = absurd (cc)
get_has {K = K} (x ∷ xs) zero k h = inl (let e : ◌≡◌ {A = Option K} (Some x) (Some k) = h in cc)
get_has (x ∷ xs) (suc i) k h = inr (get_has xs i k h)

-- a list that is not held has no place
unheld_if : (lists : List (List Token)) (tokens : List Token) (found : Option ℕ) → found ≡ place_from 0 (map tokens_key lists) (tokens_key tokens) → (IsHeld lists tokens → ⊥) → found ≡ None
unheld_if lists tokens None is new = refl
unheld_if lists tokens (Some number) is new = absurd (new (get_has (aside lists) number (lexemes_aside tokens) (under_place lists number tokens (sym is))))

pub place_unheld : (lists : List (List Token)) (tokens : List Token) → (IsHeld lists tokens → ⊥) → place_from 0 (map tokens_key lists) (tokens_key tokens) ≡ None
place_unheld lists tokens new = unheld_if lists tokens (place_from 0 (map tokens_key lists) (tokens_key tokens)) refl new

-- what is found
pub find_some : (lists : List (List Token)) (tokens : List Token) (found : Option ℕ) → found ≡ place_from 0 (map tokens_key lists) (tokens_key tokens) → IfSome found (λ number. IsUnder lists number tokens)
find_some lists tokens None is = tt
find_some lists tokens (Some number) is = under_place lists number tokens (sym is)

pub find_none : (lists : List (List Token)) (tokens : List Token) (found : Option ℕ) → found ≡ place_from 0 (map tokens_key lists) (tokens_key tokens) → IfNone found (IsHeld lists tokens → ⊥)
find_none lists tokens None is = λ held. place_none 0 (map tokens_key lists) (tokens_key tokens) (sym is) (held_key lists tokens held)
find_none lists tokens (Some number) is = tt

-- ---- one more list

has_either : {K : Type 0} (ks ls : List K) (k : K) → Has (ks ++ ls) k → Has ks k ⊎ Has ls k
has_either [] ls k h = inr h
has_either (j ∷ ks) ls k (inl is) = inl (inl is)
has_either (j ∷ ks) ls k (inr h) = elim (has_either ks ls k h) [ inl left ↦ inl (inr left) | inr right ↦ inr right ]

pub distinct_last : {K : Type 0} (ks : List K) (k : K) → AreDistinct ks → (Has ks k → ⊥) → AreDistinct (ks ++ k ∷ [])
distinct_last [] k apart new = ((λ never. never), tt)
distinct_last (j ∷ ks) k apart new = (
  (λ h. elim (has_either ks (k ∷ []) j h) [ inl old ↦ apart.0 old | inr last ↦ elim last [ inl is ↦ new (inl (sym is)) | inr never ↦ never ] ]),
  distinct_last ks k apart.1 (λ h. new (inr h)),
)

pub apart_last : (lists : List (List Token)) (tokens : List Token) → AreApart lists → (IsHeld lists tokens → ⊥) → AreApart (lists ++ tokens ∷ [])
apart_last lists tokens apart new =
    subst AreDistinct (sym (map-append lexemes_aside lists (tokens ∷ []))) (distinct_last (aside lists) (lexemes_aside tokens) apart new)

-- the map with one more number
pub numbers_more : (old new : BTreeMap (Vec ℕ Global) ℕ) (lists : List (List Token)) (tokens : List Token) (key : Vec ℕ Global) → key.items ≡ tokens_key tokens
    → place_from 0 (map tokens_key lists) key.items ≡ None → Numbers old lists → Updates key_cmp old new key (Some (length lists)) → Numbers new (lists ++ tokens ∷ [])
numbers_more old new lists tokens key is none numbers updates q =
    let ks = map tokens_key lists in
    let here : is_at (key_cmp key) q ≡ bytes_eq key.items q.items = is_eq-slice_cmp key.items q.items in
    let same : length ks ≡ length lists = length-map lists tokens_key in
    let count : length lists ≡ 0 + length ks = omega arith in
    updates.0 q ∙ ap (λ (b : Bool). cond b (Some (length lists)) (get key_cmp old q)) here ∙ ap (cond (bytes_eq key.items q.items) (Some (length lists))) (numbers q)
    ∙ ap (λ (m : ℕ). cond (bytes_eq key.items q.items) (Some m) (place_from 0 ks q.items)) count ∙ sym (place_new 0 ks key.items q.items none)
    ∙ ap (λ (k : List ℕ). place_from 0 (ks ++ k ∷ []) q.items) is ∙ ap (λ (xs : List (List ℕ)). place_from 0 xs q.items) (sym (map-append tokens_key lists (tokens ∷ [])))

-- what an interner keeps to, with one more list
pub kept_more : (old new : BTreeMap (Vec ℕ Global) ℕ) (lists more : List (List Token)) (tokens list : List Token) (key : Vec ℕ Global) (number : ℕ) → key.items ≡ tokens_key tokens
    → place_from 0 (map tokens_key lists) key.items ≡ None → AreApart lists × Numbers old lists → number ≡ length lists → Updates key_cmp old new key (Some number) → list ≡ tokens
    → more ≡ lists ++ list ∷ [] → AreApart more × Numbers new more
kept_more old new lists more tokens list key number is none kept count updates copy added =
    let whole : more ≡ lists ++ tokens ∷ [] = added ∙ ap (λ (ts : List Token). lists ++ ts ∷ []) copy in
    let absent : place_from 0 (map tokens_key lists) (tokens_key tokens) ≡ None = subst (λ (k : List ℕ). place_from 0 (map tokens_key lists) k ≡ None) is none in
    subst (λ (xs : List (List Token)). AreApart xs × Numbers new xs) (sym whole) (
      apart_last lists tokens kept.0 (λ held. place_none 0 (map tokens_key lists) (tokens_key tokens) absent (held_key lists tokens held)),
      numbers_more old new lists tokens key is none kept.1 (subst (λ (n : ℕ). Updates key_cmp old new key (Some n)) count updates),
    )

-- one that is not held is interned under the next number
pub interns_if : (r : Result ℕ AllocError) (lists more : List (List Token)) (tokens : List Token) → (IsHeld lists tokens → ⊥) → IfOk r (λ number. number ≡ length lists)
    → OnOk r (more ≡ lists ++ tokens ∷ []) → IfOk r (λ number. Interns lists tokens number more)
interns_if (Ok number) lists more tokens new count whole =
    subst (λ (n : ℕ). Interns lists tokens n more) (sym count) (subst (λ (xs : List (List Token)). Interns lists tokens (length lists) xs) (sym whole) (Interns.added lists tokens new))
interns_if (Err e) lists more tokens new count whole = tt
