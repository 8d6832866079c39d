-- Two lists have the same number exactly if they are equal, and a number once given stays.
use Rattle.std.proofs.Common.{◌≡◌, ◌⊎◌, inl, inr, ℕ, zero, suc, ◌+◌, List, [], ◌∷◌, ◌++◌, map, length, refl, ap, sym, subst, ◌∙◌, arith, Option, Some, None}
use Rattle.std.specs.Prelude.{slice_get}
use Rattle.std.proofs.lemmas.List.{map-append}
use Rattle.educe_tokens.specs.declared.token.Token.{Token}
use Rattle.educe_tokens.specs.Lexes.{Lexeme}
use Rattle.educe_tokens.specs.Same.{lexemes_aside}
use Rattle.educe_tokens_interner.specs.Distinct.{Has, AreDistinct}
use Rattle.educe_tokens_interner.specs.Interned.{aside, IsHeld, IsUnder, AreApart, Interns, Runs, SameExactly, NumbersStay}
use Rattle.educe_tokens_interner.proofs.Places.{apart_last, get_has}

-- ---- places in lists

get_front : {K : Type 0} (xs ys : List K) (i : ℕ) (k : K) → slice_get xs i ≡ Some k → slice_get (xs ++ ys) i ≡ Some k
get_front [] ys i k h = absurd (cc)
get_front (x ∷ xs) ys zero k h = h
get_front (x ∷ xs) ys (suc i) k h = get_front xs ys i k h

get_last : {K : Type 0} (xs : List K) (k : K) → slice_get (xs ++ k ∷ []) (length xs) ≡ Some k
get_last [] k = refl
get_last (x ∷ xs) k = get_last xs k

-- of distinct ones each has one place
one_place : {K : Type 0} (xs : List K) (i j : ℕ) (k : K) → AreDistinct xs → slice_get xs i ≡ Some k → slice_get xs j ≡ Some k → i ≡ j
one_place [] i j k apart h g = absurd (cc)
one_place (x ∷ xs) zero zero k apart h g = refl
one_place {K = K} (x ∷ xs) zero (suc j) k apart h g = absurd (apart.0 (subst (Has xs) (let e : ◌≡◌ {A = Option K} (Some x) (Some k) = h in cc) (get_has xs j k g)))
one_place {K = K} (x ∷ xs) (suc i) zero k apart h g = absurd (apart.0 (subst (Has xs) (let e : ◌≡◌ {A = Option K} (Some x) (Some k) = g in cc) (get_has xs i k h)))
one_place (x ∷ xs) (suc i) (suc j) k apart h g = ap suc (one_place xs i j k apart.1 h g)

-- ---- one list

last_under : (lists : List (List Token)) (tokens : List Token) → IsUnder (lists ++ tokens ∷ []) (length lists) tokens
last_under [] tokens = refl
last_under (ts ∷ lists) tokens = last_under lists tokens

front_under : (lists more : List (List Token)) (number : ℕ) (tokens : List Token) → IsUnder lists number tokens → IsUnder (lists ++ more) number tokens
front_under lists more number tokens h =
    subst (λ (ks : List (List Lexeme)). slice_get ks number ≡ Some (lexemes_aside tokens)) (sym (map-append lexemes_aside lists more)) (get_front (aside lists) (aside more) number (lexemes_aside tokens) h)

own_number : {before after : List (List Token)} {tokens : List Token} {number : ℕ} → Interns before tokens number after → IsUnder after number tokens
own_number (Interns.held lists tokens number under) = under
own_number (Interns.added lists tokens new) = last_under lists tokens

number_stays : {before after : List (List Token)} {tokens : List Token} {number : ℕ} (other : List Token) (m : ℕ) → Interns before tokens number after → IsUnder before m other → IsUnder after m other
number_stays other m (Interns.held lists tokens number under) h = h
number_stays other m (Interns.added lists tokens new) h = front_under lists (tokens ∷ []) m other h

still_apart : {before after : List (List Token)} {tokens : List Token} {number : ℕ} → AreApart before → Interns before tokens number after → AreApart after
still_apart apart (Interns.held lists tokens number under) = apart
still_apart apart (Interns.added lists tokens new) = apart_last lists tokens apart new

-- ---- one after the other

run_stays : {before after : List (List Token)} {given : List (List Token × ℕ)} (other : List Token) (m : ℕ) → Runs before given after → IsUnder before m other → IsUnder after m other
run_stays other m (Runs.none lists) h = h
run_stays other m (Runs.interned tokens number first rest) h = run_stays other m rest (number_stays other m first h)

run_apart : {before after : List (List Token)} {given : List (List Token × ℕ)} → AreApart before → Runs before given after → AreApart after
run_apart apart (Runs.none lists) = apart
run_apart apart (Runs.interned tokens number first rest) = run_apart (still_apart apart first) rest

run_numbers : {before after : List (List Token)} {given : List (List Token × ℕ)} (one : List Token × ℕ) → Runs before given after → Has given one → IsUnder after one.1 one.0
run_numbers one (Runs.none lists) h = absurd h
run_numbers one (Runs.interned {after = after} tokens number first rest) (inl is) =
    subst (λ (p : List Token × ℕ). IsUnder after p.1 p.0) is (run_stays tokens number rest (own_number first))
run_numbers one (Runs.interned tokens number first rest) (inr h) = run_numbers one rest h

some_same : {K : Type 0} (x y : K) → ◌≡◌ {A = Option K} (Some x) (Some y) → x ≡ y
some_same x y e = cc

pub numbers_stay : NumbersStay
numbers_stay given after run one has = run_numbers one run has

pub same_exactly : SameExactly
same_exactly given after run one other has also =
    let first : IsUnder after one.1 one.0 = run_numbers one run has in
    let second : IsUnder after other.1 other.0 = run_numbers other run also in (
      (λ same. some_same (lexemes_aside one.0) (lexemes_aside other.0) (sym first ∙ ap (slice_get (aside after)) same ∙ second)),
      (λ same. one_place (aside after) one.1 other.1 (lexemes_aside other.0) (run_apart tt run) (first ∙ ap Some same) second),
    )
