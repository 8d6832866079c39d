-- Beginnings that are put together: one before others, the first few of a row, one list of them and another.
use Rattle.std.proofs.Common.{◌≡◌, ℕ, zero, suc, Bool, true, false, not, ◌&&◌, ◌||◌, ◌==◌, cond, List, [], ◌∷◌, ◌++◌, map, Option, Some, None, refl, ◌∙◌, ◌⊎◌, inl, inr, ⊎_elim}
use Rattle.std.specs.List.{list_any, filter}
use Rattle.std.specs.Prelude.{if◌then◌else◌}
use Rattle.std.proofs.lemmas.Bool.{false≢true, and_parts, and_from, or_cases, or_left, or_right}
use Rattle.std.proofs.lemmas.List.Folds.{list_any-append}
use Rattle.educe_tokens.specs.TokenKind.{TokenKind}
use Rattle.educe_tokens.specs.TokenKind.TheVariants as kind
use Rattle.educe_tokens.specs.declared.token.Token.{Token}
use Rattle.educe_grammar.specs.declared.operator.Operator.{Operator}
use Rattle.educe_grammar.specs.declared.operator.Operator.TheVariants.{Joins, Compares, Less, ShiftsLeft, Calculates}
use Rattle.educe_grammar.specs.declared.terminal.Terminal.TheVariants.{Sign}
use Rattle.educe_grammar.specs.Terminals.{accepts}
use Rattle.educe_grammar.specs.Steps.{Tokens}
use Rattle.educe_grammar.specs.Operators.{pair_of, single_of, pair_operator, single_operator, of_length, longer_of, operator_at}
use Rattle.educe_grammar.specs.Ahead.{is_sign, is_joint, begins_pair, sees, Ahead, one, pair, begins, behind, meets, Look, sees_any}
use Rattle.educe_grammar.proofs.TokenKinds.{sign_token}
use Rattle.educe_grammar.proofs.Crossed.{holds_too, holds_somewhere_too}
use Rattle.educe_grammar.proofs.Sets.{is_within}
use Rattle.educe_grammar.proofs.Apart.{within, way_within, way_within_sound, all_within, all_within_sound}

-- ---- lists of beginnings

-- what says nothing
abbrev pub anything : Look
anything = [] ∷ []

-- it is seen everywhere
pub anything_seen : (ts : Tokens) → sees_any anything ts ≡ true
unfolding sees_any
anything_seen ts = refl

-- one list of beginnings, and what the other has beyond it
unfoldable pub joined : Look → Look → Look
joined l m = l ++ filter (λ way. not (list_any (way_within way) l)) m

-- what begins with one of the first list does with one of both
pub joined_left : (l m : Look) (ts : Tokens) → sees_any l ts ≡ true → sees_any (joined l m) ts ≡ true
unfolding joined sees_any
joined_left l m ts h = list_any-append (λ way. meets way ts) l (filter (λ way. not (list_any (way_within way) l)) m) ∙ or_left _ _ h

-- what is left out of the second list lies within the first
beyond : (l m : Look) (ts : Tokens) → list_any (λ way. meets way ts) m ≡ true
    → (list_any (λ way. meets way ts) l || list_any (λ way. meets way ts) (filter (λ way. not (list_any (way_within way) l)) m)) ≡ true
beyond l [] ts h = absurd (false≢true h)
beyond l (way ∷ m) ts h = kept (list_any (way_within way) l) refl (beyond l m ts) (or_cases (meets way ts) (list_any (λ way. meets way ts) m) h)
  where
    sees_one : Look → Bool
    sees_one look = list_any (λ way. meets way ts) look

    rest : Look
    rest = filter (λ way. not (list_any (way_within way) l)) m

    kept : (b : Bool) → list_any (way_within way) l ≡ b → (sees_one m ≡ true → (sees_one l || sees_one rest) ≡ true) → (meets way ts ≡ true) ⊎ (sees_one m ≡ true)
        → (sees_one l || sees_one (cond (not b) (way ∷ rest) rest)) ≡ true
    kept true is more (inl here) = or_left (sees_one l) (sees_one rest) (holds_too way_within (λ way. meets way ts) (λ way. meets way ts) (way_within_sound ts) (way ∷ []) l
        (and_from (list_any (way_within way) l) true is refl) (or_left (meets way ts) false here))
    kept true is more (inr there) = more there
    kept false is more (inl here) = or_right (sees_one l) (meets way ts || sees_one rest) (or_left (meets way ts) (sees_one rest) here)
    kept false is more (inr there) = ⊎_elim (λ first. or_left (sees_one l) (meets way ts || sees_one rest) first)
        (λ second. or_right (sees_one l) (meets way ts || sees_one rest) (or_right (meets way ts) (sees_one rest) second)) (or_cases (sees_one l) (sees_one rest) (more there))

-- what begins with one of the second lookahead begins with one of both joined
pub joined_right : (l m : Look) (ts : Tokens) → sees_any m ts ≡ true → sees_any (joined l m) ts ≡ true
unfolding joined sees_any
joined_right l m ts h = list_any-append (λ way. meets way ts) l (filter (λ way. not (list_any (way_within way) l)) m) ∙ beyond l m ts h

-- each once
unfoldable pub tidy : Look → Look
tidy [] = []
tidy (way ∷ look) = joined (way ∷ []) (tidy look)

-- the first of them is seen, or one of the others
one_or_more : (way : List Ahead) (look : Look) (ts : Tokens) → sees_any (way ∷ look) ts ≡ true → (sees_any (way ∷ []) ts ≡ true) ⊎ (sees_any look ts ≡ true)
unfolding sees_any
one_or_more way look ts h = ⊎_elim (λ here. inl (or_left (meets way ts) false here)) inr (or_cases (meets way ts) (list_any (λ way. meets way ts) look) h)

-- what is seen of them is seen of each once
tidy_seen : (look : Look) (ts : Tokens) → sees_any look ts ≡ true → sees_any (tidy look) ts ≡ true
unfolding tidy
tidy_seen [] ts h = h
tidy_seen (way ∷ look) ts h = ⊎_elim (λ here. joined_left (way ∷ []) (tidy look) ts here) (λ there. joined_right (way ∷ []) (tidy look) ts (tidy_seen look ts there))
    (one_or_more way look ts h)

-- the first so many of a row
abbrev pub cut : ℕ → List Ahead → List Ahead
cut zero way = []
cut (suc n) [] = []
cut (suc n) (a ∷ way) = a ∷ cut n way

-- what begins with a row begins with its first so many
cut_met : (n : ℕ) (way : List Ahead) (ts : Tokens) → meets way ts ≡ true → meets (cut n way) ts ≡ true
cut_met zero way ts h = refl
cut_met (suc n) [] ts h = h
cut_met (suc n) (a ∷ way) ts h =
    let parts = and_parts (begins a ts) (meets way (behind a ts)) h in
    and_from (begins a ts) (meets (cut n way) (behind a ts)) parts.0 (cut_met n way (behind a ts) parts.1)

-- the first so many of each
abbrev pub all_cut : ℕ → Look → Look
all_cut n look = map (cut n) look

-- what begins with one of them begins so
pub all_cut_seen : (n : ℕ) (look : Look) (ts : Tokens) → sees_any look ts ≡ true → sees_any (all_cut n look) ts ≡ true
unfolding sees_any
all_cut_seen n [] ts h = h
all_cut_seen n (way ∷ look) ts h = ⊎_elim (λ here. or_left (meets (cut n way) ts) _ (cut_met n way ts here))
    (λ there. or_right (meets (cut n way) ts) _ (all_cut_seen n look ts there)) (or_cases (meets way ts) (list_any (λ way. meets way ts) look) h)

-- a beginning, and behind it one of these
unfoldable pub before : ℕ → Ahead → Look → Look
before n a look = tidy (all_cut n (map (λ way. a ∷ way) look))

-- where the beginning stands, and behind it one of these, one of the rows is seen
prefixed : (a : Ahead) (look : Look) (ts : Tokens) → begins a ts ≡ true → sees_any look (behind a ts) ≡ true → sees_any (map (λ way. a ∷ way) look) ts ≡ true
unfolding sees_any
prefixed a [] ts first more = more
prefixed a (way ∷ look) ts first more = ⊎_elim (λ here. or_left (begins a ts && meets way (behind a ts)) _ (and_from (begins a ts) (meets way (behind a ts)) first here))
    (λ there. or_right (begins a ts && meets way (behind a ts)) _ (prefixed a look ts first there))
    (or_cases (meets way (behind a ts)) (list_any (λ way. meets way (behind a ts)) look) more)

-- where the beginning stands, and behind it one of these, one of the first n rows is seen
pub before_seen : (n : ℕ) (a : Ahead) (look : Look) (ts : Tokens) → begins a ts ≡ true → sees_any look (behind a ts) ≡ true → sees_any (before n a look) ts ≡ true
unfolding before
before_seen n a look ts first more = tidy_seen (all_cut n (map (λ way. a ∷ way) look)) ts (all_cut_seen n (map (λ way. a ∷ way) look) ts (prefixed a look ts first more))

-- ---- operators

-- the signs that an operator is or begins with
abbrev pub operator_signs : List ℕ
operator_signs = 60 ∷ 62 ∷ 43 ∷ 45 ∷ 42 ∷ 47 ∷ 37 ∷ 94 ∷ 38 ∷ 124 ∷ []

-- what an operator with two operands begins with
unfoldable pub operator_ways : Look
operator_ways = (pair 61 61 ∷ []) ∷ (pair 33 61 ∷ []) ∷ map (λ c. one (Sign c) ∷ []) operator_signs

-- the first that passes
abbrev first_passing : {X : Type 0} → (X → Bool) → List (X × Operator) → Option Operator
first_passing test [] = None
first_passing test (e ∷ more) = if test e.0 then Some e.1 else first_passing test more

-- what it finds passes
passes_somewhere : {X : Type 0} (test : X → Bool) (table : List (X × Operator)) (o : Operator) → first_passing test table ≡ Some o → list_any (λ e. test e.0) table ≡ true
passes_somewhere test [] o h = cc
passes_somewhere test (e ∷ more) o h = here (test e.0) refl (passes_somewhere test more o) h
  where
    here : (b : Bool) → test e.0 ≡ b → (first_passing test more ≡ Some o → list_any (λ e. test e.0) more ≡ true)
        → (if b then Some e.1 else first_passing test more) ≡ Some o → (b || list_any (λ e. test e.0) more) ≡ true
    here true is there h = refl
    here false is there h = there h

-- the operators of one punct
abbrev singles : List (ℕ × Operator)
singles = (60, Less) ∷ (62, Compares) ∷ map (λ c. (c, Calculates)) (43 ∷ 45 ∷ 42 ∷ 47 ∷ 37 ∷ 94 ∷ 38 ∷ 124 ∷ [])

-- the operators of two puncts
abbrev pairs : List ((ℕ × ℕ) × Operator)
pairs =
    ((38, 38), Joins) ∷ ((124, 124), Joins) ∷ ((61, 61), Compares) ∷ ((33, 61), Compares) ∷ ((60, 61), Compares) ∷ ((62, 61), Compares)
    ∷ ((60, 60), ShiftsLeft) ∷ ((62, 62), Calculates) ∷ []

-- an operator of one punct is one of the signs
single_is : (c : ℕ) (o : Operator) → single_of c ≡ Some o → list_any (λ d. c == d) operator_signs ≡ true
single_is c o h = passes_somewhere (λ d. c == d) singles o h

-- an operator of two puncts is one of the pairs
pair_is : (c d : ℕ) (o : Operator) → pair_of c d ≡ Some o → list_any (λ e. (c == e.0.0) && (d == e.0.1)) pairs ≡ true
pair_is c d o h = passes_somewhere (λ p. (c == p.0) && (d == p.1)) pairs o h

-- a token that is an operator is one of the signs
single_sign : (k : TokenKind) (o : Operator) → single_operator k ≡ Some o → list_any (λ d. is_sign d k) operator_signs ≡ true
single_sign (kind.Punct c joint) o h = single_is c o h
single_sign kind.Ident o h = absurd (cc)
single_sign kind.Lifetime o h = absurd (cc)
single_sign (kind.Literal l) o h = absurd (cc)
single_sign (kind.Start b) o h = absurd (cc)
single_sign (kind.Stop b) o h = absurd (cc)
single_sign kind.Doc o h = absurd (cc)

-- two that are one are one of the pairs
pair_sign : (k l : TokenKind) (o : Operator) → pair_operator k l ≡ Some o → list_any (λ e. is_joint e.0.0 k && is_sign e.0.1 l) pairs ≡ true
pair_sign (kind.Punct c true) (kind.Punct d joint) o h =
    holds_somewhere_too (λ e. (c == e.0.0) && (d == e.0.1)) (λ e. ((c == e.0.0) && true) && (d == e.0.1))
    (λ e both. let parts = and_parts (c == e.0.0) (d == e.0.1) both in and_from ((c == e.0.0) && true) (d == e.0.1) (and_from (c == e.0.0) true parts.0 refl) parts.1)
    pairs (pair_is c d o h)
pair_sign k l o h = absurd (cc)

-- the pairs alone
abbrev pair_ways : Look
pair_ways = map (λ e. pair e.0.0 e.0.1 ∷ []) pairs

-- each pair is a beginning of an operator, or begins with its sign
pairs_are_ways : all_within pair_ways operator_ways ≡ true
unfolding all_within way_within within is_within operator_ways
pairs_are_ways = refl

-- what begins with a sign of them begins with an operator
sign_seen : (t : Token) (ts : Tokens) → list_any (λ d. is_sign d t.kind) operator_signs ≡ true → sees_any operator_ways (t ∷ ts) ≡ true
unfolding sees_any operator_ways sees accepts
sign_seen t ts h =
    or_right (begins_pair 61 61 (t ∷ ts) && true) _ (or_right (begins_pair 33 61 (t ∷ ts) && true) _
    (holds_somewhere_too (λ d. is_sign d t.kind) (λ d. meets (one (Sign d) ∷ []) (t ∷ ts))
    (λ d is. and_from (begins (one (Sign d)) (t ∷ ts)) true (sign_token d t.kind t.spelling is) refl) operator_signs h))

-- what begins with a pair of them begins so
pair_seen : (t u : Token) (ts : Tokens) → list_any (λ e. is_joint e.0.0 t.kind && is_sign e.0.1 u.kind) pairs ≡ true → sees_any pair_ways (t ∷ u ∷ ts) ≡ true
unfolding sees_any begins_pair
pair_seen t u ts h = holds_somewhere_too (λ e. is_joint e.0.0 t.kind && is_sign e.0.1 u.kind) (λ e. meets (pair e.0.0 e.0.1 ∷ []) (t ∷ u ∷ ts))
    (λ e is. and_from (begins (pair e.0.0 e.0.1) (t ∷ u ∷ ts)) true is refl) pairs h

-- where an operator stands, the tokens begin with one of them
pub operator_seen : (tokens rest : Tokens) (o : Operator × ℕ) → operator_at tokens ≡ Some o → sees_any operator_ways (tokens ++ rest) ≡ true
unfolding operator_at
operator_seen [] rest o h = absurd (cc)
operator_seen (t ∷ []) rest o h = by_single (single_operator t.kind) refl h
  where
    by_single : (s : Option Operator) → single_operator t.kind ≡ s → of_length 1 s ≡ Some o → sees_any operator_ways (t ∷ rest) ≡ true
    by_single None is h = absurd (cc)
    by_single (Some found) is h = sign_seen t rest (single_sign t.kind found is)
operator_seen (t ∷ u ∷ ts) rest o h = by_pair (pair_operator t.kind u.kind) (single_operator t.kind) refl refl h
  where
    by_pair : (p s : Option Operator) → pair_operator t.kind u.kind ≡ p → single_operator t.kind ≡ s → longer_of p s ≡ Some o → sees_any operator_ways (t ∷ u ∷ ts ++ rest) ≡ true
    by_pair None None is single h = absurd (cc)
    by_pair None (Some found) is single h = sign_seen t (u ∷ ts ++ rest) (single_sign t.kind found single)
    by_pair (Some found) s is single h =
        all_within_sound pair_ways operator_ways (t ∷ u ∷ ts ++ rest) pairs_are_ways (pair_seen t u (ts ++ rest) (pair_sign t.kind u.kind found is))
