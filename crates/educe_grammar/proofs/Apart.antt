-- Beginnings of a list of tokens: which can't stand at one place, and which lie within another.
use Rattle.std.proofs.Common.{◌≡◌, ℕ, Bool, true, false, not, ◌&&◌, ◌||◌, ◌==◌, List, [], ◌∷◌, refl, sym, ap, subst, ◌∙◌, ⊎_elim}
use Rattle.std.specs.Bool.{beq}
use Rattle.std.specs.List.{list_any, list_all}
use Rattle.std.proofs.lemmas.Bool.{false≢true, both_ways, not-true, and_parts, and_from, and_left, and_right, or_cases, false_from_ne_true, eqb-true, eq-eqb}
use Rattle.educe_tokens.specs.Bracket.{Bracket}
use Rattle.educe_tokens.specs.declared.token.Token.{Token}
use Rattle.educe_tokens.specs.Brackets.{same_bracket}
use Rattle.educe_grammar.specs.declared.terminal.Terminal.{Terminal}
use Rattle.educe_grammar.specs.Terminals.{TokenSet, only_signs, set_of, token_in, accepts}
use Rattle.educe_grammar.specs.Steps.{Tokens}
use Rattle.educe_grammar.specs.Ahead.{is_sign, is_joint, is_start, is_stop, is_doc, begins_pair, begins_lone, sees, at_end, Ahead, one, start, stop, doc, pair, lone, finish, begins, behind, meets, Look, sees_any}
use Rattle.educe_grammar.proofs.Crossed.{fails_everywhere, holds_too}
use Rattle.educe_grammar.proofs.TokenKinds.{one_sign, joint_sign, sign_token, bracket_is, same_bracket_refl, no_start, no_stop, no_doc, start_no_stop, start_no_doc, stop_no_doc, one_start, one_stop}
use Rattle.educe_grammar.proofs.Sets.{are_disjoint, is_within, disjoint_sound, within_sound}

-- ---- the first token

-- what the first token is
pub data First : Type 0 where
  in_set : TokenSet → First
  opening : Bracket → First
  closing : Bracket → First
  documented : First
  nothing : First

-- the token is such a one
abbrev pub fits : First → Token → Bool
fits (in_set s) t = token_in s t.kind t.spelling
fits (opening b) t = is_start b t.kind
fits (closing b) t = is_stop b t.kind
fits documented t = is_doc t.kind
fits nothing t = false

-- the list begins with such a one
abbrev pub has_first : First → Tokens → Bool
has_first nothing [] = true
has_first f [] = false
has_first f (t ∷ ts) = fits f t

-- what the first token of a beginning is
abbrev pub first_of : Ahead → First
first_of (one asked) = in_set (set_of asked)
first_of (start b) = opening b
first_of (stop b) = closing b
first_of doc = documented
first_of (pair c d) = in_set (only_signs (c ∷ []))
first_of (lone c d) = in_set (only_signs (c ∷ []))
first_of finish = nothing

-- no token is both
abbrev pub firsts_apart : First → First → Bool
firsts_apart (in_set s) (in_set t) = are_disjoint s t
firsts_apart (opening b) (opening c) = not (same_bracket b c)
firsts_apart (closing b) (closing c) = not (same_bracket b c)
firsts_apart documented documented = false
firsts_apart nothing nothing = false
firsts_apart f g = true

-- what holds of the one fails of the other, the other way round
contrary : (a b : Bool) → (b ≡ true → a ≡ false) → a ≡ true → b ≡ false
contrary a b h is = false_from_ne_true b (λ other. both_ways a (h other) is)

-- a token in one of two disjoint first sets is not in the other
firsts_apart_fit : (f g : First) (t : Token) → firsts_apart f g ≡ true → fits f t ≡ true → fits g t ≡ false
firsts_apart_fit (in_set s) (in_set u) t h is = disjoint_sound s u t.kind t.spelling h is
firsts_apart_fit (in_set s) (opening c) t h is = no_start s c t.kind t.spelling is
firsts_apart_fit (in_set s) (closing c) t h is = no_stop s c t.kind t.spelling is
firsts_apart_fit (in_set s) documented t h is = no_doc s t.kind t.spelling is
firsts_apart_fit (opening b) (in_set u) t h is = contrary (is_start b t.kind) (token_in u t.kind t.spelling) (no_start u b t.kind t.spelling) is
firsts_apart_fit (opening b) (opening c) t h is = false_from_ne_true (is_start c t.kind) (λ other. both_ways (same_bracket b c) (not-true (same_bracket b c) h)
    (subst (λ d. same_bracket b d ≡ true) (one_start b c t.kind is other) (same_bracket_refl b)))
firsts_apart_fit (opening b) (closing c) t h is = start_no_stop b c t.kind is
firsts_apart_fit (opening b) documented t h is = start_no_doc b t.kind is
firsts_apart_fit (closing b) (in_set u) t h is = contrary (is_stop b t.kind) (token_in u t.kind t.spelling) (no_stop u b t.kind t.spelling) is
firsts_apart_fit (closing b) (opening c) t h is = contrary (is_stop b t.kind) (is_start c t.kind) (start_no_stop c b t.kind) is
firsts_apart_fit (closing b) (closing c) t h is = false_from_ne_true (is_stop c t.kind) (λ other. both_ways (same_bracket b c) (not-true (same_bracket b c) h)
    (subst (λ d. same_bracket b d ≡ true) (one_stop b c t.kind is other) (same_bracket_refl b)))
firsts_apart_fit (closing b) documented t h is = stop_no_doc b t.kind is
firsts_apart_fit documented (in_set u) t h is = contrary (is_doc t.kind) (token_in u t.kind t.spelling) (no_doc u t.kind t.spelling) is
firsts_apart_fit documented (opening c) t h is = contrary (is_doc t.kind) (is_start c t.kind) (start_no_doc c t.kind) is
firsts_apart_fit documented (closing c) t h is = contrary (is_doc t.kind) (is_stop c t.kind) (stop_no_doc c t.kind) is
firsts_apart_fit documented documented t h is = absurd (false≢true h)
firsts_apart_fit nothing g t h is = absurd (false≢true is)
firsts_apart_fit f nothing t h is = refl

-- no list begins with both of two disjoint first sets
firsts_apart_sound : (f g : First) (ts : Tokens) → firsts_apart f g ≡ true → has_first f ts ≡ true → has_first g ts ≡ false
firsts_apart_sound f g (t ∷ ts) h is = firsts_apart_fit f g t h is
firsts_apart_sound nothing nothing [] h is = absurd (false≢true h)
firsts_apart_sound nothing (in_set u) [] h is = refl
firsts_apart_sound nothing (opening c) [] h is = refl
firsts_apart_sound nothing (closing c) [] h is = refl
firsts_apart_sound nothing documented [] h is = refl
firsts_apart_sound (in_set s) g [] h is = absurd (false≢true is)
firsts_apart_sound (opening b) g [] h is = absurd (false≢true is)
firsts_apart_sound (closing b) g [] h is = absurd (false≢true is)
firsts_apart_sound documented g [] h is = absurd (false≢true is)

-- ---- pairs of signs

-- a list that begins with a pair has two tokens
pub record Paired (c d : ℕ) (ts : Tokens) : Type 0 where
  pub first : Token
  pub second : Token
  pub more : Tokens
  pub is : ts ≡ first ∷ second ∷ more
  pub joins : is_joint c first.kind ≡ true
  pub ends : is_sign d second.kind ≡ true

-- the test of a pair finds two tokens
pub paired : (c d : ℕ) (ts : Tokens) → begins_pair c d ts ≡ true → Paired c d ts
unfolding begins_pair
paired c d [] h = absurd (false≢true h)
paired c d (t ∷ []) h = absurd (false≢true h)
paired c d (t ∷ u ∷ ts) h =
    let parts = and_parts (is_joint c t.kind) (is_sign d u.kind) h in
    record { first = t; second = u; more = ts; is = refl; joins = parts.0; ends = parts.1 }

-- two pairs at one place are the same
one_pair : (c d e f : ℕ) (ts : Tokens) → begins_pair c d ts ≡ true → begins_pair e f ts ≡ true → d ≡ f
unfolding begins_pair
one_pair c d e f [] first second = absurd (false≢true first)
one_pair c d e f (t ∷ []) first second = absurd (false≢true first)
one_pair c d e f (t ∷ u ∷ ts) first second =
    one_sign d f u.kind (and_parts (is_joint c t.kind) (is_sign d u.kind) first).1 (and_parts (is_joint e t.kind) (is_sign f u.kind) second).1

-- the pair of c and d isn't the sign e alone, before d
pair_no_lone : (c d e : ℕ) (ts : Tokens) → begins_pair c d ts ≡ true → begins_lone e d ts ≡ false
unfolding begins_pair begins_lone
pair_no_lone c d e [] h = absurd (false≢true h)
pair_no_lone c d e (t ∷ []) h = absurd (false≢true h)
pair_no_lone c d e (t ∷ u ∷ ts) h = false_from_ne_true (begins_lone e d (t ∷ u ∷ ts)) (λ other.
    let parts = and_parts (is_joint c t.kind) (is_sign d u.kind) h in
    let others = and_parts (is_sign e t.kind) (not (begins_pair e d (t ∷ u ∷ ts))) other in
    let same = one_sign c e t.kind (joint_sign c t.kind parts.0) others.0 in
    both_ways (begins_pair e d (t ∷ u ∷ ts)) (not-true (begins_pair e d (t ∷ u ∷ ts)) others.1) (subst (λ x. begins_pair x d (t ∷ u ∷ ts) ≡ true) same h))

-- ---- one beginning

-- what a list begins with has its first token
begins_first : (a : Ahead) (ts : Tokens) → begins a ts ≡ true → has_first (first_of a) ts ≡ true
unfolding sees accepts begins_pair begins_lone at_end
begins_first (one asked) [] h = absurd (false≢true h)
begins_first (one asked) (t ∷ ts) h = h
begins_first (start b) [] h = absurd (false≢true h)
begins_first (start b) (t ∷ ts) h = h
begins_first (stop b) [] h = absurd (false≢true h)
begins_first (stop b) (t ∷ ts) h = h
begins_first doc [] h = absurd (false≢true h)
begins_first doc (t ∷ ts) h = h
begins_first (pair c d) [] h = absurd (false≢true h)
begins_first (pair c d) (t ∷ []) h = absurd (false≢true h)
begins_first (pair c d) (t ∷ u ∷ ts) h = sign_token c t.kind t.spelling (joint_sign c t.kind (and_parts (is_joint c t.kind) (is_sign d u.kind) h).0)
begins_first (lone c d) [] h = absurd (false≢true h)
begins_first (lone c d) (t ∷ ts) h = sign_token c t.kind t.spelling (and_parts (is_sign c t.kind) _ h).0
begins_first finish [] h = refl
begins_first finish (t ∷ ts) h = absurd (false≢true h)

-- pairs with other second signs, and a pair where its first sign stands alone
abbrev pub pairs_apart : Ahead → Ahead → Bool
pairs_apart (pair c d) (pair e f) = not (d == f)
pairs_apart (pair c d) (lone e f) = d == f
pairs_apart (lone c d) (pair e f) = d == f
pairs_apart a b = false

-- no list begins with both
unfoldable pub apart : Ahead → Ahead → Bool
apart a b = firsts_apart (first_of a) (first_of b) || pairs_apart a b

-- such lists begin with one of the two only
pairs_apart_sound : (a b : Ahead) (ts : Tokens) → pairs_apart a b ≡ true → begins a ts ≡ true → begins b ts ≡ false
pairs_apart_sound (pair c d) (pair e f) ts h is = false_from_ne_true (begins_pair e f ts) (λ other.
    both_ways (d == f) (not-true (d == f) h) (eq-eqb d f (one_pair c d e f ts is other)))
pairs_apart_sound (pair c d) (lone e f) ts h is = subst (λ x. begins_lone e x ts ≡ false) (eqb-true d f h) (pair_no_lone c d e ts is)
pairs_apart_sound (lone c d) (pair e f) ts h is = false_from_ne_true (begins_pair e f ts) (λ other.
    both_ways (begins_lone c d ts) (subst (λ x. begins_lone c x ts ≡ false) (sym (eqb-true d f h)) (pair_no_lone e f c ts other)) is)
pairs_apart_sound a b ts h is = absurd (false≢true h)

-- What begins with the one doesn't begin with the other.
pub apart_sound : (a b : Ahead) (ts : Tokens) → apart a b ≡ true → begins a ts ≡ true → begins b ts ≡ false
unfolding apart
apart_sound a b ts h is = ⊎_elim
    (λ first. false_from_ne_true (begins b ts) (λ other.
    both_ways (has_first (first_of b) ts) (firsts_apart_sound (first_of a) (first_of b) ts first (begins_first a ts is)) (begins_first b ts other)))
    (λ second. pairs_apart_sound a b ts second is)
    (or_cases (firsts_apart (first_of a) (first_of b)) (pairs_apart a b) h)

-- what begins so begins with the other too
unfoldable pub within : Ahead → Ahead → Bool
within (one asked) (one wider) = is_within (set_of asked) (set_of wider)
within (start b) (start c) = same_bracket b c
within (stop b) (stop c) = same_bracket b c
within doc doc = true
within (pair c d) (pair e f) = (c == e) && (d == f)
within (pair c d) (lone e f) = (c == e) && not (d == f)
within (pair c d) (one asked) = is_within (only_signs (c ∷ [])) (set_of asked)
within (lone c d) (lone e f) = (c == e) && (d == f)
within (lone c d) (one asked) = is_within (only_signs (c ∷ [])) (set_of asked)
within finish finish = true
within a b = false

-- a list that begins with that sign, where the set has it
set_seen : (c : ℕ) (s : TokenSet) (ts : Tokens) → is_within (only_signs (c ∷ [])) s ≡ true → has_first (in_set (only_signs (c ∷ []))) ts ≡ true
    → has_first (in_set s) ts ≡ true
set_seen c s [] h is = absurd (false≢true is)
set_seen c s (t ∷ ts) h is = within_sound (only_signs (c ∷ [])) s t.kind t.spelling h is

-- a list that begins with that terminal's set begins with that terminal
one_seen : (asked : Terminal) (ts : Tokens) → has_first (in_set (set_of asked)) ts ≡ true → begins (one asked) ts ≡ true
unfolding sees accepts
one_seen asked [] h = absurd (false≢true h)
one_seen asked (t ∷ ts) h = h

-- a sign that is joint with another than f stands alone before f
lone_before : (c d f : ℕ) (ts : Tokens) → (d == f) ≡ false → begins_pair c d ts ≡ true → begins_lone c f ts ≡ true
unfolding begins_pair begins_lone
lone_before c d f [] differ is = absurd (false≢true is)
lone_before c d f (t ∷ []) differ is = absurd (false≢true is)
lone_before c d f (t ∷ u ∷ ts) differ is =
    let parts = and_parts (is_joint c t.kind) (is_sign d u.kind) is in
    and_from (is_sign c t.kind) _ (joint_sign c t.kind parts.0) (ap not (and_right (is_joint c t.kind) (is_sign f u.kind)
    (false_from_ne_true (is_sign f u.kind) (λ other. both_ways (d == f) differ (eq-eqb d f (one_sign d f u.kind parts.1 other))))))

-- What begins with the narrower begins with the wider.
pub within_ahead : (a b : Ahead) (ts : Tokens) → within a b ≡ true → begins a ts ≡ true → begins b ts ≡ true
unfolding within
within_ahead (one asked) (one wider) ts h is = one_seen wider ts (seen_wider ts (begins_first (one asked) ts is))
  where
    seen_wider : (ts : Tokens) → has_first (in_set (set_of asked)) ts ≡ true → has_first (in_set (set_of wider)) ts ≡ true
    seen_wider [] first = absurd (false≢true first)
    seen_wider (t ∷ ts) first = within_sound (set_of asked) (set_of wider) t.kind t.spelling h first
within_ahead (start b) (start c) ts h is = subst (λ d. begins (start d) ts ≡ true) (bracket_is b c h) is
within_ahead (stop b) (stop c) ts h is = subst (λ d. begins (stop d) ts ≡ true) (bracket_is b c h) is
within_ahead doc doc ts h is = is
within_ahead (pair c d) (pair e f) ts h is =
    let parts = and_parts (c == e) (d == f) h in
    subst (λ x. begins_pair x f ts ≡ true) (eqb-true c e parts.0) (subst (λ x. begins_pair c x ts ≡ true) (eqb-true d f parts.1) is)
within_ahead (pair c d) (lone e f) ts h is =
    let parts = and_parts (c == e) (not (d == f)) h in
    subst (λ x. begins_lone x f ts ≡ true) (eqb-true c e parts.0) (lone_before c d f ts (not-true (d == f) parts.1) is)
within_ahead (pair c d) (one asked) ts h is = one_seen asked ts (set_seen c (set_of asked) ts h (begins_first (pair c d) ts is))
within_ahead (lone c d) (lone e f) ts h is =
    let parts = and_parts (c == e) (d == f) h in
    subst (λ x. begins_lone x f ts ≡ true) (eqb-true c e parts.0) (subst (λ x. begins_lone c x ts ≡ true) (eqb-true d f parts.1) is)
within_ahead (lone c d) (one asked) ts h is = one_seen asked ts (set_seen c (set_of asked) ts h (begins_first (lone c d) ts is))
within_ahead finish finish ts h is = is
within_ahead a b ts h is = absurd (false≢true h)

-- ---- one behind the other

-- how many tokens it takes: two, where it is a pair
abbrev pub is_pair : Ahead → Bool
is_pair (pair c d) = true
is_pair a = false

-- both take one token, or both take two
abbrev pub takes_alike : Ahead → Ahead → Bool
takes_alike a b = beq (is_pair a) (is_pair b)

-- what is left behind two tokens, or behind one
abbrev left_behind : Bool → Tokens → Tokens
left_behind two [] = []
left_behind true (t ∷ []) = []
left_behind true (t ∷ u ∷ ts) = ts
left_behind false (t ∷ ts) = ts

-- what is left behind a beginning is what is left behind one or two tokens
behind_is : (a : Ahead) (ts : Tokens) → behind a ts ≡ left_behind (is_pair a) ts
unfolding behind
behind_is (pair c d) [] = refl
behind_is (pair c d) (t ∷ []) = refl
behind_is (pair c d) (t ∷ u ∷ ts) = refl
behind_is a [] = refl
behind_is a (t ∷ ts) = refl

-- behind beginnings that take as many tokens the same is left
pub same_behind : (a b : Ahead) (ts : Tokens) → takes_alike a b ≡ true → behind a ts ≡ behind b ts
same_behind a b ts h = behind_is a ts ∙ ap (λ two. left_behind two ts) (alike (is_pair a) (is_pair b) h) ∙ sym (behind_is b ts)
  where
    alike : (x y : Bool) → beq x y ≡ true → x ≡ y
    alike true true h = refl
    alike true false h = absurd (false≢true h)
    alike false true h = absurd (false≢true h)
    alike false false h = refl

-- no list begins with both rows
unfoldable pub ways_apart : List Ahead → List Ahead → Bool
ways_apart [] way = false
ways_apart (a ∷ more) [] = false
ways_apart (a ∷ more) (b ∷ others) = apart a b || (takes_alike a b && ways_apart more others)

-- what begins with the first row begins with the other too
unfoldable pub way_within : List Ahead → List Ahead → Bool
way_within way [] = true
way_within [] (b ∷ others) = false
way_within (a ∷ more) (b ∷ []) = within a b
way_within (a ∷ more) (b ∷ c ∷ others) = within a b && (takes_alike a b && way_within more (c ∷ others))

-- What begins with the one row doesn't begin with the other.
pub ways_apart_sound : (ts : Tokens) (way other : List Ahead) → ways_apart way other ≡ true → meets way ts ≡ true → meets other ts ≡ false
unfolding ways_apart
ways_apart_sound ts [] other h is = absurd (false≢true h)
ways_apart_sound ts (a ∷ more) [] h is = absurd (false≢true h)
ways_apart_sound ts (a ∷ more) (b ∷ others) h is =
    let met = and_parts (begins a ts) (meets more (behind a ts)) is in ⊎_elim
    (λ here. and_left (begins b ts) (meets others (behind b ts)) (apart_sound a b ts here met.0))
    (λ there. let parts = and_parts (takes_alike a b) (ways_apart more others) there in
    and_right (begins b ts) (meets others (behind b ts)) (subst (λ us. meets others us ≡ false) (same_behind a b ts parts.0)
    (ways_apart_sound (behind a ts) more others parts.1 met.1)))
    (or_cases (apart a b) _ h)

-- What begins with the narrower row begins with the wider.
pub way_within_sound : (ts : Tokens) (way other : List Ahead) → way_within way other ≡ true → meets way ts ≡ true → meets other ts ≡ true
unfolding way_within
way_within_sound ts way [] h is = refl
way_within_sound ts [] (b ∷ others) h is = absurd (false≢true h)
way_within_sound ts (a ∷ more) (b ∷ []) h is = and_from (begins b ts) true (within_ahead a b ts h (and_parts (begins a ts) (meets more (behind a ts)) is).0) refl
way_within_sound ts (a ∷ more) (b ∷ c ∷ others) h is =
    let met = and_parts (begins a ts) (meets more (behind a ts)) is in
    let here = and_parts (within a b) _ h in
    let there = and_parts (takes_alike a b) (way_within more (c ∷ others)) here.1 in
    and_from (begins b ts) (meets (c ∷ others) (behind b ts)) (within_ahead a b ts here.0 met.0)
    (subst (λ us. meets (c ∷ others) us ≡ true) (same_behind a b ts there.0) (way_within_sound (behind a ts) more (c ∷ others) there.1 met.1))

-- ---- several beginnings

-- no list begins with one of the first and one of the others
unfoldable pub all_apart : Look → Look → Bool
all_apart l m = list_all (λ way. list_all (ways_apart way) m) l

-- what begins with one of the first begins with one of the others
unfoldable pub all_within : Look → Look → Bool
all_within l m = list_all (λ way. list_any (way_within way) m) l

-- What begins with one of the first begins with none of the others.
pub all_apart_sound : (l m : Look) (ts : Tokens) → all_apart l m ≡ true → sees_any l ts ≡ true → sees_any m ts ≡ false
unfolding all_apart sees_any
all_apart_sound l m ts h is = fails_everywhere ways_apart (λ way. meets way ts) (λ way. meets way ts) (ways_apart_sound ts) l m h is

-- What begins with one of the first begins with one of the others.
pub all_within_sound : (l m : Look) (ts : Tokens) → all_within l m ≡ true → sees_any l ts ≡ true → sees_any m ts ≡ true
unfolding all_within sees_any
all_within_sound l m ts h is = holds_too way_within (λ way. meets way ts) (λ way. meets way ts) (way_within_sound ts) l m h is
