-- Each text of a rule that decides is taken, so a list is the text of at most one value.
use Rattle.std.proofs.Common.{◌≡◌, inl, inr, suc, Bool, true, false, not, ◌&&◌, [], ◌++◌, length, Some, refl, ap, sym, ◌∙◌, IsTrue, arith, append_assoc, length-append}
use Rattle.std.specs.List.{list_all}
use Rattle.std.proofs.lemmas.Bool.{false≢true, and_parts}
use Rattle.educe_tokens.specs.Quote.{quoted}
use Rattle.educe_text.specs.Prefixes.{Tokens}
use Rattle.educe_text.specs.Signs.{is_sign}
use Rattle.educe_text.specs.Rules.{Lookahead, begins, lacks, sees, holds, TextRule, quote, leaf, both, made, checked, either, many, Spells}
use Rattle.educe_text.specs.Taking.{Taken, behind, taken_if, take}
use Rattle.educe_text.specs.FirstSets.{FirstSet, BeginsIn, any_tokens, first_set, all_agree, all_differ, tells, decides, IsAhead, IsTold, TestsTell, is_plain, has_no_test}
use Rattle.educe_text.proofs.Prefixes.{strip_hit}
use Rattle.educe_text.proofs.Signs.{starts_agreed, starts_differed, no_sign, follows, matches_left, matches_right}
use Rattle.educe_text.proofs.FirstSets.{any_begin, begins as text_begins}
use Rattle.educe_text.proofs.Repeats.{repeated}

-- a test that passes
taken_hit : {A : Type 0} (b : Bool) (x : A) (rest : Tokens) → IsTrue b → taken_if b x rest ≡ Some (x, rest)
taken_hit true x rest h = refl
taken_hit false x rest h = absurd (false≢true h)

-- ---- lookaheads

look_hit : (look : Lookahead) (one other : FirstSet) (One Other : Tokens → Type 0) → tells look one other ≡ true → IsTold look One Other → (ts : Tokens) → BeginsIn one ts → One ts → holds look ts ≡ true
look_hit (begins text) one other One Other d t ts b h = starts_agreed text (one (length (quoted text))) ts (and_parts (all_agree (quoted text) one) (all_differ (quoted text) other) d).0 (b (length (quoted text)))
look_hit (lacks text) one other One Other d t ts b h = ap not (starts_differed text (one (length (quoted text))) ts (and_parts (all_differ (quoted text) one) (all_agree (quoted text) other) d).0 (b (length (quoted text))))
look_hit (sees test) one other One Other d t ts b h = t.0 ts h

look_miss : (look : Lookahead) (one other : FirstSet) (One Other : Tokens → Type 0) → tells look one other ≡ true → IsTold look One Other → (ts : Tokens) → BeginsIn other ts → Other ts → holds look ts ≡ false
look_miss (begins text) one other One Other d t ts b h = starts_differed text (other (length (quoted text))) ts (and_parts (all_agree (quoted text) one) (all_differ (quoted text) other) d).1 (b (length (quoted text)))
look_miss (lacks text) one other One Other d t ts b h = ap not (starts_agreed text (other (length (quoted text))) ts (and_parts (all_differ (quoted text) one) (all_agree (quoted text) other) d).1 (b (length (quoted text))))
look_miss (sees test) one other One Other d t ts b h = t.1 ts h

-- the list begins with a text, and what may follow
ahead : {A : Type 0} (g : TextRule A) (more : FirstSet) (front rest : Tokens) (x : A) → Spells g front x → BeginsIn more rest → IsAhead g more (front ++ rest)
ahead g more front rest x h f = record { front = front; rest = rest; value = x; same = refl; spells = h; follows = f }

-- of a lookahead that is no test nothing is left to tell
plain : (look : Lookahead) (Yes No : Tokens → Type 0) → is_plain look ≡ true → IsTold look Yes No
plain (begins text) Yes No h = tt
plain (lacks text) Yes No h = tt
plain (sees test) Yes No h = absurd (false≢true h)

-- ---- what stands behind an item that is repeated

-- another
more_begin : {A : Type 0} (g : TextRule A) (look : Lookahead) (more : FirstSet) (front rest : Tokens) (x : A) → Spells g front x → BeginsIn (first_set (many look g) more) (front ++ rest)
unfolding first_set
more_begin g look more front rest x s = λ n. matches_left (first_set g any_tokens n) (more n) (front ++ rest) (text_begins g any_tokens front rest x s (any_begin rest) n)

-- or what follows all of them
last_begins : {A : Type 0} (g : TextRule A) (look : Lookahead) (more : FirstSet) (rest : Tokens) → BeginsIn more rest → BeginsIn (first_set (many look g) more) rest
unfolding first_set
last_begins g look more rest f = λ n. matches_right (first_set g any_tokens n) (more n) rest (f n)

-- ---- rules

pub complete : {A : Type 0} (g : TextRule A) (more : FirstSet) → decides g more ≡ true → TestsTell g more → (front rest : Tokens) (x : A) → Spells g front x → BeginsIn more rest → take g (front ++ rest) ≡ Some (x, rest)
unfolding Spells take decides TestsTell
complete (quote text) more d t front rest x h f = ap behind (strip_hit front rest (quoted text) h)
complete (leaf l) more d t front rest x h f = l.complete front rest x h (follows l.follower (more 1) rest d (f 1))
complete (both g k) more d t front rest x h f =
    let w = and_parts (decides g (first_set k more)) (decides k more) d in
    let e : front ++ rest ≡ h.0 ++ (h.1 ++ rest) = ap (λ ts. ts ++ rest) h.2 ∙ append_assoc h.0 h.1 rest in
    let first = complete g (first_set k more) w.0 t.0 h.0 (h.1 ++ rest) x.0 h.3 (text_begins k more h.1 rest x.1 h.4 f) in
    let second = complete k more w.1 t.1 h.1 rest x.1 h.4 f in
    rw (e, first, second) refl
complete (made e g) more d t front rest x h f = rw (complete g more d t front rest h.0 h.2 f, h.1) refl
complete (checked test g) more d t front rest x h f = rw (complete g more d t front rest x h.1 f) (taken_hit (test x) x rest h.0)
complete (either look g k) more d t front rest x (inl h) f =
    let w = and_parts (decides g more) (decides k more && tells look (first_set g more) (first_set k more)) d in
    let v = and_parts (decides k more) (tells look (first_set g more) (first_set k more)) w.1 in
    let seen = look_hit look (first_set g more) (first_set k more) (IsAhead g more) (IsAhead k more) v.1 t.2 (front ++ rest) (text_begins g more front rest x h f) (ahead g more front rest x h f) in
    rw seen (complete g more w.0 t.0 front rest x h f)
complete (either look g k) more d t front rest x (inr h) f =
    let w = and_parts (decides g more) (decides k more && tells look (first_set g more) (first_set k more)) d in
    let v = and_parts (decides k more) (tells look (first_set g more) (first_set k more)) w.1 in
    let seen = look_miss look (first_set g more) (first_set k more) (IsAhead g more) (IsAhead k more) v.1 t.2 (front ++ rest) (text_begins k more front rest x h f) (ahead k more front rest x h f) in
    rw seen (complete k more v.0 t.1 front rest x h f)
complete (many look g) more d t front rest xs h f =
    let w = and_parts (decides g (first_set (many look g) more)) (list_all is_sign (first_set g any_tokens 1) && tells look (first_set g any_tokens) more) d in
    let v = and_parts (list_all is_sign (first_set g any_tokens 1)) (tells look (first_set g any_tokens) more) w.1 in
    repeated (holds look) (Spells g) (take g) (BeginsIn (first_set (many look g) more)) (BeginsIn more)
    (λ front rest x s n. complete g (first_set (many look g) more) w.0 t.0 front rest x s n)
    (more_begin g look more)
    (last_begins g look more)
    (λ front rest x s. look_hit look (first_set g any_tokens) more (IsAhead g any_tokens) (BeginsIn more) v.1 t.1 (front ++ rest) (text_begins g any_tokens front rest x s (any_begin rest)) (ahead g any_tokens front rest x s (any_begin rest)))
    (λ ts b. look_miss look (first_set g any_tokens) more (IsAhead g any_tokens) (BeginsIn more) v.1 t.1 ts b b)
    (λ x s. no_sign (first_set g any_tokens 1) v.0 (text_begins g any_tokens [] [] x s (any_begin []) 1))
    (suc (length (front ++ rest))) front rest xs h f (omega (arith, length-append front rest))

-- equal outcomes have equal values
taken_same : {A : Type 0} {x y : A} {a b : Tokens} → ◌≡◌ {A = Taken A} (Some (x, a)) (Some (y, b)) → x ≡ y
taken_same {A} {x} {y} {a} {b} h = let e : ◌≡◌ {A = A × Tokens} (x, a) (y, b) = cc in ap (λ p. p.0) e

-- a list is the text of one value
pub unique : {A : Type 0} (g : TextRule A) (more : FirstSet) → decides g more ≡ true → TestsTell g more → (rest tokens : Tokens) (x y : A) → BeginsIn more rest → Spells g tokens x → Spells g tokens y → x ≡ y
unique g more d t rest tokens x y f h k = taken_same (sym (complete g more d t tokens rest x h f) ∙ complete g more d t tokens rest y k f)

-- where no lookahead is a test, nothing is left to tell
pub no_test : {A : Type 0} (g : TextRule A) (more : FirstSet) → has_no_test g ≡ true → TestsTell g more
unfolding TestsTell has_no_test
no_test (quote text) more h = tt
no_test (leaf l) more h = tt
no_test (both g k) more h = let w = and_parts (has_no_test g) (has_no_test k) h in (no_test g (first_set k more) w.0, no_test k more w.1)
no_test (made e g) more h = no_test g more h
no_test (checked test g) more h = no_test g more h
no_test (either look g k) more h =
    let w = and_parts (is_plain look) (has_no_test g && has_no_test k) h in
    let v = and_parts (has_no_test g) (has_no_test k) w.1 in
    (no_test g more v.0, no_test k more v.1, plain look (IsAhead g more) (IsAhead k more) w.0)
no_test (many look g) more h =
    let w = and_parts (is_plain look) (has_no_test g) h in
    (no_test g (first_set (many look g) more) w.1, plain look (IsAhead g any_tokens) (BeginsIn more) w.0)
