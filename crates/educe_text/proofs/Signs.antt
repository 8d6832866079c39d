-- Lists that match signs begin with the tokens that agree, and with none that differ.
use Rattle.std.proofs.Common.{◌≡◌, inl, inr, ℕ, Bool, true, false, List, [], ◌∷◌, ◌++◌, None, refl, ap, sym, ◌∙◌}
use Rattle.std.specs.Prelude.{if◌then◌else◌, map}
use Rattle.std.specs.List.{list_all}
use Rattle.std.proofs.lemmas.Bool.{false≢true, and_parts}
use Rattle.educe_tokens.specs.declared.token.Token.{Token}
use Rattle.educe_tokens.specs.Lexes.{Lexeme, lexeme_of}
use Rattle.educe_tokens.specs.Quote.{quoted}
use Rattle.educe_text.specs.Prefixes.{Tokens, same_lexeme, is_some, strip_lexemes, starts_with}
use Rattle.educe_text.specs.Signs.{Sign, exactly, passing, passes, Matches, MatchesOne, agrees, differs, is_sign, Follower, anything, only, MayFollow, begins_with, may_follow}
use Rattle.educe_text.proofs.Prefixes.{lexeme_same}

-- a list that matches what agrees begins so
agrees_hit : (ls : List Lexeme) (ss : List Sign) (ts : Tokens) → agrees ls ss ≡ true → Matches ss ts → is_some (strip_lexemes ls ts) ≡ true
unfolding strip_lexemes
agrees_hit [] ss ts h m = refl
agrees_hit (l ∷ ls) [] ts h m = absurd (false≢true h)
agrees_hit (l ∷ ls) (exactly k ∷ ss) [] h m = absurd m
agrees_hit (l ∷ ls) (exactly k ∷ ss) (t ∷ ts) h m =
    let w = and_parts (same_lexeme l k) (agrees ls ss) h in
    let same : same_lexeme l (lexeme_of t) ≡ true = ap (λ k. same_lexeme k (lexeme_of t)) (lexeme_same l k w.0) ∙ m.0 in
    rw same (agrees_hit ls ss ts w.1 m.1)
agrees_hit (l ∷ ls) (passing test ∷ ss) ts h m = absurd (false≢true h)

-- a list that matches what differs doesn't
differs_miss : (ls : List Lexeme) (ss : List Sign) (ts : Tokens) → differs ls ss ≡ true → Matches ss ts → is_some (strip_lexemes ls ts) ≡ false
unfolding strip_lexemes
differs_miss [] ss ts h m = absurd (false≢true h)
differs_miss (l ∷ ls) [] ts h m = absurd (false≢true h)
differs_miss (l ∷ ls) (s ∷ ss) [] h m = absurd m
differs_miss (l ∷ ls) (s ∷ ss) (t ∷ ts) h m = by (same_lexeme l (lexeme_of t)) refl (λ later. differs_miss ls ss ts later m.1)
  where
    by : (b : Bool) → same_lexeme l (lexeme_of t) ≡ b → (differs ls ss ≡ true → is_some (strip_lexemes ls ts) ≡ false) → is_some (if b then strip_lexemes ls ts else None) ≡ false
    by true same more =
        let passed : passes s l ≡ true = ap (passes s) (lexeme_same l (lexeme_of t) same) ∙ m.0 in
        more (sym (ap (λ b. if b then differs ls ss else true) passed) ∙ h)
    by false same more = refl

-- one of several lists of signs matches, so what holds of each holds
one_holds : (P : Type 0) (test : List Sign → Bool) (ts : Tokens) → ((ss : List Sign) → test ss ≡ true → Matches ss ts → P)
    → (all : List (List Sign)) → list_all test all ≡ true → MatchesOne all ts → P
one_holds P test ts each [] h m = absurd m
one_holds P test ts each (ss ∷ all) h (inl m) = each ss (and_parts (test ss) (list_all test all) h).0 m
one_holds P test ts each (ss ∷ all) h (inr m) = one_holds P test ts each all (and_parts (test ss) (list_all test all) h).1 m

pub starts_agreed : (text : List ℕ) (all : List (List Sign)) (ts : Tokens) → list_all (agrees (quoted text)) all ≡ true → MatchesOne all ts → starts_with text ts ≡ true
unfolding starts_with
starts_agreed text all ts = one_holds (is_some (strip_lexemes (quoted text) ts) ≡ true) (agrees (quoted text)) ts (λ ss h m. agrees_hit (quoted text) ss ts h m) all

pub starts_differed : (text : List ℕ) (all : List (List Sign)) (ts : Tokens) → list_all (differs (quoted text)) all ≡ true → MatchesOne all ts → starts_with text ts ≡ false
unfolding starts_with
starts_differed text all ts = one_holds (is_some (strip_lexemes (quoted text) ts) ≡ false) (differs (quoted text)) ts (λ ss h m. differs_miss (quoted text) ss ts h m) all

-- what matches a sign isn't empty
pub no_sign : (all : List (List Sign)) → list_all is_sign all ≡ true → MatchesOne all [] → ⊥
no_sign = one_holds ⊥ is_sign [] each
  where
    each : (ss : List Sign) → is_sign ss ≡ true → Matches ss [] → ⊥
    each [] h m = false≢true h
    each (s ∷ ss) h m = m

-- ---- what may follow a part

follows_by : (test : Lexeme → Bool) (ts : Tokens) (ss : List Sign) → begins_with test ss ≡ true → Matches ss ts → MayFollow (only test) ts
follows_by test ts [] h m = absurd (false≢true h)
follows_by test [] (exactly l ∷ ss) h m = absurd m
follows_by test (t ∷ ts) (exactly l ∷ ss) h m = ap test (sym (lexeme_same l (lexeme_of t) m.0)) ∙ h
follows_by test ts (passing other ∷ ss) h m = absurd (false≢true h)

pub follows : (f : Follower) (all : List (List Sign)) (ts : Tokens) → may_follow f all ≡ true → MatchesOne all ts → MayFollow f ts
follows anything all ts h m = tt
follows (only test) all ts h m = one_holds (MayFollow (only test) ts) (begins_with test) ts (follows_by test ts) all h m

-- ---- matches of more

pub matches_left : (xs ys : List (List Sign)) (ts : Tokens) → MatchesOne xs ts → MatchesOne (xs ++ ys) ts
matches_left [] ys ts m = absurd m
matches_left (ss ∷ xs) ys ts (inl m) = inl m
matches_left (ss ∷ xs) ys ts (inr m) = inr (matches_left xs ys ts m)

pub matches_right : (xs ys : List (List Sign)) (ts : Tokens) → MatchesOne ys ts → MatchesOne (xs ++ ys) ts
matches_right [] ys ts m = m
matches_right (ss ∷ xs) ys ts m = inr (matches_right xs ys ts m)

-- one token more
pub matches_behind : (s : Sign) (t : Token) (ts : Tokens) → passes s (lexeme_of t) ≡ true → (all : List (List Sign)) → MatchesOne all ts → MatchesOne (map (λ ss. s ∷ ss) all) (t ∷ ts)
matches_behind s t ts h [] m = absurd m
matches_behind s t ts h (ss ∷ all) (inl m) = inl (h, m)
matches_behind s t ts h (ss ∷ all) (inr m) = inr (matches_behind s t ts h all m)
