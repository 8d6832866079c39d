-- Lists of tokens that are equal aside: which tests on their first tokens answer the same.
use Rattle.std.proofs.Common.{◌≡◌, ℕ, zero, suc, ◌-◌, Bool, true, false, ◌&&◌, ◌||◌, List, [], ◌∷◌, length, map, take, drop, refl, ap, sym, subst, ◌∙◌, ⊎_elim}
use Rattle.std.specs.List.{list_all, list_any}
use Rattle.std.proofs.lemmas.Bool.{false≢true, both_ways, and_parts, and_from, or_cases, or_left, or_right}
use Rattle.educe_tokens.specs.Bracket.{Bracket}
use Rattle.educe_tokens.specs.TokenKind.{TokenKind}
use Rattle.educe_tokens.specs.TokenKind.TheVariants as kind
use Rattle.educe_tokens.specs.declared.token.Token.{Token}
use Rattle.educe_tokens.specs.Lexes.{Lexeme}
use Rattle.educe_tokens.proofs.Lists.{cons_parts, nil_not_cons}
use Rattle.educe_grammar.specs.declared.terminal.Terminal.{Terminal}
use Rattle.educe_grammar.specs.declared.terminal.Terminal.TheVariants.{Sign}
use Rattle.educe_grammar.specs.Terminals.{TokenSet, set_of, token_in, accepts}
use Rattle.educe_grammar.specs.Steps.{Tokens, since}
use Rattle.educe_grammar.specs.Ahead.{is_sign, is_joint, is_start, is_stop, is_doc, opens, closes, documents, begins_pair, begins_lone, sees, at_end, Ahead, one, start, stop, doc, pair, lone, finish, begins, behind, meets, Look, sees_any}
use Rattle.educe_grammar.specs.Combining.{at_colons}
use Rattle.educe_grammar.specs.Alike.{kind_aside, lexeme_aside, lexemes_aside, AreEqualAside}
use Rattle.educe_grammar.proofs.TokenKinds.{sign_token, joint_sign}
use Rattle.educe_grammar.proofs.Deciding.{seen_at}
use Rattle.educe_grammar.proofs.Apart.{all_apart, all_apart_sound, way_within, way_within_sound}

-- ---- lists

-- equal lists have equal first tokens
pub aside_first : (t u : Token) (ts us : Tokens) → AreEqualAside (t ∷ ts) (u ∷ us) → lexeme_aside t ≡ lexeme_aside u
aside_first t u ts us same = (cons_parts _ _ _ _ same).0

-- equal lists have equal rests
pub aside_rest : (t u : Token) (ts us : Tokens) → AreEqualAside (t ∷ ts) (u ∷ us) → AreEqualAside ts us
aside_rest t u ts us same = (cons_parts _ _ _ _ same).1

-- equal tokens before equal lists
pub aside_more : (t u : Token) (ts us : Tokens) → lexeme_aside t ≡ lexeme_aside u → AreEqualAside ts us → AreEqualAside (t ∷ ts) (u ∷ us)
aside_more t u ts us first same = ap (λ l. l ∷ lexemes_aside ts) first ∙ ap (λ ls. lexeme_aside u ∷ ls) same

-- no list is empty where the other isn't
pub aside_empty : (t : Token) (ts : Tokens) → AreEqualAside [] (t ∷ ts) → ⊥
aside_empty t ts same = nil_not_cons (lexeme_aside t) (lexemes_aside ts) same

-- lists that are written another way
pub aside_as : {ts us vs ws : Tokens} → ts ≡ vs → us ≡ ws → AreEqualAside ts us → AreEqualAside vs ws
aside_as e f same = sym (ap lexemes_aside e) ∙ same ∙ ap lexemes_aside f

-- without the first tokens
pub aside_drop : (n : ℕ) (ts us : Tokens) → AreEqualAside ts us → AreEqualAside (drop n ts) (drop n us)
aside_drop zero ts us same = same
aside_drop (suc n) [] [] same = same
aside_drop (suc n) [] (u ∷ us) same = absurd (aside_empty u us same)
aside_drop (suc n) (t ∷ ts) [] same = absurd (aside_empty t ts (sym same))
aside_drop (suc n) (t ∷ ts) (u ∷ us) same = aside_drop n ts us (aside_rest t u ts us same)

-- the first tokens alone
aside_take : (n : ℕ) (ts us : Tokens) → AreEqualAside ts us → AreEqualAside (take n ts) (take n us)
aside_take zero ts us same = refl
aside_take (suc n) [] [] same = same
aside_take (suc n) [] (u ∷ us) same = absurd (aside_empty u us same)
aside_take (suc n) (t ∷ ts) [] same = absurd (aside_empty t ts (sym same))
aside_take (suc n) (t ∷ ts) (u ∷ us) same = aside_more t u (take n ts) (take n us) (aside_first t u ts us same) (aside_take n ts us (aside_rest t u ts us same))

-- they are of one length
aside_length : (ts us : Tokens) → AreEqualAside ts us → length ts ≡ length us
aside_length [] [] same = refl
aside_length [] (u ∷ us) same = absurd (aside_empty u us same)
aside_length (t ∷ ts) [] same = absurd (aside_empty t ts (sym same))
aside_length (t ∷ ts) (u ∷ us) same = ap suc (aside_length ts us (aside_rest t u ts us same))

-- what was read of them, where what is left of them is equal
pub aside_since : (ts us rest left : Tokens) → AreEqualAside ts us → AreEqualAside rest left → AreEqualAside (since ts rest) (since us left)
unfolding since
aside_since ts us rest left same behind =
    let n : length ts - length rest ≡ length us - length left = λ i. aside_length ts us same i - aside_length rest left behind i in
    subst (λ n. AreEqualAside (take (length ts - length rest) ts) (take n us)) n (aside_take (length ts - length rest) ts us same)

-- ---- single tokens

-- a test that takes no account of jointness answers the same
same_test : (f : TokenKind → List ℕ → Bool) → ((k : TokenKind) (text : List ℕ) → f k text ≡ f (kind_aside k) text) → (t u : Token) → lexeme_aside t ≡ lexeme_aside u
    → f t.kind t.spelling ≡ f u.kind u.spelling
same_test f aside t u same = aside t.kind t.spelling ∙ ap (λ (l : Lexeme). f l.kind l.spelling) same ∙ sym (aside u.kind u.spelling)

-- a set of tokens takes none
set_aside : (set : TokenSet) (k : TokenKind) (text : List ℕ) → token_in set k text ≡ token_in set (kind_aside k) text
set_aside set (kind.Punct c joint) text = refl
set_aside set kind.Ident text = refl
set_aside set kind.Lifetime text = refl
set_aside set (kind.Literal l) text = refl
set_aside set (kind.Start b) text = refl
set_aside set (kind.Stop b) text = refl
set_aside set kind.Doc text = refl

-- the test of an opening bracket doesn't take account of jointness
start_aside : (b : Bracket) (k : TokenKind) (text : List ℕ) → is_start b k ≡ is_start b (kind_aside k)
start_aside b (kind.Punct c joint) text = refl
start_aside b kind.Ident text = refl
start_aside b kind.Lifetime text = refl
start_aside b (kind.Literal l) text = refl
start_aside b (kind.Start c) text = refl
start_aside b (kind.Stop c) text = refl
start_aside b kind.Doc text = refl

-- of a closing one
stop_aside : (b : Bracket) (k : TokenKind) (text : List ℕ) → is_stop b k ≡ is_stop b (kind_aside k)
stop_aside b (kind.Punct c joint) text = refl
stop_aside b kind.Ident text = refl
stop_aside b kind.Lifetime text = refl
stop_aside b (kind.Literal l) text = refl
stop_aside b (kind.Start c) text = refl
stop_aside b (kind.Stop c) text = refl
stop_aside b kind.Doc text = refl

-- or of documentation
doc_aside : (k : TokenKind) (text : List ℕ) → is_doc k ≡ is_doc (kind_aside k)
doc_aside (kind.Punct c joint) text = refl
doc_aside kind.Ident text = refl
doc_aside kind.Lifetime text = refl
doc_aside (kind.Literal l) text = refl
doc_aside (kind.Start b) text = refl
doc_aside (kind.Stop b) text = refl
doc_aside kind.Doc text = refl

-- a token that is asked for
pub accepts_same : (asked : Terminal) (t u : Token) → lexeme_aside t ≡ lexeme_aside u → accepts asked t ≡ accepts asked u
unfolding accepts
accepts_same asked t u same = same_test (token_in (set_of asked)) (set_aside (set_of asked)) t u same

-- a test of the first token
pub sees_same : (test : Token → Bool) → ((t u : Token) → lexeme_aside t ≡ lexeme_aside u → test t ≡ test u) → (ts us : Tokens) → AreEqualAside ts us → sees test ts ≡ sees test us
unfolding sees
sees_same test alike [] [] same = refl
sees_same test alike [] (u ∷ us) same = absurd (aside_empty u us same)
sees_same test alike (t ∷ ts) [] same = absurd (aside_empty t ts (sym same))
sees_same test alike (t ∷ ts) (u ∷ us) same = alike t u (aside_first t u ts us same)

-- the test of the end
end_same : (ts us : Tokens) → AreEqualAside ts us → at_end ts ≡ at_end us
unfolding at_end
end_same [] [] same = refl
end_same [] (u ∷ us) same = absurd (aside_empty u us same)
end_same (t ∷ ts) [] same = absurd (aside_empty t ts (sym same))
end_same (t ∷ ts) (u ∷ us) same = refl

-- ---- beginnings that take no account of jointness

-- no operator is looked for
abbrev is_steady_at : Ahead → Bool
is_steady_at (one asked) = true
is_steady_at (start b) = true
is_steady_at (stop b) = true
is_steady_at doc = true
is_steady_at (pair c d) = false
is_steady_at (lone c d) = false
is_steady_at finish = true

-- in none of these beginnings
unfoldable pub is_steady : Look → Bool
is_steady look = list_all (λ way. list_all is_steady_at way) look

-- such a beginning is seen in both lists
begins_same : (a : Ahead) (ts us : Tokens) → is_steady_at a ≡ true → AreEqualAside ts us → begins a ts ≡ begins a us
begins_same (one asked) ts us steady same = sees_same (accepts asked) (accepts_same asked) ts us same
begins_same (start b) ts us steady same = sees_same (opens b) (same_test (λ k text. is_start b k) (start_aside b)) ts us same
begins_same (stop b) ts us steady same = sees_same (closes b) (same_test (λ k text. is_stop b k) (stop_aside b)) ts us same
begins_same doc ts us steady same = sees_same documents (same_test (λ k text. is_doc k) doc_aside) ts us same
begins_same (pair c d) ts us steady same = absurd (false≢true steady)
begins_same (lone c d) ts us steady same = absurd (false≢true steady)
begins_same finish ts us steady same = end_same ts us same

-- behind it stands the list without its first token
one_behind : (a : Ahead) (ts : Tokens) → is_steady_at a ≡ true → behind a ts ≡ drop 1 ts
unfolding behind
one_behind (one asked) [] steady = refl
one_behind (one asked) (t ∷ ts) steady = refl
one_behind (start b) [] steady = refl
one_behind (start b) (t ∷ ts) steady = refl
one_behind (stop b) [] steady = refl
one_behind (stop b) (t ∷ ts) steady = refl
one_behind doc [] steady = refl
one_behind doc (t ∷ ts) steady = refl
one_behind (pair c d) ts steady = absurd (false≢true steady)
one_behind (lone c d) ts steady = absurd (false≢true steady)
one_behind finish [] steady = refl
one_behind finish (t ∷ ts) steady = refl

-- what stands behind it is equal aside
behind_same : (a : Ahead) (ts us : Tokens) → is_steady_at a ≡ true → AreEqualAside ts us → AreEqualAside (behind a ts) (behind a us)
behind_same a ts us steady same = aside_as (sym (one_behind a ts steady)) (sym (one_behind a us steady)) (aside_drop 1 ts us same)

-- a sequence of steady tests agrees on equal lists
meets_same : (way : List Ahead) (ts us : Tokens) → list_all is_steady_at way ≡ true → AreEqualAside ts us → meets way ts ≡ meets way us
meets_same [] ts us steady same = refl
meets_same (a ∷ more) ts us steady same =
    let w = and_parts (is_steady_at a) _ steady in
    ap (λ b. b && meets more (behind a ts)) (begins_same a ts us w.0 same)
    ∙ ap (λ b. begins a us && b) (meets_same more (behind a ts) (behind a us) w.1 (behind_same a ts us w.0 same))

-- a steady lookahead agrees on equal lists
pub steady_same : (look : Look) (ts us : Tokens) → is_steady look ≡ true → AreEqualAside ts us → sees_any look ts ≡ sees_any look us
unfolding is_steady sees_any
steady_same [] ts us steady same = refl
steady_same (way ∷ more) ts us steady same =
    let w = and_parts (list_all is_steady_at way) _ steady in
    ap (λ b. b || list_any (λ way. meets way ts) more) (meets_same way ts us w.0 same) ∙ ap (λ b. meets way us || b) (steady_same more ts us w.1 same)

-- ---- beginnings without account of jointness

-- the row without account of it
unfoldable pub loosened : List Ahead → List Ahead
loosened [] = []
loosened (one asked ∷ more) = one asked ∷ loosened more
loosened (start b ∷ more) = start b ∷ loosened more
loosened (stop b ∷ more) = stop b ∷ loosened more
loosened (doc ∷ more) = doc ∷ loosened more
loosened (pair c d ∷ more) = one (Sign c) ∷ one (Sign d) ∷ loosened more
loosened (lone c d ∷ more) = one (Sign c) ∷ loosened more
loosened (finish ∷ more) = finish ∷ loosened more

-- the beginnings without account of it
unfoldable pub loose : Look → Look
loose look = map loosened look

-- takes none
loosened_steady : (way : List Ahead) → list_all is_steady_at (loosened way) ≡ true
unfolding loosened
loosened_steady [] = refl
loosened_steady (one asked ∷ more) = loosened_steady more
loosened_steady (start b ∷ more) = loosened_steady more
loosened_steady (stop b ∷ more) = loosened_steady more
loosened_steady (doc ∷ more) = loosened_steady more
loosened_steady (pair c d ∷ more) = loosened_steady more
loosened_steady (lone c d ∷ more) = loosened_steady more
loosened_steady (finish ∷ more) = loosened_steady more

-- a loosened lookahead takes no account of jointness
loose_steady : (look : Look) → is_steady (loose look) ≡ true
unfolding is_steady loose
loose_steady [] = refl
loose_steady (way ∷ more) = and_from (list_all is_steady_at (loosened way)) _ (loosened_steady way) (loose_steady more)

-- a first token that is this sign, and what stands behind it
sign_then : (c : ℕ) (t : Token) (rest : Bool) → is_sign c t.kind ≡ true → rest ≡ true → (accepts (Sign c) t && rest) ≡ true
unfolding accepts
sign_then c t rest is more = and_from (accepts (Sign c) t) rest (sign_token c t.kind t.spelling is) more

-- where the row is seen, so is it without account of jointness
loosened_seen : (way : List Ahead) (ts : Tokens) → meets way ts ≡ true → meets (loosened way) ts ≡ true
unfolding loosened behind sees begins_pair begins_lone
loosened_seen [] ts h = refl
loosened_seen (one asked ∷ more) ts h = let w = and_parts _ _ h in and_from _ _ w.0 (loosened_seen more (behind (one asked) ts) w.1)
loosened_seen (start b ∷ more) ts h = let w = and_parts _ _ h in and_from _ _ w.0 (loosened_seen more (behind (start b) ts) w.1)
loosened_seen (stop b ∷ more) ts h = let w = and_parts _ _ h in and_from _ _ w.0 (loosened_seen more (behind (stop b) ts) w.1)
loosened_seen (doc ∷ more) ts h = let w = and_parts _ _ h in and_from _ _ w.0 (loosened_seen more (behind doc ts) w.1)
loosened_seen (finish ∷ more) ts h = let w = and_parts _ _ h in and_from _ _ w.0 (loosened_seen more (behind finish ts) w.1)
loosened_seen (pair c d ∷ more) [] h = absurd (false≢true h)
loosened_seen (pair c d ∷ more) (t ∷ []) h = absurd (false≢true h)
loosened_seen (pair c d ∷ more) (t ∷ u ∷ ts) h =
    let w = and_parts (is_joint c t.kind && is_sign d u.kind) _ h in
    let v = and_parts (is_joint c t.kind) (is_sign d u.kind) w.0 in
    sign_then c t _ (joint_sign c t.kind v.0) (sign_then d u _ v.1 (loosened_seen more ts w.1))
loosened_seen (lone c d ∷ more) [] h = absurd (false≢true h)
loosened_seen (lone c d ∷ more) (t ∷ ts) h =
    let w = and_parts (begins_lone c d (t ∷ ts)) _ h in sign_then c t _ (and_parts (is_sign c t.kind) _ w.0).0 (loosened_seen more ts w.1)

-- where a lookahead is seen, it is also seen without account of jointness
loose_seen : (look : Look) (ts : Tokens) → sees_any look ts ≡ true → sees_any (loose look) ts ≡ true
unfolding loose sees_any
loose_seen [] ts h = absurd (false≢true h)
loose_seen (way ∷ more) ts h =
    ⊎_elim (λ here. or_left _ _ (loosened_seen way ts here)) (λ there. or_right (meets (loosened way) ts) _ (loose_seen more ts there)) (or_cases (meets way ts) _ h)

-- no two lists that are equal aside begin with one of the first and one of the others
unfoldable pub apart_aside : Look → Look → Bool
apart_aside l m = all_apart (loose l) (loose m)

-- What begins with one of the first begins with none of the others, in a list that is equal aside.
pub apart_aside_sound : (l m : Look) (ts us : Tokens) → apart_aside l m ≡ true → AreEqualAside ts us → sees_any l ts ≡ true → sees_any m us ≡ true → ⊥
unfolding apart_aside
apart_aside_sound l m ts us h same first second =
    both_ways (sees_any (loose m) ts) (all_apart_sound (loose l) (loose m) ts h (loose_seen l ts first)) (steady_same (loose m) ts us (loose_steady m) same ∙ loose_seen m us second)

-- each of the beginnings has `::` first, or no colon
unfoldable pub colons_settled : Look → Bool
colons_settled [] = true
colons_settled (way ∷ more) = (way_within way (pair 58 58 ∷ []) || apart_aside at_colons (way ∷ [])) && colons_settled more

-- one row that is seen
way_seen : (way : List Ahead) (ts : Tokens) → meets way ts ≡ true → sees_any (way ∷ []) ts ≡ true
unfolding sees_any
way_seen way ts h = or_left (meets way ts) false h

-- Before such beginnings `::` stands in both lists or in neither.
pub colons_settled_sound : (l : Look) (ts us : Tokens) → colons_settled l ≡ true → AreEqualAside ts us → begins_pair 58 58 ts ≡ true → begins_pair 58 58 us ≡ false → sees_any l us ≡ true → ⊥
unfolding colons_settled sees_any
colons_settled_sound [] ts us h same is other seen = false≢true seen
colons_settled_sound (way ∷ more) ts us h same is other seen =
    let w = and_parts _ _ h in
    ⊎_elim
    (λ here. ⊎_elim
    (λ within. both_ways (begins_pair 58 58 us) other (and_parts (begins_pair 58 58 us) true (way_within_sound us way (pair 58 58 ∷ []) within here)).0)
    (λ apart. apart_aside_sound at_colons (way ∷ []) ts us apart same (seen_at (pair 58 58) ts ∙ is) (way_seen way us here))
    (or_cases (way_within way (pair 58 58 ∷ [])) _ w.0))
    (λ there. colons_settled_sound more ts us w.1 same is other there)
    (or_cases (meets way us) _ seen)
