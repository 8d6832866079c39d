-- What may stand at the front of what a rule reads, with what stands behind it.
use Rattle.std.proofs.Common.{◌≡◌, ℕ, zero, suc, ◌-◌, Bool, true, false, IsTrue, not, ◌&&◌, ◌||◌, List, [], ◌∷◌, ◌++◌, length, refl, sym, ap, subst, ◌∙◌, ⊎_elim, append_assoc}
use Rattle.std.specs.Prelude.{if◌then◌else◌}
use Rattle.std.proofs.lemmas.Bool.{false≢true, both_ways, and_parts, and_from, and_right, or_cases, or_left, false_from_ne_true}
use Rattle.educe_tokens.specs.Bracket.{Bracket}
use Rattle.educe_tokens.specs.declared.token.Token.{Token}
use Rattle.educe_grammar.specs.declared.terminal.Terminal.{Terminal}
use Rattle.educe_grammar.specs.declared.terminal.Terminal.TheVariants.{Sign}
use Rattle.educe_grammar.specs.Terminals.{accepts}
use Rattle.educe_grammar.specs.Steps.{Tokens, Found}
use Rattle.educe_grammar.specs.Ahead.{is_sign, is_joint, begins_pair, begins_lone, sees, at_end, opens, closes, documents, Ahead, one, start, stop, doc, pair, lone as lone_sign, finish, begins, behind, Look, sees_any}
use Rattle.educe_grammar.specs.Combining.{at, at_sign}
use Rattle.educe_grammar.specs.Rules.{Rule, token, documentation, empty, both, made, checked, either, prefer, operator, lone, binary, nest, angles, under, arrow, list, many, chain, path, sliced, written, part, Part, TreeOf}
use Rattle.educe_grammar.specs.Reading.{Grammar, Parts, Parses, Listed, Repeated, Linked, none, last, more}
use Rattle.educe_grammar.proofs.TokenKinds.{sign_token}
use Rattle.educe_grammar.proofs.Apart.{all_apart, all_apart_sound}
use Rattle.educe_grammar.proofs.Looks.{anything, anything_seen, joined, joined_left, joined_right, all_cut, all_cut_seen, before, before_seen, operator_ways, operator_seen}

-- the beginnings of each part, with what stands behind it
abbrev pub Table : Type 0
Table = Part → Look → Look

-- the table that says nothing
abbrev pub no_table : Table
no_table p l = anything

-- what stands inside of a bracket, where at least three are looked at
abbrev pub deeper : ℕ → (ℕ → Look) → Look
deeper zero inside = anything
deeper (suc zero) inside = anything
deeper (suc (suc zero)) inside = anything
deeper (suc (suc (suc n))) inside = inside (suc (suc n))

-- where what is inside is seen, so is that
deeper_seen : (n : ℕ) (inside : ℕ → Look) (ts : Tokens) → ((m : ℕ) → sees_any (inside m) ts ≡ true) → sees_any (deeper n inside) ts ≡ true
deeper_seen zero inside ts h = anything_seen ts
deeper_seen (suc zero) inside ts h = anything_seen ts
deeper_seen (suc (suc zero)) inside ts h = anything_seen ts
deeper_seen (suc (suc (suc n))) inside ts h = h (suc (suc n))

-- The first so many beginnings of what the rule reads, where one of these stands behind it.
unfoldable pub fronts : ℕ → Table → {A : Type 0} → Rule A → Look → Look
fronts n table (token asked) l = before n (one asked) l
fronts n table documentation l = before n doc l
fronts n table (empty x) l = l
fronts n table (both g h) l = fronts n table g (fronts n table h l)
fronts n table (made f g) l = fronts n table g l
fronts n table (checked test g) l = fronts n table g l
fronts n table (either look g h) l = joined (fronts n table g l) (fronts n table h l)
fronts n table (prefer asked g h) l = joined (fronts n table g l) (fronts n table h l)
fronts n table (operator c d) l = before n (pair c d) l
fronts n table (lone c d g) l =
    before n (if all_apart l (at_sign d) || all_apart (fronts n table g (at finish)) (at finish) then lone_sign c d else one (Sign c)) (fronts n table g l)
fronts n table (binary g) l = all_cut n operator_ways
fronts n table (nest b g) l = before n (start b) (deeper n (λ m. fronts m no_table g (at (stop b))))
fronts n table (angles g) l = before n (lone_sign 60 61) anything
fronts n table (under asked g) l = before n (one asked) anything
fronts n table (arrow g) l = before n (pair 45 62) anything
fronts n table (list separator closing g) l = joined l (fronts n table g (joined (before n (one separator) anything) l))
fronts n table (many look g) l = joined l (fronts n table g anything)
fronts n table (chain look g) l = joined l (fronts n table g anything)
fronts n table (path g) l = fronts n table g (joined (before n (pair 58 58) (fronts n table g anything)) l)
fronts n table (sliced g) l = fronts n table g l
fronts n table (written g) l = fronts n table g l
fronts n table (part p) l = table p l

-- the parts begin as the table says
abbrev pub Obeys : Parts → Table → Type 0
Obeys parts table = (budget : ℕ) (p : Part) (front rest : Tokens) (x : TreeOf p) (l : Look) → parts budget p front x → sees_any l rest ≡ true → sees_any (table p l) (front ++ rest) ≡ true

-- nothing is said, so it holds
pub no_table_obeyed : (parts : Parts) → Obeys parts no_table
no_table_obeyed parts budget p front rest x l h is = anything_seen (front ++ rest)

-- ---- single tokens

-- behind one token stands what is left
one_before : (n : ℕ) (a : Ahead) (t : Token) (rest : Tokens) (l : Look) → behind a (t ∷ rest) ≡ rest → begins a (t ∷ rest) ≡ true → sees_any l rest ≡ true
    → sees_any (before n a l) (t ∷ rest) ≡ true
one_before n a t rest l same first is = before_seen n a l (t ∷ rest) first (subst (λ us. sees_any l us ≡ true) (sym same) is)

-- a token that is asked for, and what stands behind it
token_before : (n : ℕ) (asked : Terminal) (found : Found (accepts asked)) (front rest : Tokens) (l : Look) → front ≡ found.token ∷ [] → sees_any l rest ≡ true
    → sees_any (before n (one asked) l) (front ++ rest) ≡ true
unfolding sees behind
token_before n asked found front rest l is after =
    subst (λ us. sees_any (before n (one asked) l) (us ++ rest) ≡ true) (sym is) (one_before n (one asked) found.token rest l refl found.passes after)

-- documentation, and what stands behind it
doc_before : (n : ℕ) (found : Found documents) (front rest : Tokens) (l : Look) → front ≡ found.token ∷ [] → sees_any l rest ≡ true
    → sees_any (before n doc l) (front ++ rest) ≡ true
unfolding sees behind
doc_before n found front rest l is after =
    subst (λ us. sees_any (before n doc l) (us ++ rest) ≡ true) (sym is) (one_before n doc found.token rest l refl found.passes after)

-- two tokens that are a pair
pair_before : (n c d : ℕ) (front rest : Tokens) (l : Look) → length front ≡ 2 → begins_pair c d front ≡ true → sees_any l rest ≡ true
    → sees_any (before n (pair c d) l) (front ++ rest) ≡ true
unfolding begins_pair behind
pair_before n c d [] rest l two is after = absurd (false≢true is)
pair_before n c d (t ∷ []) rest l two is after = absurd (false≢true is)
pair_before n c d (t ∷ u ∷ []) rest l two is after = before_seen n (pair c d) l (t ∷ u ∷ rest) is after
pair_before n c d (t ∷ u ∷ v ∷ ts) rest l two is after = absurd (cc)

-- a token that is the sign is seen as it
sign_seen : (d : ℕ) (u : Token) (rest : Tokens) → is_sign d u.kind ≡ true → sees (accepts (Sign d)) (u ∷ rest) ≡ true
unfolding sees accepts
sign_seen d u rest h = sign_token d u.kind u.spelling h

-- an empty list is at its end
pub end_is_seen : sees_any (at finish) [] ≡ true
unfolding sees_any at_end
end_is_seen = refl

-- a sign that is alone in the slice is alone in the list, where the slice goes on or the second sign doesn't follow
pub lone_kept : (c d : ℕ) (t : Token) (inside rest : Tokens) → begins_lone c d (t ∷ inside) ≡ true → (inside ≡ [] → sees (accepts (Sign d)) rest ≡ false)
    → begins_lone c d (t ∷ inside ++ rest) ≡ true
unfolding begins_lone begins_pair
lone_kept c d t (u ∷ inside) rest is alone = is
lone_kept c d t [] [] is alone = is
lone_kept c d t [] (u ∷ rest) is alone =
    and_from (is_sign c t.kind) _ (and_parts (is_sign c t.kind) true is).0
    (ap not (and_right (is_joint c t.kind) (is_sign d u.kind) (false_from_ne_true (is_sign d u.kind) (λ other.
    both_ways (sees (accepts (Sign d)) (u ∷ rest)) (alone refl) (sign_seen d u rest other)))))

-- in any case it is the sign
lone_sign_seen : (c d : ℕ) (t : Token) (inside rest : Tokens) → begins_lone c d (t ∷ inside) ≡ true → begins (one (Sign c)) (t ∷ inside ++ rest) ≡ true
unfolding begins_lone
lone_sign_seen c d t inside rest is = sign_seen c t (inside ++ rest) (and_parts (is_sign c t.kind) _ is).0

-- behind both stands what the tests say
lone_before : (n c d : ℕ) (test : Bool) (t : Token) (inside rest : Tokens) (l : Look) → begins_lone c d (t ∷ inside) ≡ true
    → (test ≡ true → inside ≡ [] → sees (accepts (Sign d)) rest ≡ false) → sees_any l (inside ++ rest) ≡ true
    → sees_any (before n (if test then lone_sign c d else one (Sign c)) l) (t ∷ inside ++ rest) ≡ true
unfolding behind
lone_before n c d true t inside rest l is alone after = one_before n (lone_sign c d) t (inside ++ rest) l refl (lone_kept c d t inside rest is (alone refl)) after
lone_before n c d false t inside rest l is alone after = one_before n (one (Sign c)) t (inside ++ rest) l refl (lone_sign_seen c d t inside rest is) after

-- the list at its end is nothing else
pub at_end_only : (look : Look) → all_apart look (at finish) ≡ true → sees_any look [] ≡ true → ⊥
at_end_only look h is = both_ways (sees_any (at finish) []) (all_apart_sound look (at finish) [] h is) end_is_seen

-- ---- lists

-- a list begins as what stands behind it, or as an item before a separator or before that
listed_seen : {A : Type 0} {Item : Grammar A} {separates : Token → Bool} (l once look : Look)
    → ((front after : Tokens) (x : A) → Item front x → sees_any once after ≡ true → sees_any look (front ++ after) ≡ true)
    → ((t : Token) (ts : Tokens) → IsTrue (separates t) → sees_any once (t ∷ ts) ≡ true) → ((ts : Tokens) → sees_any l ts ≡ true → sees_any once ts ≡ true)
    → (front rest : Tokens) (xs : List A) → Listed Item separates front xs → sees_any l rest ≡ true → sees_any (joined l look) (front ++ rest) ≡ true
listed_seen l once look item separator ends front rest xs none is = joined_left l look rest is
listed_seen l once look item separator ends front rest xs (last {x = x} tokens i) is = joined_right l look (tokens ++ rest) (item tokens rest x i (ends rest is))
listed_seen l once look item separator ends front rest xs (more {x = x} tokens others t i sep tail) is =
    joined_right l look ((tokens ++ t ∷ others) ++ rest) (subst (λ us. sees_any look us ≡ true) (sym (append_assoc tokens (t ∷ others) rest))
    (item tokens (t ∷ others ++ rest) x i (separator t (others ++ rest) sep)))

-- items begin as what stands behind them, or as an item
repeated_seen : {A : Type 0} {Item : Grammar A} (l look : Look) → ((front after : Tokens) (x : A) → Item front x → sees_any look (front ++ after) ≡ true)
    → (front rest : Tokens) (xs : List A) → Repeated Item front xs → sees_any l rest ≡ true → sees_any (joined l look) (front ++ rest) ≡ true
repeated_seen l look item front rest xs none is = joined_left l look rest is
repeated_seen l look item front rest xs (more {x = x} tokens others i tail) is =
    joined_right l look ((tokens ++ others) ++ rest) (subst (λ us. sees_any look us ≡ true) (sym (append_assoc tokens others rest)) (item tokens (others ++ rest) x i))

-- linked items begin as an item
linked_first : {A : Type 0} {Item : Grammar A} (look : Look) → ((front after : Tokens) (x : A) → Item front x → sees_any look (front ++ after) ≡ true)
    → (front rest : Tokens) (xs : List A) → Linked Item front xs → sees_any look (front ++ rest) ≡ true
linked_first look item front rest xs (last {x = x} tokens i) = item tokens rest x i
linked_first look item front rest xs (more {x = x} tokens others t u i pair_is tail) =
    subst (λ us. sees_any look us ≡ true) (sym (append_assoc tokens (t ∷ u ∷ others) rest)) (item tokens (t ∷ u ∷ others ++ rest) x i)

-- or as an item before `::` or before what stands behind them
linked_seen : {A : Type 0} {Item : Grammar A} (l once look : Look)
    → ((front after : Tokens) (x : A) → Item front x → sees_any once after ≡ true → sees_any look (front ++ after) ≡ true)
    → ((t u : Token) (others rest : Tokens) (xs : List A) → begins_pair 58 58 (t ∷ u ∷ others) ≡ true → Linked Item others xs → sees_any once (t ∷ u ∷ others ++ rest) ≡ true)
    → ((ts : Tokens) → sees_any l ts ≡ true → sees_any once ts ≡ true)
    → (front rest : Tokens) (xs : List A) → Linked Item front xs → sees_any l rest ≡ true → sees_any look (front ++ rest) ≡ true
linked_seen l once look item colons ends front rest xs (last {x = x} tokens i) is = item tokens rest x i (ends rest is)
linked_seen l once look item colons ends front rest xs (more {x = x} {xs = ys} tokens others t u i pair_is tail) is =
    subst (λ us. sees_any look us ≡ true) (sym (append_assoc tokens (t ∷ u ∷ others) rest)) (item tokens (t ∷ u ∷ others ++ rest) x i (colons t u others rest ys pair_is tail))

-- ---- brackets

-- one token, and behind it what stands there
first_before : (n : ℕ) (asked : Terminal) (t : Token) (rest : Tokens) (l : Look) → accepts asked t ≡ true → sees_any l rest ≡ true → sees_any (before n (one asked) l) (t ∷ rest) ≡ true
unfolding sees behind
first_before n asked t rest l is after = one_before n (one asked) t rest l refl is after

-- a bracket, and behind it what stands there
bracket_before : (n : ℕ) (b : Bracket) (t : Token) (rest : Tokens) (l : Look) → opens b t ≡ true → sees_any l rest ≡ true → sees_any (before n (start b) l) (t ∷ rest) ≡ true
unfolding sees behind
bracket_before n b t rest l is after = one_before n (start b) t rest l refl is after

-- a closing bracket is seen
closing_seen : (b : Bracket) (t : Token) (rest : Tokens) → closes b t ≡ true → sees_any (at (stop b)) (t ∷ rest) ≡ true
unfolding sees_any sees
closing_seen b t rest is = or_left (closes b t && true) false (and_from (closes b t) true is refl)

-- two tokens that are a pair, and behind them what stands there
two_before : (n c d : ℕ) (t u : Token) (rest : Tokens) (l : Look) → begins_pair c d (t ∷ u ∷ []) ≡ true → sees_any l rest ≡ true → sees_any (before n (pair c d) l) (t ∷ u ∷ rest) ≡ true
unfolding begins_pair behind
two_before n c d t u rest l is after = before_seen n (pair c d) l (t ∷ u ∷ rest) is after

-- of a longer list the first two decide
first_two : (c d : ℕ) (t u : Token) (rest others : Tokens) → begins_pair c d (t ∷ u ∷ rest) ≡ true → begins_pair c d (t ∷ u ∷ others) ≡ true
unfolding begins_pair
first_two c d t u rest others is = is

-- a `<` that stands before something keeps alone
angle_before : (n : ℕ) (t ends : Token) (inside rest : Tokens) → begins_lone 60 61 (t ∷ (inside ++ ends ∷ [])) ≡ true → sees_any (before n (lone_sign 60 61) anything) (t ∷ (inside ++ ends ∷ []) ++ rest) ≡ true
angle_before n t ends inside rest is =
    before_seen n (lone_sign 60 61) anything (t ∷ (inside ++ ends ∷ []) ++ rest)
    (lone_kept 60 61 t (inside ++ ends ∷ []) rest is (λ empty. absurd (not_empty inside ends empty))) (anything_seen _)
  where
    not_empty : (inside : Tokens) (ends : Token) → inside ++ ends ∷ [] ≡ [] → ⊥
    not_empty [] ends h = cc
    not_empty (t ∷ inside) ends h = cc

-- what is looked for isn't seen: so it doesn't stand there
sign_not_seen : (asked : Terminal) (rest : Tokens) → sees_any (at (one asked)) rest ≡ false → sees (accepts asked) rest ≡ false
unfolding sees_any
sign_not_seen asked rest h = false_from_ne_true (sees (accepts asked) rest) (λ other.
    both_ways ((sees (accepts asked) rest && true) || false) h (or_left (sees (accepts asked) rest && true) false (and_from (sees (accepts asked) rest) true other refl)))

-- ---- the theorem

-- What a rule reads begins as its beginnings say.
pub fronts_seen : (parts : Parts) (n : ℕ) (table : Table) → Obeys parts table → {A : Type 0} (g : Rule A) (budget : ℕ) (front rest : Tokens) (x : A) (l : Look)
    → Parses parts budget g front x → sees_any l rest ≡ true → sees_any (fronts n table g l) (front ++ rest) ≡ true
unfolding Parses fronts
fronts_seen parts n table obeys (token asked) budget front rest x l h is = token_before n asked x front rest l h is
fronts_seen parts n table obeys documentation budget front rest x l h is = doc_before n x front rest l h is
fronts_seen parts n table obeys (empty y) budget front rest x l h is = subst (λ us. sees_any l (us ++ rest) ≡ true) (sym h.0) is
fronts_seen parts n table obeys (both g k) budget front rest x l h is =
    subst (λ us. sees_any (fronts n table g (fronts n table k l)) us ≡ true) (sym (ap (λ us. us ++ rest) h.2 ∙ append_assoc h.0 h.1 rest))
    (fronts_seen parts n table obeys g budget h.0 (h.1 ++ rest) x.0 (fronts n table k l) h.3 (fronts_seen parts n table obeys k budget h.1 rest x.1 l h.4 is))
fronts_seen parts n table obeys (made f g) budget front rest x l h is = fronts_seen parts n table obeys g budget front rest h.0 l h.2 is
fronts_seen parts n table obeys (checked test g) budget front rest x l h is = fronts_seen parts n table obeys g budget front rest x l h.1 is
fronts_seen parts n table obeys (either look g k) budget front rest x l h is =
    ⊎_elim (λ first. joined_left (fronts n table g l) (fronts n table k l) (front ++ rest) (fronts_seen parts n table obeys g budget front rest x l first is))
    (λ second. joined_right (fronts n table g l) (fronts n table k l) (front ++ rest) (fronts_seen parts n table obeys k budget front rest x l second is)) h
fronts_seen parts n table obeys (prefer asked g k) budget front rest x l h is =
    ⊎_elim (λ first. joined_left (fronts n table g l) (fronts n table k l) (front ++ rest) (fronts_seen parts n table obeys g budget front rest x l first is))
    (λ second. joined_right (fronts n table g l) (fronts n table k l) (front ++ rest) (fronts_seen parts n table obeys k budget front rest x l second.1 is)) h
fronts_seen parts n table obeys (operator c d) budget front rest x l h is = pair_before n c d front rest l h.0 h.1 is
fronts_seen parts n table obeys (lone c d g) budget front rest x l h is =
    let alone : (all_apart l (at_sign d) || all_apart (fronts n table g (at finish)) (at finish)) ≡ true → h.1 ≡ [] → sees (accepts (Sign d)) rest ≡ false =
    λ test nothing. ⊎_elim (λ apart. sign_not_seen (Sign d) rest (all_apart_sound l (at_sign d) rest apart is))
    (λ solid. absurd (at_end_only (fronts n table g (at finish)) solid
    (fronts_seen parts n table obeys g budget [] [] x (at finish) (subst (λ us. Parses parts budget g us x) nothing h.4) end_is_seen)))
    (or_cases (all_apart l (at_sign d)) (all_apart (fronts n table g (at finish)) (at finish)) test) in
    subst (λ us. sees_any (fronts n table (lone c d g) l) (us ++ rest) ≡ true) (sym h.2)
    (lone_before n c d (all_apart l (at_sign d) || all_apart (fronts n table g (at finish)) (at finish)) h.0 h.1 rest (fronts n table g l)
    (subst (λ us. begins_lone c d us ≡ true) h.2 h.3) alone (fronts_seen parts n table obeys g budget h.1 rest x l h.4 is))
fronts_seen parts n table obeys (binary g) budget front rest x l h is = all_cut_seen n operator_ways (front ++ rest) (operator_seen front rest (x.0, h.0) h.1)
fronts_seen parts n table obeys (nest b g) budget front rest x l h is =
    subst (λ us. sees_any (fronts n table (nest b g) l) (us ++ rest) ≡ true) (sym h.is)
    (bracket_before n b h.first ((h.inside ++ h.last ∷ []) ++ rest) (deeper n (λ m. fronts m no_table g (at (stop b)))) h.opens
    (deeper_seen n (λ m. fronts m no_table g (at (stop b))) ((h.inside ++ h.last ∷ []) ++ rest) (λ m.
    subst (λ us. sees_any (fronts m no_table g (at (stop b))) us ≡ true) (sym (append_assoc h.inside (h.last ∷ []) rest))
    (fronts_seen parts m no_table (no_table_obeyed parts) g (budget - 1) h.inside (h.last ∷ rest) x (at (stop b)) h.reads (closing_seen b h.last rest h.closes)))))
fronts_seen parts n table obeys (angles g) budget front rest x l h is =
    subst (λ us. sees_any (fronts n table (angles g) l) (us ++ rest) ≡ true) (sym h.0.is)
    (angle_before n h.0.first h.0.last h.0.inside rest (subst (λ us. begins_lone 60 61 us ≡ true) h.0.is h.1))
fronts_seen parts n table obeys (under asked g) budget front rest x l h is =
    subst (λ us. sees_any (fronts n table (under asked g) l) (us ++ rest) ≡ true) (sym h.is)
    (first_before n asked h.first (h.inside ++ rest) anything h.opens (anything_seen (h.inside ++ rest)))
fronts_seen parts n table obeys (arrow g) budget front rest x l h is =
    subst (λ us. sees_any (fronts n table (arrow g) l) (us ++ rest) ≡ true) (sym h.3)
    (two_before n 45 62 h.0 h.1 (h.2 ++ rest) anything (first_two 45 62 h.0 h.1 h.2 [] (subst (λ us. begins_pair 45 62 us ≡ true) h.3 h.5)) (anything_seen (h.2 ++ rest)))
fronts_seen parts n table obeys (list separator closing g) budget front rest xs l h is =
    let once : Look = joined (before n (one separator) anything) l in
    listed_seen l once (fronts n table g once) (λ tokens others x i seen. fronts_seen parts n table obeys g budget tokens others x once i seen)
    (λ t ts sep. joined_left (before n (one separator) anything) l (t ∷ ts) (first_before n separator t ts anything sep (anything_seen ts)))
    (λ ts seen. joined_right (before n (one separator) anything) l ts seen) front rest xs h is
fronts_seen parts n table obeys (many look g) budget front rest xs l h is =
    repeated_seen l (fronts n table g anything) (λ tokens others x i. fronts_seen parts n table obeys g budget tokens others x anything i (anything_seen others)) front rest xs h is
fronts_seen parts n table obeys (chain look g) budget front rest xs l h is =
    repeated_seen l (fronts n table g anything) (λ tokens others x i. fronts_seen parts n table obeys g budget tokens others x anything i (anything_seen others)) front rest xs h.0 is
fronts_seen parts n table obeys (path g) budget front rest xs l h is =
    let first : Look = fronts n table g anything in
    let once : Look = joined (before n (pair 58 58) first) l in
    linked_seen l once (fronts n table g once) (λ tokens others x i seen. fronts_seen parts n table obeys g budget tokens others x once i seen)
    (λ t u others after ys pair_is tail. joined_left (before n (pair 58 58) first) l (t ∷ u ∷ others ++ after)
    (two_before n 58 58 t u (others ++ after) first (first_two 58 58 t u others [] pair_is)
    (linked_first first (λ tokens others x i. fronts_seen parts n table obeys g budget tokens others x anything i (anything_seen others)) others after ys tail)))
    (λ ts seen. joined_right (before n (pair 58 58) first) l ts seen) front rest xs h is
fronts_seen parts n table obeys (sliced g) budget front rest x l h is = fronts_seen parts n table obeys g budget front rest x.0 l h.0 is
fronts_seen parts n table obeys (written g) budget front rest x l h is = fronts_seen parts n table obeys g budget front rest x.0 l h.0 is
fronts_seen parts n table obeys (part p) budget front rest x l h is = obeys budget p front rest x l h is
