-- Values that a rule reads of lists that are equal aside are read alike.
use Rattle.std.proofs.Common.{◌≡◌, ℕ, zero, suc, ◌-◌, Bool, true, false, ◌&&◌, ◌||◌, List, [], ◌∷◌, ◌++◌, length, map, drop, refl, ap, sym, subst, ◌∙◌, ◌⊎◌, inl, inr, ⊎_elim, Ok, Err, IsTrue, append_assoc, append-nil}
use Rattle.std.specs.Prelude.{if◌then◌else◌}
use Rattle.std.proofs.lemmas.Bool.{false≢true, both_ways, and_parts, or_cases}
use Rattle.educe_tokens.specs.Bracket.TheVariants.{Round, Square, Curly}
use Rattle.educe_tokens.specs.declared.token.Token.{Token}
use Rattle.educe_tokens.specs.Copied.{may_be_copied}
use Rattle.educe_tokens.specs.Lexes.{lexemes}
use Rattle.educe_grammar.specs.declared.parse_error.ParseError.TheVariants.{Syntax}
use Rattle.educe_grammar.specs.declared.terminal.Keyword.TheVariants as keyword
use Rattle.educe_grammar.specs.declared.terminal.Terminal.{Terminal}
use Rattle.educe_grammar.specs.declared.terminal.Terminal.TheVariants as terminal
use Rattle.educe_grammar.specs.declared.terminal.Terminal.TheVariants.{Sign}
use Rattle.educe_grammar.specs.Terminals.{accepts}
use Rattle.educe_grammar.specs.Steps.{Tokens, Outcome, Parser, Found, and_then, expect, enter, since}
use Rattle.educe_grammar.specs.Ahead.{one, stop, pair, finish, Look, sees_any, sees, opens, closes, documents, begins_pair, begins_lone}
use Rattle.educe_grammar.specs.Combining.{at, at_sign}
use Rattle.educe_grammar.specs.Running.{run, items, segments, skip_if}
use Rattle.educe_grammar.specs.Rules.{Rule, token, documentation, empty, both, made, checked, either, prefer, operator, lone, binary, nest, angles, under, arrow, list, many, chain, path, sliced, written, part, Part, TreeOf, types, plains, exprs, trees}
use Rattle.educe_grammar.specs.Reads.{parts_below, readers_below}
use Rattle.educe_grammar.specs.Alike.{lexeme_aside, AreEqualAside}
use Rattle.educe_grammar.proofs.Steps.{went, ok_pair, chose, expected, entered, skipped, written_went, ended}
use Rattle.educe_grammar.proofs.Apart.{paired, all_within, all_within_sound}
use Rattle.educe_grammar.proofs.Looks.{anything, anything_seen}
use Rattle.educe_grammar.proofs.Fronts.{fronts, fronts_seen}
use Rattle.educe_grammar.proofs.PartFronts.{part_fronts, parts_seen}
use Rattle.educe_grammar.proofs.Sound.{rule_sound, parts_sound}
use Rattle.educe_grammar.proofs.Deciding.{behind_item, behind_segment, one_seen, stop_seen, seen_at, seen_left, seen_right, pair_then}
use Rattle.educe_grammar.proofs.Aside.{aside_first, aside_rest, aside_as, aside_drop, aside_since, accepts_same, sees_same, is_steady, steady_same, apart_aside, apart_aside_sound, colons_settled, colons_settled_sound}

-- ---- values that are read alike

-- the lists are of one length, and each item is read as the other at its place
pub data Pairwise {A : Type 0} (R : A → A → Type 0) : List A → List A → Type 0 where
  nothing : Pairwise R [] []
  another : {x y : A} {xs ys : List A} → R x y → Pairwise R xs ys → Pairwise R (x ∷ xs) (y ∷ ys)

-- Where parts that are read alike are so related: values that the rule reads in the same way of tokens that are equal aside.
unfoldable pub ReadAlike : ((p : Part) → TreeOf p → TreeOf p → Type 0) → {A : Type 0} → Rule A → A → A → Type 0
ReadAlike Kin (token asked) x y = lexeme_aside x.token ≡ lexeme_aside y.token
ReadAlike Kin documentation x y = lexeme_aside x.token ≡ lexeme_aside y.token
ReadAlike Kin (empty z) x y = (x ≡ z) × (y ≡ z)
ReadAlike Kin (both g h) x y = ReadAlike Kin g x.0 y.0 × ReadAlike Kin h x.1 y.1
ReadAlike Kin (made {A = A} f g) x y = (v : A) × (w : A) × (x ≡ f v) × (y ≡ f w) × ReadAlike Kin g v w
ReadAlike Kin (checked test g) x y = ReadAlike Kin g x y
ReadAlike Kin (either look g h) x y = ReadAlike Kin g x y ⊎ ReadAlike Kin h x y
ReadAlike Kin (prefer asked g h) x y = ReadAlike Kin g x y ⊎ ReadAlike Kin h x y
ReadAlike Kin (operator c d) x y = Unit {0}
ReadAlike Kin (lone c d g) x y = ReadAlike Kin g x y
ReadAlike Kin (binary g) x y = (x.0 ≡ y.0) × ReadAlike Kin g x.1 y.1
ReadAlike Kin (nest b g) x y = ReadAlike Kin g x y
ReadAlike Kin (angles g) x y = ReadAlike Kin g x y
ReadAlike Kin (under asked g) x y = ReadAlike Kin g x y
ReadAlike Kin (arrow g) x y = ReadAlike Kin g x y
ReadAlike Kin (list separator closing g) xs ys = Pairwise (ReadAlike Kin g) xs ys
ReadAlike Kin (many look g) xs ys = Pairwise (ReadAlike Kin g) xs ys
ReadAlike Kin (chain look g) xs ys = Pairwise (ReadAlike Kin g) xs ys
ReadAlike Kin (path g) xs ys = Pairwise (ReadAlike Kin g) xs ys
ReadAlike Kin (sliced g) x y = ReadAlike Kin g x.0 y.0
ReadAlike Kin (written g) x y = ReadAlike Kin g x.0 y.0 × AreEqualAside x.1.tokens y.1.tokens
ReadAlike Kin (part p) x y = Kin p x y

-- ---- the test

-- what may stand behind each part in a type
abbrev pub ends_of : Part → Look
ends_of types =
    at_sign 44 ++ at_sign 59 ++ at_sign 62 ++ at (stop Round) ++ at (stop Square) ++ at (stop Curly) ++ at (one (terminal.Word keyword.As)) ++ at finish
ends_of plains =
    (pair 58 58 ∷ one terminal.PathSegment ∷ []) ∷ at_sign 43
    ++ at_sign 44 ++ at_sign 59 ++ at_sign 62 ++ at (stop Round) ++ at (stop Square) ++ at (stop Curly) ++ at (one (terminal.Word keyword.As)) ++ at finish
ends_of exprs = at (stop Round) ++ at (stop Square) ++ at (stop Curly)
ends_of trees = []

-- the first three tokens of what the rule reads, with what stands behind it
abbrev pub firsts : {A : Type 0} → Rule A → Look → Look
firsts g l = fronts 3 (part_fronts 3) g l

-- Whether each look-ahead of the rule answers the same in lists that are equal aside and both read to their ends, where
-- one of these stands behind. Loops of expressions and attributes are left out.
unfoldable pub settles : {A : Type 0} → Rule A → Look → Bool
settles (token asked) l = true
settles documentation l = true
settles (empty x) l = true
settles (both g h) l = settles g (firsts h l) && settles h l
settles (made f g) l = settles g l
settles (checked test g) l = settles g l
settles (either look g h) l = (settles g l && settles h l) && (is_steady look || apart_aside (firsts g l) (firsts h l))
settles (prefer asked g h) l = settles g l && settles h l
settles (operator c d) l = true
settles (lone c d g) l = settles g l
settles (binary g) l = false
settles (nest b g) l = settles g (at (stop b))
settles (angles g) l = settles g (at_sign 62)
settles (under asked g) l = settles g l
settles (arrow g) l = settles g l
settles (list separator closing g) l = settles g (behind_item separator l) && (is_steady closing || apart_aside l (firsts g (behind_item separator l)))
settles (many look g) l = false
settles (chain look g) l = false
settles (path g) l = settles g (behind_segment 3 (part_fronts 3) g l) && colons_settled l
settles (sliced g) l = settles g l
settles (written g) l = settles g l
settles (part p) l = all_within l (ends_of p)

-- ---- steps

-- two programs read related values of lists that are equal aside, where one of these stands behind, and leave such lists
abbrev pub Agree : {A : Type 0} → Parser A → Parser A → Look → (A → A → Type 0) → Type 0
Agree {A = A} p q l R = (ts us rest left : Tokens) (x y : A) → AreEqualAside ts us → p ts ≡ Ok (x, rest) → q us ≡ Ok (y, left) → sees_any l rest ≡ true → sees_any l left ≡ true
    → R x y × AreEqualAside rest left

-- what was taken off the front of both
took_same : {ts us vs ws : Tokens} {t u : Token} → ts ≡ t ∷ vs → us ≡ u ∷ ws → AreEqualAside ts us → (lexeme_aside t ≡ lexeme_aside u) × AreEqualAside vs ws
took_same {vs = vs} {ws = ws} {t = t} {u = u} e f same = let w = aside_as e f same in (aside_first t u vs ws w, aside_rest t u vs ws w)

-- a token that was asked for
expect_agree : (test : Token → Bool) (ts us rest left : Tokens) (x y : Found test) → AreEqualAside ts us → expect test ts ≡ Ok (x, rest) → expect test us ≡ Ok (y, left)
    → (lexeme_aside x.token ≡ lexeme_aside y.token) × AreEqualAside rest left
expect_agree test ts us rest left x y same h k = took_same (expected test ts rest x h) (expected test us left y k) same

-- tokens that were skipped
skip_agree : (a b : Bool) (n : ℕ) (ts us rest left : Tokens) (x y : Unit {0}) → AreEqualAside ts us → skip_if a n ts ≡ Ok (x, rest) → skip_if b n us ≡ Ok (y, left) → AreEqualAside rest left
skip_agree a b n ts us rest left x y same h k = aside_as (skipped a n ts rest x h).1 (skipped b n us left y k).1 (aside_drop n ts us same)

-- what was read up to a token that ends it
pub record Ended {A : Type 0} (p : Parser A) (test : Token → Bool) (ts : Tokens) (x : A) (rest : Tokens) : Type 0 where
  pub last : Token
  pub left : Tokens
  pub reads : p ts ≡ Ok (x, left)
  pub is : left ≡ last ∷ rest
  pub passes : IsTrue (test last)

ended_went : {A : Type 0} (p : Parser A) (test : Token → Bool) (ts rest : Tokens) (x : A) → ended test p ts ≡ Ok (x, rest) → Ended p test ts x rest
ended_went p test ts rest x h =
    let v = went (p ts) _ x rest h in
    let f = went (expect test v.left) _ x rest v.second in
    let e = ok_pair f.second in
    let is : v.left ≡ f.value.token ∷ f.left = expected test v.left f.left f.value f.first in
    record {
      last = f.value.token;
      left = v.left;
      reads = v.first ∙ ap (λ y. Ok (y, v.left)) e.0;
      is = is ∙ ap (λ us. f.value.token ∷ us) e.1;
      passes = f.value.passes;
    }

-- what was read behind an opener, with a budget
opened_went : {A B : Type 0} (o : Outcome A) (budget place : ℕ) (q : Parser B) (rest : Tokens) (x : B) → and_then o (λ _ vs. and_then (enter budget place vs) (λ _. q)) ≡ Ok (x, rest)
    → (z : A) × (vs : Tokens) × (o ≡ Ok (z, vs)) × (q vs ≡ Ok (x, rest))
opened_went o budget place q rest x h =
    let v = went o (λ _ vs. and_then (enter budget place vs) (λ _. q)) x rest h in
    let w = went (enter budget place v.left) (λ _. q) x rest v.second in
    (v.value, v.left, v.first, subst (λ vs. q vs ≡ Ok (x, rest)) (sym (entered budget place v.left w.left w.value w.first).1) w.second)

-- what was read and passed a test
checked_went : {A : Type 0} (p : Parser A) (test : A → Bool) (ts rest : Tokens) (x : A) → and_then (p ts) (λ y us. if test y then Ok (y, us) else Err (Syntax (length us))) ≡ Ok (x, rest) → p ts ≡ Ok (x, rest)
checked_went p test ts rest x h =
    let v = went (p ts) (λ y us. if test y then Ok (y, us) else Err (Syntax (length us))) x rest h in
    elim (chose (test v.value) (Ok (v.value, v.left)) (Err (Syntax (length v.left))) (Ok (x, rest)) v.second) [
      | inl w ↦ v.first ∙ w.1
      | inr w ↦ absurd (let k = w.1 in cc)
    ]

-- what is read inside of brackets agrees where it does before the closing one
ended_agree : {A : Type 0} (p q : Parser A) (test : Token → Bool) (l : Look) (R : A → A → Type 0) → ((t : Token) (ts : Tokens) → IsTrue (test t) → sees_any l (t ∷ ts) ≡ true) → Agree p q l R
    → (ts us rest left : Tokens) (x y : A) → AreEqualAside ts us → ended test p ts ≡ Ok (x, rest) → ended test q us ≡ Ok (y, left) → R x y × AreEqualAside rest left
ended_agree p q test l R seen agree ts us rest left x y same h k =
    let v = ended_went p test ts rest x h in
    let w = ended_went q test us left y k in
    let a = agree ts us v.left w.left x y same v.reads w.reads
    (subst (λ vs. sees_any l vs ≡ true) (sym v.is) (seen v.last rest v.passes))
    (subst (λ vs. sees_any l vs ≡ true) (sym w.is) (seen w.last left w.passes)) in
    (a.0, (took_same v.is w.is a.1).1)

-- ---- loops

-- what a loop found behind what it had found before, and what the other found
record FoundBoth {A : Type 0} (R : A → A → Type 0) (found all others every : List A) (rest left : Tokens) : Type 0 where
  more : List A
  much : List A
  all_is : all ≡ found ++ more
  every_is : every ≡ others ++ much
  related : Pairwise R more much
  same : AreEqualAside rest left

-- both found one more
found_more : {A : Type 0} {R : A → A → Type 0} (x y : A) (found all others every : List A) (rest left : Tokens) → R x y → FoundBoth R (found ++ x ∷ []) all (others ++ y ∷ []) every rest left
    → FoundBoth R found all others every rest left
found_more x y found all others every rest left r b = record {
  more = x ∷ b.more;
  much = y ∷ b.much;
  all_is = b.all_is ∙ append_assoc found (x ∷ []) b.more;
  every_is = b.every_is ∙ append_assoc others (y ∷ []) b.much;
  related = another r b.related;
  same = b.same;
}

-- neither found any
found_none : {A : Type 0} {R : A → A → Type 0} (found all others every : List A) (ts us rest left : Tokens) → AreEqualAside ts us
    → ◌≡◌ {A = Outcome (List A)} (Ok (found, ts)) (Ok (all, rest)) → ◌≡◌ {A = Outcome (List A)} (Ok (others, us)) (Ok (every, left)) → FoundBoth R found all others every rest left
found_none found all others every ts us rest left same h k =
    let e = ok_pair h in
    let f = ok_pair k in record { more = []; much = []; all_is = sym (append-nil found ∙ e.0); every_is = sym (append-nil others ∙ f.0); related = nothing; same = aside_as e.1 f.1 same }

-- each found one more and no others
found_last : {A : Type 0} {R : A → A → Type 0} (x y : A) (found all others every : List A) (ts us rest left : Tokens) → R x y → AreEqualAside ts us
    → ◌≡◌ {A = Outcome (List A)} (Ok (found ++ x ∷ [], ts)) (Ok (all, rest)) → ◌≡◌ {A = Outcome (List A)} (Ok (others ++ y ∷ [], us)) (Ok (every, left)) → FoundBoth R found all others every rest left
found_last x y found all others every ts us rest left r same h k =
    found_more x y found all others every rest left r (found_none (found ++ x ∷ []) all (others ++ y ∷ []) every ts us rest left same h k)

-- one test holds and the other fails, of two that are equal
never_both : (a b : Bool) → a ≡ b → a ≡ true → b ≡ false → ⊥
never_both a b e h k = both_ways b k (sym e ∙ h)

module _ {A : Type 0} (p q : Parser A) (R : A → A → Type 0) where
  -- items with separators between: what stands behind an item
  item_followed : (p : Parser A) (separator : Terminal) (closing l : Look) (n : ℕ) (found all : List A) (ts rest : Tokens)
      → (if_sees : ((sees (accepts separator) ts ≡ true) × (items (accepts separator) closing p n found (drop 1 ts) ≡ Ok (all, rest))) ⊎ ((sees (accepts separator) ts ≡ false) × (◌≡◌ {A = Outcome (List A)} (Ok (found, ts)) (Ok (all, rest)))))
      → sees_any l rest ≡ true → sees_any (behind_item separator l) ts ≡ true
  item_followed p separator closing l n found all ts rest (inl w) s = seen_left (at (one separator)) l ts (seen_at (one separator) ts ∙ w.0)
  item_followed p separator closing l n found all ts rest (inr w) s = seen_right (at (one separator)) l ts (subst (λ us. sees_any l us ≡ true) (sym (ok_pair w.1).1) s)

  module _ (separator : Terminal) (closing l : Look) (agree : Agree p q (behind_item separator l) R)
      (apart : (ts us vs : Tokens) (x : A) → AreEqualAside ts us → sees_any closing ts ≡ true → sees_any closing us ≡ false → sees_any l ts ≡ true → (p us ≡ Ok (x, vs)) ⊎ (q us ≡ Ok (x, vs)) → sees_any (behind_item separator l) vs ≡ true → ⊥) where
    items_agree : (n m : ℕ) (found all others every : List A) (ts us rest left : Tokens) → AreEqualAside ts us
        → items (accepts separator) closing p n found ts ≡ Ok (all, rest) → items (accepts separator) closing q m others us ≡ Ok (every, left)
        → sees_any l rest ≡ true → sees_any l left ≡ true → FoundBoth R found all others every rest left
    unfolding items
    items_agree zero m found all others every ts us rest left same h k s t = absurd (cc)
    items_agree (suc n) zero found all others every ts us rest left same h k s t = absurd (cc)
    items_agree (suc n) (suc m) found all others every ts us rest left same h k s t =
        elim (chose (sees_any closing ts) _ _ (Ok (all, rest)) h) [
          | inl a ↦ elim (chose (sees_any closing us) _ _ (Ok (every, left)) k) [
            | inl b ↦ found_none found all others every ts us rest left same a.1 b.1
            | inr b ↦ (let w = went (q us) _ every left b.1 in
                let f = item_followed q separator closing l m (others ++ w.value ∷ []) every w.left left (chose (sees (accepts separator) w.left) _ _ (Ok (every, left)) w.second) t in
                absurd (apart ts us w.left w.value same a.0 b.0 (subst (λ vs. sees_any l vs ≡ true) (sym (ok_pair a.1).1) s) (inr w.first) f))
          ]
          | inr a ↦ (let v = went (p ts) _ all rest a.1 in
              let e = item_followed p separator closing l n (found ++ v.value ∷ []) all v.left rest (chose (sees (accepts separator) v.left) _ _ (Ok (all, rest)) v.second) s in
              elim (chose (sees_any closing us) _ _ (Ok (every, left)) k) [
                | inl b ↦ absurd (apart us ts v.left v.value (sym same) b.0 a.0 (subst (λ vs. sees_any l vs ≡ true) (sym (ok_pair b.1).1) t) (inl v.first) e)
                | inr b ↦ (let w = went (q us) _ every left b.1 in
                    let f = item_followed q separator closing l m (others ++ w.value ∷ []) every w.left left (chose (sees (accepts separator) w.left) _ _ (Ok (every, left)) w.second) t in
                    let r = agree ts us v.left w.left v.value w.value same v.first w.first e f in
                    let seps : sees (accepts separator) v.left ≡ sees (accepts separator) w.left = sees_same (accepts separator) (accepts_same separator) v.left w.left r.1 in
                    elim (chose (sees (accepts separator) v.left) _ _ (Ok (all, rest)) v.second) [
                      | inl c ↦ elim (chose (sees (accepts separator) w.left) _ _ (Ok (every, left)) w.second) [
                        | inl d ↦ found_more v.value w.value found all others every rest left r.0
                            (items_agree n m (found ++ v.value ∷ []) all (others ++ w.value ∷ []) every (drop 1 v.left) (drop 1 w.left) rest left (aside_drop 1 v.left w.left r.1) c.1 d.1 s t)
                        | inr d ↦ absurd (never_both _ _ seps c.0 d.0)
                      ]
                      | inr c ↦ elim (chose (sees (accepts separator) w.left) _ _ (Ok (every, left)) w.second) [
                        | inl d ↦ absurd (never_both _ _ (sym seps) d.0 c.0)
                        | inr d ↦ found_last v.value w.value found all others every v.left w.left rest left r.0 r.1 c.1 d.1
                      ]
                    ])
              ])
        ]

  -- what begins a path that is read
  segments_begin : (p : Parser A) (look : Look) → ((ts rest : Tokens) (x : A) → p ts ≡ Ok (x, rest) → sees_any look ts ≡ true) → (n : ℕ) (found all : List A) (ts rest : Tokens)
      → segments p n found ts ≡ Ok (all, rest) → sees_any look ts ≡ true
  unfolding segments
  segments_begin p look begins zero found all ts rest h = absurd (cc)
  segments_begin p look begins (suc n) found all ts rest h = let v = went _ _ all rest h in begins ts v.left v.value v.first

  -- what stands behind an item of a path
  segment_followed : (p : Parser A) (look l : Look) → ((ts rest : Tokens) (x : A) → p ts ≡ Ok (x, rest) → sees_any look ts ≡ true) → (n : ℕ) (found all : List A) (ts rest : Tokens)
      → ((begins_pair 58 58 ts ≡ true) × (segments p n found (drop 2 ts) ≡ Ok (all, rest))) ⊎ ((begins_pair 58 58 ts ≡ false) × (◌≡◌ {A = Outcome (List A)} (Ok (found, ts)) (Ok (all, rest))))
      → sees_any l rest ≡ true → sees_any (map (λ way. pair 58 58 ∷ way) look ++ l) ts ≡ true
  segment_followed p look l begins n found all ts rest (inl w) s =
      let e = paired 58 58 ts w.0 in
      let behind : drop 2 ts ≡ e.more = ap (drop 2) e.is in
      let next = subst (λ us. sees_any look us ≡ true) behind (segments_begin p look begins n found all (drop 2 ts) rest w.1) in
      let first = subst (λ us. begins_pair 58 58 us ≡ true) e.is w.0 in
      seen_left (map (λ way. pair 58 58 ∷ way) look) l ts
      (subst (λ us. sees_any (map (λ way. pair 58 58 ∷ way) look) us ≡ true) (sym e.is) (pair_then look e.first e.second e.more first next))
  segment_followed p look l begins n found all ts rest (inr w) s =
      seen_right (map (λ way. pair 58 58 ∷ way) look) l ts (subst (λ us. sees_any l us ≡ true) (sym (ok_pair w.1).1) s)

  -- items with `::` between
  segments_agree : (look l : Look) → ((ts rest : Tokens) (x : A) → p ts ≡ Ok (x, rest) → sees_any look ts ≡ true) → ((ts rest : Tokens) (x : A) → q ts ≡ Ok (x, rest) → sees_any look ts ≡ true)
      → Agree p q (map (λ way. pair 58 58 ∷ way) look ++ l) R → colons_settled l ≡ true
      → (n m : ℕ) (found all others every : List A) (ts us rest left : Tokens) → AreEqualAside ts us → segments p n found ts ≡ Ok (all, rest) → segments q m others us ≡ Ok (every, left)
      → sees_any l rest ≡ true → sees_any l left ≡ true → FoundBoth R found all others every rest left
  unfolding segments
  segments_agree look l first second agree settled zero m found all others every ts us rest left same h k s t = absurd (cc)
  segments_agree look l first second agree settled (suc n) zero found all others every ts us rest left same h k s t = absurd (cc)
  segments_agree look l first second agree settled (suc n) (suc m) found all others every ts us rest left same h k s t =
      let v = went (p ts) _ all rest h in
      let w = went (q us) _ every left k in
      let a = chose (begins_pair 58 58 v.left) _ _ (Ok (all, rest)) v.second in
      let b = chose (begins_pair 58 58 w.left) _ _ (Ok (every, left)) w.second in
      let e = segment_followed p look l first n (found ++ v.value ∷ []) all v.left rest a s in
      let f = segment_followed q look l second m (others ++ w.value ∷ []) every w.left left b t in
      let r = agree ts us v.left w.left v.value w.value same v.first w.first e f in
      elim a [
        | inl c ↦ elim b [
          | inl d ↦ found_more v.value w.value found all others every rest left r.0
              (segments_agree look l first second agree settled n m (found ++ v.value ∷ []) all (others ++ w.value ∷ []) every (drop 2 v.left) (drop 2 w.left) rest left (aside_drop 2 v.left w.left r.1) c.1 d.1 s t)
          | inr d ↦ absurd (colons_settled_sound l v.left w.left settled r.1 c.0 d.0 (subst (λ vs. sees_any l vs ≡ true) (sym (ok_pair d.1).1) t))
        ]
        | inr c ↦ elim b [
          | inl d ↦ absurd (colons_settled_sound l w.left v.left settled (sym r.1) d.0 c.0 (subst (λ vs. sees_any l vs ≡ true) (sym (ok_pair c.1).1) s))
          | inr d ↦ found_last v.value w.value found all others every v.left w.left rest left r.0 r.1 c.1 d.1
        ]
      ]

-- ---- rules

-- related values that are written another way
pub related_as : {A : Type 0} (R : A → A → Type 0) {x y v w : A} → x ≡ v → y ≡ w → R x y → R v w
related_as R {x} {y} {v} {w} e f r = subst (λ z. R z w) e (subst (λ z. R x z) f r)

-- what was read begins so
seen_first : (n b : ℕ) {A : Type 0} (g : Rule A) (l : Look) (ts rest : Tokens) (x : A) → run (readers_below n) b g ts ≡ Ok (x, rest) → sees_any l rest ≡ true → sees_any (firsts g l) ts ≡ true
seen_first n b g l ts rest x h s =
    let t = rule_sound (readers_below n) (parts_below n) (parts_sound n) g b ts rest x h in
    subst (λ us. sees_any (firsts g l) us ≡ true) (sym t.whole) (fronts_seen (parts_below n) 3 (part_fronts 3) (parts_seen 3 n) g b t.front rest x l t.is_in s)

module _ (Kin : (p : Part) → TreeOf p → TreeOf p → Type 0) (i j : ℕ)
    (known : (b c : ℕ) (p : Part) → Agree (readers_below i b p) (readers_below j c p) (ends_of p) (Kin p)) where
  -- Values that a rule reads of lists that are equal aside are read alike, and what is left is equal aside.
  pub rule_agree : {A : Type 0} (g : Rule A) (l : Look) → settles g l ≡ true → (b c : ℕ) → Agree (run (readers_below i) b g) (run (readers_below j) c g) l (ReadAlike Kin g)
  unfolding run settles ReadAlike
  rule_agree (token asked) l settled b c ts us rest left x y same h k s t = expect_agree (accepts asked) ts us rest left x y same h k
  rule_agree documentation l settled b c ts us rest left x y same h k s t = expect_agree documents ts us rest left x y same h k
  rule_agree (empty z) l settled b c ts us rest left x y same h k s t = let e = ok_pair h in let f = ok_pair k in ((sym e.0, sym f.0), aside_as e.1 f.1 same)
  rule_agree (both g g2) l settled b c ts us rest left x y same h k s t =
      let d = and_parts _ _ settled in
      let v = went _ _ x rest h in
      let v2 = went _ _ x rest v.second in
      let w = went _ _ y left k in
      let w2 = went _ _ y left w.second in
      let e = ok_pair v2.second in
      let f = ok_pair w2.second in
      let s2 = subst (λ vs. sees_any l vs ≡ true) (sym e.1) s in
      let t2 = subst (λ vs. sees_any l vs ≡ true) (sym f.1) t in
      let a = rule_agree g (firsts g2 l) d.0 b c ts us v.left w.left v.value w.value same v.first w.first
      (seen_first i b g2 l v.left v2.left v2.value v2.first s2) (seen_first j c g2 l w.left w2.left w2.value w2.first t2) in
      let a2 = rule_agree g2 l d.1 b c v.left w.left v2.left w2.left v2.value w2.value a.1 v2.first w2.first s2 t2 in
      (related_as (λ z u. ReadAlike Kin g z.0 u.0 × ReadAlike Kin g2 z.1 u.1) e.0 f.0 (a.0, a2.0), aside_as e.1 f.1 a2.1)
  rule_agree (made m g) l settled b c ts us rest left x y same h k s t =
      let v = went _ _ x rest h in
      let w = went _ _ y left k in
      let e = ok_pair v.second in
      let f = ok_pair w.second in
      let a = rule_agree g l settled b c ts us v.left w.left v.value w.value same v.first w.first
      (subst (λ vs. sees_any l vs ≡ true) (sym e.1) s) (subst (λ vs. sees_any l vs ≡ true) (sym f.1) t) in
      ((v.value, w.value, sym e.0, sym f.0, a.0), aside_as e.1 f.1 a.1)
  rule_agree (checked test g) l settled b c ts us rest left x y same h k s t =
      rule_agree g l settled b c ts us rest left x y same (checked_went (run (readers_below i) b g) test ts rest x h) (checked_went (run (readers_below j) c g) test us left y k) s t
  rule_agree (either look g g2) l settled b c ts us rest left x y same h k s t =
      let d = and_parts _ _ settled in
      let r = and_parts _ _ d.0 in
      elim (chose (sees_any look ts) _ _ (Ok (x, rest)) h) [
        | inl p ↦ elim (chose (sees_any look us) _ _ (Ok (y, left)) k) [
          | inl q ↦ (let a = rule_agree g l r.0 b c ts us rest left x y same p.1 q.1 s t in (inl a.0, a.1))
          | inr q ↦ absurd (⊎_elim
              (λ steady. never_both _ _ (steady_same look ts us steady same) p.0 q.0)
              (λ apart. apart_aside_sound (firsts g l) (firsts g2 l) ts us apart same (seen_first i b g l ts rest x p.1 s) (seen_first j c g2 l us left y q.1 t))
              (or_cases (is_steady look) _ d.1))
        ]
        | inr p ↦ elim (chose (sees_any look us) _ _ (Ok (y, left)) k) [
          | inl q ↦ absurd (⊎_elim
              (λ steady. never_both _ _ (sym (steady_same look ts us steady same)) q.0 p.0)
              (λ apart. apart_aside_sound (firsts g l) (firsts g2 l) us ts apart (sym same) (seen_first j c g l us left y q.1 t) (seen_first i b g2 l ts rest x p.1 s))
              (or_cases (is_steady look) _ d.1))
          | inr q ↦ (let a = rule_agree g2 l r.1 b c ts us rest left x y same p.1 q.1 s t in (inr a.0, a.1))
        ]
      ]
  rule_agree (prefer asked g g2) l settled b c ts us rest left x y same h k s t =
      let d = and_parts _ _ settled in
      let alike : sees (accepts asked) ts ≡ sees (accepts asked) us = sees_same (accepts asked) (accepts_same asked) ts us same in
      elim (chose (sees (accepts asked) ts) _ _ (Ok (x, rest)) h) [
        | inl p ↦ elim (chose (sees (accepts asked) us) _ _ (Ok (y, left)) k) [
          | inl q ↦ (let a = rule_agree g l d.0 b c ts us rest left x y same p.1 q.1 s t in (inl a.0, a.1))
          | inr q ↦ absurd (never_both _ _ alike p.0 q.0)
        ]
        | inr p ↦ elim (chose (sees (accepts asked) us) _ _ (Ok (y, left)) k) [
          | inl q ↦ absurd (never_both _ _ (sym alike) q.0 p.0)
          | inr q ↦ (let a = rule_agree g2 l d.1 b c ts us rest left x y same p.1 q.1 s t in (inr a.0, a.1))
        ]
      ]
  rule_agree (operator o d) l settled b c ts us rest left x y same h k s t = (tt, skip_agree (begins_pair o d ts) (begins_pair o d us) 2 ts us rest left x y same h k)
  rule_agree (lone o d g) l settled b c ts us rest left x y same h k s t =
      let v = went (skip_if (begins_lone o d ts) 1 ts) _ x rest h in
      let w = went (skip_if (begins_lone o d us) 1 us) _ y left k in
      rule_agree g l settled b c v.left w.left rest left x y (skip_agree (begins_lone o d ts) (begins_lone o d us) 1 ts us v.left w.left v.value w.value same v.first w.first) v.second w.second s t
  rule_agree (binary g) l settled b c ts us rest left x y same h k s t = absurd (false≢true settled)
  rule_agree (nest o g) l settled b c ts us rest left x y same h k s t =
      let v = opened_went (expect (opens o) ts) b (length ts) (ended (closes o) (run (readers_below i) (b - 1) g)) rest x h in
      let w = opened_went (expect (opens o) us) c (length us) (ended (closes o) (run (readers_below j) (c - 1) g)) left y k in
      ended_agree (run (readers_below i) (b - 1) g) (run (readers_below j) (c - 1) g) (closes o) (at (stop o)) (ReadAlike Kin g) (stop_seen o) (rule_agree g (at (stop o)) settled (b - 1) (c - 1))
      v.1 w.1 rest left x y (expect_agree (opens o) ts us v.1 w.1 v.0 w.0 same v.2 w.2).1 v.3 w.3
  rule_agree (angles g) l settled b c ts us rest left x y same h k s t =
      let v = opened_went (skip_if (begins_lone 60 61 ts) 1 ts) b (length ts) (ended (accepts (Sign 62)) (run (readers_below i) (b - 1) g)) rest x h in
      let w = opened_went (skip_if (begins_lone 60 61 us) 1 us) c (length us) (ended (accepts (Sign 62)) (run (readers_below j) (c - 1) g)) left y k in
      ended_agree (run (readers_below i) (b - 1) g) (run (readers_below j) (c - 1) g) (accepts (Sign 62)) (at_sign 62) (ReadAlike Kin g) (one_seen (Sign 62)) (rule_agree g (at_sign 62) settled (b - 1) (c - 1))
      v.1 w.1 rest left x y (skip_agree (begins_lone 60 61 ts) (begins_lone 60 61 us) 1 ts us v.1 w.1 v.0 w.0 same v.2 w.2) v.3 w.3
  rule_agree (under asked g) l settled b c ts us rest left x y same h k s t =
      let v = opened_went (expect (accepts asked) ts) b (length ts) (run (readers_below i) (b - 1) g) rest x h in
      let w = opened_went (expect (accepts asked) us) c (length us) (run (readers_below j) (c - 1) g) left y k in
      rule_agree g l settled (b - 1) (c - 1) v.1 w.1 rest left x y (expect_agree (accepts asked) ts us v.1 w.1 v.0 w.0 same v.2 w.2).1 v.3 w.3 s t
  rule_agree (arrow g) l settled b c ts us rest left x y same h k s t =
      let v = opened_went (skip_if (begins_pair 45 62 ts) 2 ts) b (length ts) (run (readers_below i) (b - 1) g) rest x h in
      let w = opened_went (skip_if (begins_pair 45 62 us) 2 us) c (length us) (run (readers_below j) (c - 1) g) left y k in
      rule_agree g l settled (b - 1) (c - 1) v.1 w.1 rest left x y (skip_agree (begins_pair 45 62 ts) (begins_pair 45 62 us) 2 ts us v.1 w.1 v.0 w.0 same v.2 w.2) v.3 w.3 s t
  rule_agree (list separator closing g) l settled b c ts us rest left x y same h k s t =
      let d = and_parts _ _ settled in
      let f = items_agree (run (readers_below i) b g) (run (readers_below j) c g) (ReadAlike Kin g) separator closing l (rule_agree g (behind_item separator l) d.0 b c)
      (λ vs ws left z alike closes goes stands read followed. ⊎_elim
      (λ steady. never_both _ _ (steady_same closing vs ws steady alike) closes goes)
      (λ apart. apart_aside_sound l (firsts g (behind_item separator l)) vs ws apart alike stands (⊎_elim
      (λ first. seen_first i b g (behind_item separator l) ws left z first followed)
      (λ second. seen_first j c g (behind_item separator l) ws left z second followed)
      read))
      (or_cases (is_steady closing) _ d.1))
      (suc (length ts)) (suc (length us)) [] x [] y ts us rest left same h k s t in
      (related_as (Pairwise (ReadAlike Kin g)) (sym f.all_is) (sym f.every_is) f.related, f.same)
  rule_agree (many look g) l settled b c ts us rest left x y same h k s t = absurd (false≢true settled)
  rule_agree (chain look g) l settled b c ts us rest left x y same h k s t = absurd (false≢true settled)
  rule_agree (path g) l settled b c ts us rest left x y same h k s t =
      let d = and_parts _ _ settled in
      let f = segments_agree (run (readers_below i) b g) (run (readers_below j) c g) (ReadAlike Kin g) (firsts g anything) l
      (λ vs rest z read. seen_first i b g anything vs rest z read (anything_seen rest)) (λ vs rest z read. seen_first j c g anything vs rest z read (anything_seen rest))
      (rule_agree g (behind_segment 3 (part_fronts 3) g l) d.0 b c) d.1 (suc (length ts)) (suc (length us)) [] x [] y ts us rest left same h k s t in
      (related_as (Pairwise (ReadAlike Kin g)) (sym f.all_is) (sym f.every_is) f.related, f.same)
  rule_agree (sliced g) l settled b c ts us rest left x y same h k s t =
      let v = went _ _ x rest h in
      let w = went _ _ y left k in
      let e = ok_pair v.second in
      let f = ok_pair w.second in
      let a = rule_agree g l settled b c ts us v.left w.left v.value w.value same v.first w.first
      (subst (λ vs. sees_any l vs ≡ true) (sym e.1) s) (subst (λ vs. sees_any l vs ≡ true) (sym f.1) t) in
      (related_as (ReadAlike Kin g) (ap (λ z. z.0) e.0) (ap (λ z. z.0) f.0) a.0, aside_as e.1 f.1 a.1)
  rule_agree (written g) l settled b c ts us rest left x y same h k s t =
      let v = went _ _ x rest h in
      let w = went _ _ y left k in
      let e = written_went v.value (since ts v.left) v.left (may_be_copied (lexemes (since ts v.left))) refl x rest v.second in
      let f = written_went w.value (since us w.left) w.left (may_be_copied (lexemes (since us w.left))) refl y left w.second in
      let a = rule_agree g l settled b c ts us v.left w.left v.value w.value same v.first w.first
      (subst (λ vs. sees_any l vs ≡ true) (sym e.2) s) (subst (λ vs. sees_any l vs ≡ true) (sym f.2) t) in
      let tokens = aside_as (sym e.1) (sym f.1) (aside_since ts us v.left w.left same a.1) in
      ((related_as (ReadAlike Kin g) e.0 f.0 a.0, tokens), aside_as e.2 f.2 a.1)
  rule_agree (part p) l settled b c ts us rest left x y same h k s t =
      known b c p ts us rest left x y same h k (all_within_sound l (ends_of p) rest settled s) (all_within_sound l (ends_of p) left settled t)
