-- Where the program of a rule rejects what nests too deep, more openers count than the budget.
use Rattle.std.proofs.Common.{◌≡◌, ℕ, zero, suc, ◌-◌, ◌<◌, ◌≤◌, min, Bool, true, ◌&&◌, List, [], ◌∷◌, ◌++◌, length, drop, refl, ap, sym, subst, ◌∙◌, ◌⊎◌, inl, inr, arith, if◌then◌else◌, Option, Some, None, Ok, Err}
use Rattle.std.proofs.Math.Nat.{min-le_left, min-le_right}
use Rattle.std.proofs.Math.Seq.{drop-append_seam}
use Rattle.educe_tokens.specs.declared.token.Token.{Token}
use Rattle.educe_tokens.specs.Copied.{may_be_copied}
use Rattle.educe_tokens.specs.Lexes.{lexemes}
use Rattle.educe_grammar.specs.declared.operator.Operator.{Operator}
use Rattle.educe_grammar.specs.declared.parse_error.ParseError.TheVariants.{Syntax, TooDeep}
use Rattle.educe_grammar.specs.declared.terminal.Terminal.TheVariants.{Sign}
use Rattle.educe_grammar.specs.Terminals.{set_of, accepts}
use Rattle.educe_grammar.specs.Steps.{Tokens, Parser, and_then, expect, enter, since}
use Rattle.educe_grammar.specs.Ahead.{Look, sees_any, sees, opens, closes, documents, begins_pair, begins_lone}
use Rattle.educe_grammar.specs.Operators.{operator_at}
use Rattle.educe_grammar.specs.Reading.{chain_limit}
use Rattle.educe_grammar.specs.Running.{run, items, repeat, links, segments, binary_with, skip_if, written_if}
use Rattle.educe_grammar.specs.Rules.{Rule, token, documentation, empty, both, made, checked, either, prefer, operator, lone, binary, nest, angles, under, arrow, list, many, chain, path, sliced, written, part, Part, TreeOf, types, plains, exprs, trees}
use Rattle.educe_grammar.specs.Reads.{parts_below, readers_below, read, rule_of}
use Rattle.educe_grammar.proofs.Productions.{productions}
use Rattle.educe_grammar.proofs.Unrolling.{read_below}
use Rattle.educe_grammar.proofs.Steps.{ended, chose, expected, entered, skipped}
use Rattle.educe_grammar.proofs.Beginnings.{both_hold, seen, is_plain, accepted_plain, sign_plain, joint_sign, paired, loned, operated, opening}
use Rattle.educe_grammar.proofs.Sound.{rule_sound, parts_sound}
use Rattle.educe_grammar.proofs.Keeping.{plains_keep}
use Rattle.educe_grammar.proofs.Balanced.{IsEven, even_kept, plain_even, even_below}
use Rattle.educe_grammar.proofs.Failing.{failed, ok_fails, syntax_fails, place_same, made_fails, ended_fails, expect_fails, skip_fails, written_fails, enter_fails}
use Rattle.educe_grammar.proofs.Counted.{DeepAt, DeepPlace, deep_after, deep_less, deep_open, deep_link, deep_here, deep_place}
use Rattle.educe_grammar.proofs.Opening.{opens_with, is_opening_look, begins_with_opener, is_ready, terminal_opens, punct_opens, start_opens, look_opens, rule_opens}

-- ---- loops

-- P holds where the program fails, and behind what it reads and behind plain tokens what holds of the rest holds of the whole.
module _ {A : Type 0} (p : Parser A) (left : ℕ) (P : Tokens → Type 0)
    (fails : (ts : Tokens) → p ts ≡ Err (TooDeep left) → P ts)
    (behind : (ts rest : Tokens) (x : A) → p ts ≡ Ok (x, rest) → P rest → P ts)
    (plain : (t : Token) (ts : Tokens) → is_plain t.kind ≡ true → P ts → P (t ∷ ts)) where
  -- items with separators between
  items_fail : (separates : Token → Bool) (between : (t : Token) → separates t ≡ true → is_plain t.kind ≡ true) (stop : Look) (n : ℕ) (found : List A) (ts : Tokens)
      → items separates stop p n found ts ≡ Err (TooDeep left) → P ts
  unfolding items
  items_fail separates between stop zero found ts h = absurd (syntax_fails {A = List A} (length ts) left h)
  items_fail separates between stop (suc n) found ts h =
      elim (chose (sees_any stop ts) _ _ (Err (TooDeep left)) h) [
        | inl u ↦ absurd (ok_fails _ (TooDeep left) u.1)
        | inr u ↦ elim (failed (p ts) _ (TooDeep left) u.1) [
          | inl v ↦ fails ts v
          | inr v ↦ elim (chose (sees separates v.left) _ _ (Err (TooDeep left)) v.second) [
            | inl w ↦ (let s = seen separates v.left w.0 in
                let more = items_fail separates between stop n (found ++ v.value ∷ []) (drop 1 v.left) w.1 in
                let dropped : drop 1 v.left ≡ s.1 = ap (drop 1) s.2 in
                behind ts v.left v.value v.first (subst P (sym s.2) (plain s.0 s.1 (between s.0 s.3) (subst P dropped more))))
            | inr w ↦ absurd (ok_fails _ (TooDeep left) w.1)
          ]
        ]
      ]

  -- items one behind the other
  repeat_fails : (look : Look) (n : ℕ) (found : List A) (ts : Tokens) → repeat look p n found ts ≡ Err (TooDeep left) → P ts
  unfolding repeat
  repeat_fails look zero found ts h = absurd (syntax_fails {A = List A} (length ts) left h)
  repeat_fails look (suc n) found ts h =
      elim (chose (sees_any look ts) _ _ (Err (TooDeep left)) h) [
        | inl u ↦ elim (failed (p ts) _ (TooDeep left) u.1) [
          | inl v ↦ fails ts v
          | inr v ↦ behind ts v.left v.value v.first (repeat_fails look n (found ++ v.value ∷ []) v.left v.second)
        ]
        | inr u ↦ absurd (ok_fails _ (TooDeep left) u.1)
      ]

  -- items with `::` between
  segments_fail : (n : ℕ) (found : List A) (ts : Tokens) → segments p n found ts ≡ Err (TooDeep left) → P ts
  unfolding segments
  segments_fail zero found ts h = absurd (syntax_fails {A = List A} (length ts) left h)
  segments_fail (suc n) found ts h =
      elim (failed (p ts) _ (TooDeep left) h) [
        | inl v ↦ fails ts v
        | inr v ↦ elim (chose (begins_pair 58 58 v.left) _ _ (Err (TooDeep left)) v.second) [
          | inl w ↦ (let s = paired 58 58 v.left w.0 in
              let more = segments_fail n (found ++ v.value ∷ []) (drop 2 v.left) w.1 in
              let dropped : drop 2 v.left ≡ s.behind = ap (drop 2) s.whole in
              let second = plain s.second s.behind (sign_plain 58 s.second.kind s.follows) (subst P dropped more) in
              let first = plain s.first (s.second ∷ s.behind) (sign_plain 58 s.first.kind (joint_sign 58 s.first.kind s.joins)) second in
              behind ts v.left v.value v.first (subst P (sym s.whole) first))
          | inr w ↦ absurd (ok_fails _ (TooDeep left) w.1)
        ]
      ]

  -- Where the chain has too many links, an opener counts for each, and the one that stands there.
  links_fail : (look : Look) → is_opening_look look ≡ true
      → ((k : ℕ) (ts rest : Tokens) (x : A) → p ts ≡ Ok (x, rest) → DeepAt k left rest → DeepAt (suc k) left ts)
      → (n : ℕ) (found : List A) (ts : Tokens) → links look p n found ts ≡ Err (TooDeep left) → DeepAt n left ts ⊎ P ts
  unfolding links
  links_fail look opening one_more zero found ts h =
      elim (chose (sees_any look ts) _ _ (Err (TooDeep left)) h) [
        | inl u ↦ (let s = seen _ ts (look_opens look ts opening u.0) in
            let here : DeepAt 0 (length ts) ts = subst (λ us. DeepAt 0 (length us) us) (sym s.2) (deep_here s.0 s.1 s.3) in
            inl (subst (λ n. DeepAt 0 n ts) (place_same {A = List A} (length ts) left u.1) here))
        | inr u ↦ absurd (ok_fails _ (TooDeep left) u.1)
      ]
  links_fail look opening one_more (suc n) found ts h =
      elim (chose (sees_any look ts) _ _ (Err (TooDeep left)) h) [
        | inl u ↦ elim (failed (p ts) _ (TooDeep left) u.1) [
          | inl v ↦ inr (fails ts v)
          | inr v ↦ elim (links_fail look opening one_more n (found ++ v.value ∷ []) v.left v.second) [
            | inl deep ↦ inl (one_more n ts v.left v.value v.first deep)
            | inr w ↦ inr (behind ts v.left v.value v.first w)
          ]
        ]
        | inr u ↦ absurd (ok_fails _ (TooDeep left) u.1)
      ]

-- ---- levels

-- A level that fails behind its opener: it has no budget, or what stands inside fails.
nested_deep : {B : Type 0} (budget depth left : ℕ) (t : Token) (mid ts rest : Tokens) (next : Parser B) → depth ≤ budget → opening t ≡ true → IsEven mid → ts ≡ t ∷ mid ++ rest
    → ((us : Tokens) → next us ≡ Err (TooDeep left) → DeepAt (depth - 1) left us) → and_then (enter budget (length ts) rest) (λ _. next) ≡ Err (TooDeep left) → DeepAt depth left ts
nested_deep budget depth left t mid ts rest next fits opener even whole deep h =
    elim (failed (enter budget (length ts) rest) (λ _. next) (TooDeep left) h) [
      | inl u ↦ (let e = enter_fails budget (length ts) left rest u in
          let here : DeepAt 0 (length ts) ts = subst (λ us. DeepAt 0 (length us) us) (sym whole) (deep_here t (mid ++ rest) opener) in
          let none : 0 ≡ depth = omega (arith, e.0, fits) in
          subst (λ d. DeepAt d left ts) none (subst (λ n. DeepAt 0 n ts) e.1 here))
      | inr v ↦ (let e = entered budget (length ts) rest v.left v.value v.first in
          let inside = subst (DeepAt (depth - 1) left) (sym e.1) (deep v.left v.second) in
          let level = deep_open (depth - 1) left t (mid ++ rest) opener (deep_after (depth - 1) left mid rest even inside) in
          subst (λ us. DeepAt depth left us) (sym whole) (deep_less depth (suc (depth - 1)) left (t ∷ mid ++ rest) (omega arith) level))
    ]

-- an operator whose second operand fails
operand_deep : {A : Type 0} (p : Parser A) (budget left : ℕ) (k : Option (Operator × ℕ)) (ts : Tokens) → operator_at ts ≡ k → ((us : Tokens) → p us ≡ Err (TooDeep left) → DeepAt budget left us)
    → binary_with k p ts ≡ Err (TooDeep left) → DeepAt budget left ts
operand_deep {A} p budget left None ts at deep h = absurd (syntax_fails {A = Operator × A} (length ts) left h)
operand_deep p budget left (Some o) ts at deep h =
    let f = operated ts o.0 o.1 at in
    let behind : drop o.1 ts ≡ f.behind = ap (drop o.1) f.whole ∙ ap (λ n. drop n (f.op ++ f.behind)) f.size ∙ drop-append_seam f.op f.behind in
    let fails = made_fails (p (drop o.1 ts)) (λ x _. (o.0, x)) left h in
    subst (DeepAt budget left) (sym f.whole) (deep_after budget left f.op f.behind (plains_keep IsEven even_kept f.op f.plain) (subst (DeepAt budget left) behind (deep (drop o.1 ts) fails)))

-- a token that is asked for is plain
accepted_token : (asked : _) (t : Token) → accepts asked t ≡ true → is_plain t.kind ≡ true
unfolding accepts
accepted_token asked t is = accepted_plain (set_of asked) t.kind t.spelling is

-- no token is even
even_nil : IsEven []
even_nil ts = refl

-- ---- rules

-- The depth is within the budget and within the limit of chains.
abbrev Fits : ℕ → ℕ → Type 0
Fits budget depth = (depth ≤ budget) × (depth ≤ chain_limit)

-- inside of a level the depth fits with one less
fits_inside : (budget depth : ℕ) → Fits budget depth → Fits (budget - 1) (depth - 1)
fits_inside budget depth fits = (omega (arith, fits.0), omega (arith, fits.1))

module _ (n : ℕ) (part_deep : (budget depth : ℕ) → Fits budget depth → (p : Part) (ts : Tokens) (left : ℕ) → readers_below n budget p ts ≡ Err (TooDeep left) → DeepAt depth left ts) where
  -- what holds behind what a rule reads holds in front of it
  rule_behind : {A : Type 0} (g : Rule A) (budget : ℕ) (ts rest : Tokens) (x : A) → run (readers_below n) budget g ts ≡ Ok (x, rest) → (k left : ℕ) → DeepAt k left rest → DeepAt k left ts
  rule_behind g budget ts rest x h k left deep =
      let t = rule_sound (readers_below n) (parts_below n) (parts_sound n) g budget ts rest x h in
      subst (DeepAt k left) (sym t.whole) (deep_after k left t.front rest (even_below n g budget t.front x t.is_in) deep)

  -- a link counts for one
  rule_counts : {A : Type 0} (g : Rule A) (budget : ℕ) → begins_with_opener g ≡ true → (left k : ℕ) (ts rest : Tokens) (x : A) → run (readers_below n) budget g ts ≡ Ok (x, rest) → DeepAt k left rest
      → DeepAt (suc k) left ts
  rule_counts g budget opens left k ts rest x h deep =
      let t = rule_sound (readers_below n) (parts_below n) (parts_sound n) g budget ts rest x h in
      let even = even_below n g budget t.front x t.is_in in
      let s = seen _ t.front (rule_opens (parts_below n) g opens budget t.front x t.is_in) in
      subst (DeepAt (suc k) left) (ap (λ us. us ++ rest) (sym s.2) ∙ sym t.whole) (deep_link k left s.0 s.1 rest (subst IsEven s.2 even) s.3 deep)

  -- behind plain tokens the same count
  plain_behind : (k left : ℕ) (t : Token) (ts : Tokens) → is_plain t.kind ≡ true → DeepAt k left ts → DeepAt k left (t ∷ ts)
  plain_behind k left t ts is deep = deep_after k left (t ∷ []) ts (plain_even t is) deep

  -- where the program of a rule rejects what nests too deep, more openers count than a depth that fits its budget, if so it is with
  -- the parts
  pub rule_deep : {A : Type 0} (g : Rule A) → is_ready g ≡ true → (budget depth : ℕ) → Fits budget depth → (ts : Tokens) (left : ℕ) → run (readers_below n) budget g ts ≡ Err (TooDeep left) → DeepAt depth left ts
  unfolding run is_ready
  rule_deep (token asked) ready budget depth within ts left h = absurd (expect_fails (accepts asked) ts left h)
  rule_deep documentation ready budget depth within ts left h = absurd (expect_fails documents ts left h)
  rule_deep (empty x) ready budget depth within ts left h = absurd (ok_fails _ (TooDeep left) h)
  rule_deep (both g k) ready budget depth within ts left h =
      let parts = both_hold (is_ready g) (is_ready k) ready in
      elim (failed (run (readers_below n) budget g ts) (λ x ts. and_then (run (readers_below n) budget k ts) (λ y ts. Ok ((x, y), ts))) (TooDeep left) h) [
        | inl u ↦ rule_deep g parts.0 budget depth within ts left u
        | inr v ↦ rule_behind g budget ts v.left v.value v.first depth left (rule_deep k parts.1 budget depth within v.left left (made_fails (run (readers_below n) budget k v.left) (λ y _. (v.value, y)) left v.second))
      ]
  rule_deep (made f g) ready budget depth within ts left h = rule_deep g ready budget depth within ts left (made_fails (run (readers_below n) budget g ts) (λ x _. f x) left h)
  rule_deep {A} (checked test g) ready budget depth within ts left h =
      elim (failed (run (readers_below n) budget g ts) (λ x ts. if test x then Ok (x, ts) else Err (Syntax (length ts))) (TooDeep left) h) [
        | inl u ↦ rule_deep g ready budget depth within ts left u
        | inr v ↦ elim (chose (test v.value) (Ok (v.value, v.left)) (Err (Syntax (length v.left))) (Err (TooDeep left)) v.second) [
          | inl w ↦ absurd (ok_fails _ (TooDeep left) w.1)
          | inr w ↦ absurd (syntax_fails {A = A} (length v.left) left w.1)
        ]
      ]
  rule_deep (either look g k) ready budget depth within ts left h =
      elim (chose (sees_any look ts) (run (readers_below n) budget g ts) (run (readers_below n) budget k ts) (Err (TooDeep left)) h) [
        | inl u ↦ rule_deep g (both_hold (is_ready g) (is_ready k) ready).0 budget depth within ts left u.1
        | inr u ↦ rule_deep k (both_hold (is_ready g) (is_ready k) ready).1 budget depth within ts left u.1
      ]
  rule_deep (prefer asked g k) ready budget depth within ts left h =
      elim (chose (sees (accepts asked) ts) (run (readers_below n) budget g ts) (run (readers_below n) budget k ts) (Err (TooDeep left)) h) [
        | inl u ↦ rule_deep g (both_hold (is_ready g) (is_ready k) ready).0 budget depth within ts left u.1
        | inr u ↦ rule_deep k (both_hold (is_ready g) (is_ready k) ready).1 budget depth within ts left u.1
      ]
  rule_deep (operator c d) ready budget depth within ts left h = absurd (skip_fails (begins_pair c d ts) 2 ts left h)
  rule_deep (lone c d g) ready budget depth within ts left h =
      elim (failed (skip_if (begins_lone c d ts) 1 ts) (λ _. run (readers_below n) budget g) (TooDeep left) h) [
        | inl u ↦ absurd (skip_fails (begins_lone c d ts) 1 ts left u)
        | inr v ↦ (let s = skipped (begins_lone c d ts) 1 ts v.left v.value v.first in
            let p = loned c d ts s.0 in
            let same : v.left ≡ p.behind = sym s.1 ∙ ap (drop 1) p.whole in
            let deep = subst (DeepAt depth left) same (rule_deep g ready budget depth within v.left left v.second) in
            subst (DeepAt depth left) (sym p.whole) (plain_behind depth left p.first p.behind (sign_plain c p.first.kind p.is) deep))
      ]
  rule_deep (binary g) ready budget depth within ts left h =
      operand_deep (run (readers_below n) budget g) depth left (operator_at ts) ts refl (λ us. rule_deep g ready budget depth within us left) h
  rule_deep (nest b g) ready budget depth within ts left h =
      elim (failed (expect (opens b) ts) (λ _ rest. and_then (enter budget (length ts) rest) (λ _. ended (closes b) (run (readers_below n) (budget - 1) g))) (TooDeep left) h) [
        | inl u ↦ absurd (expect_fails (opens b) ts left u)
        | inr v ↦ nested_deep budget depth left v.value.token [] ts v.left (ended (closes b) (run (readers_below n) (budget - 1) g)) within.0 (start_opens b v.value.token v.value.passes) even_nil (expected (opens b) ts v.left v.value v.first)
            (λ us e. rule_deep g ready (budget - 1) (depth - 1) (fits_inside budget depth within) us left (ended_fails (run (readers_below n) (budget - 1) g us) (closes b) left e)) v.second
      ]
  rule_deep (angles g) ready budget depth within ts left h =
      elim (failed (skip_if (begins_lone 60 61 ts) 1 ts) (λ _ rest. and_then (enter budget (length ts) rest) (λ _. ended (accepts (Sign 62)) (run (readers_below n) (budget - 1) g))) (TooDeep left) h) [
        | inl u ↦ absurd (skip_fails (begins_lone 60 61 ts) 1 ts left u)
        | inr v ↦ (let s = skipped (begins_lone 60 61 ts) 1 ts v.left v.value v.first in
            let p = loned 60 61 ts s.0 in
            let whole : ts ≡ p.first ∷ v.left = p.whole ∙ ap (λ us. p.first ∷ us) (sym (ap (drop 1) p.whole) ∙ s.1) in
            nested_deep budget depth left p.first [] ts v.left (ended (accepts (Sign 62)) (run (readers_below n) (budget - 1) g)) within.0 (punct_opens 60 p.first refl p.is) even_nil whole
            (λ us e. rule_deep g ready (budget - 1) (depth - 1) (fits_inside budget depth within) us left (ended_fails (run (readers_below n) (budget - 1) g us) (accepts (Sign 62)) left e)) v.second)
      ]
  rule_deep (under asked g) ready budget depth within ts left h =
      let parts = both_hold (opens_with asked) (is_ready g) ready in
      elim (failed (expect (accepts asked) ts) (λ _ rest. and_then (enter budget (length ts) rest) (λ _. run (readers_below n) (budget - 1) g)) (TooDeep left) h) [
        | inl u ↦ absurd (expect_fails (accepts asked) ts left u)
        | inr v ↦ nested_deep budget depth left v.value.token [] ts v.left (run (readers_below n) (budget - 1) g) within.0 (terminal_opens asked v.value.token parts.0 v.value.passes) even_nil (expected (accepts asked) ts v.left v.value v.first)
            (λ us e. rule_deep g parts.1 (budget - 1) (depth - 1) (fits_inside budget depth within) us left e) v.second
      ]
  rule_deep (arrow g) ready budget depth within ts left h =
      elim (failed (skip_if (begins_pair 45 62 ts) 2 ts) (λ _ rest. and_then (enter budget (length ts) rest) (λ _. run (readers_below n) (budget - 1) g)) (TooDeep left) h) [
        | inl u ↦ absurd (skip_fails (begins_pair 45 62 ts) 2 ts left u)
        | inr v ↦ (let s = skipped (begins_pair 45 62 ts) 2 ts v.left v.value v.first in
            let p = paired 45 62 ts s.0 in
            let whole : ts ≡ p.first ∷ p.second ∷ v.left = p.whole ∙ ap (λ us. p.first ∷ p.second ∷ us) (sym (ap (drop 2) p.whole) ∙ s.1) in
            let even = plain_even p.second (sign_plain 62 p.second.kind p.follows) in
            nested_deep budget depth left p.first (p.second ∷ []) ts v.left (run (readers_below n) (budget - 1) g) within.0 (punct_opens 45 p.first refl (joint_sign 45 p.first.kind p.joins)) even whole
            (λ us e. rule_deep g ready (budget - 1) (depth - 1) (fits_inside budget depth within) us left e) v.second)
      ]
  rule_deep (list separator stop g) ready budget depth within ts left h =
      items_fail (run (readers_below n) budget g) left (DeepAt depth left) (λ us. rule_deep g ready budget depth within us left) (λ us rest x e. rule_behind g budget us rest x e depth left)
      (plain_behind depth left) (accepts separator) (accepted_token separator) stop (suc (length ts)) [] ts h
  rule_deep (many look g) ready budget depth within ts left h =
      repeat_fails (run (readers_below n) budget g) left (DeepAt depth left) (λ us. rule_deep g ready budget depth within us left) (λ us rest x e. rule_behind g budget us rest x e depth left)
      (plain_behind depth left) look (suc (length ts)) [] ts h
  rule_deep (chain look g) ready budget depth within ts left h =
      let parts = both_hold (is_opening_look look) (begins_with_opener g && is_ready g) ready in
      let link = both_hold (begins_with_opener g) (is_ready g) parts.1 in
      elim (links_fail (run (readers_below n) budget g) left (DeepAt depth left) (λ us. rule_deep g link.1 budget depth within us left) (λ us rest x e. rule_behind g budget us rest x e depth left)
      (plain_behind depth left) look parts.0 (rule_counts g budget link.0 left) chain_limit [] ts h) [
        | inl deep ↦ deep_less depth chain_limit left ts within.1 deep
        | inr deep ↦ deep
      ]
  rule_deep (path g) ready budget depth within ts left h =
      segments_fail (run (readers_below n) budget g) left (DeepAt depth left) (λ us. rule_deep g ready budget depth within us left) (λ us rest x e. rule_behind g budget us rest x e depth left)
      (plain_behind depth left) (suc (length ts)) [] ts h
  rule_deep (sliced g) ready budget depth within ts left h = rule_deep g ready budget depth within ts left (made_fails (run (readers_below n) budget g ts) (λ x rest. (x, since ts rest)) left h)
  rule_deep (written g) ready budget depth within ts left h =
      elim (failed (run (readers_below n) budget g ts) (λ x rest. written_if x (since ts rest) rest (may_be_copied (lexemes (since ts rest))) refl) (TooDeep left) h) [
        | inl u ↦ rule_deep g ready budget depth within ts left u
        | inr v ↦ absurd (written_fails v.value (since ts v.left) v.left (may_be_copied (lexemes (since ts v.left))) refl left v.second)
      ]
  rule_deep (part p) ready budget depth within ts left h = part_deep budget depth within p ts left h

-- each part is ready
part_ready : (p : Part) → is_ready (rule_of p) ≡ true
unfolding is_ready begins_with_opener productions
part_ready types = refl
part_ready plains = refl
part_ready exprs = refl
part_ready trees = refl

-- where a part rejects what nests too deep, more openers count than a depth that fits its budget
pub parts_deep : (n budget depth : ℕ) → Fits budget depth → (p : Part) (ts : Tokens) (left : ℕ) → readers_below n budget p ts ≡ Err (TooDeep left) → DeepAt depth left ts
unfolding readers_below
parts_deep zero budget depth within p ts left h = absurd (syntax_fails {A = TreeOf p} (length ts) left h)
parts_deep (suc n) budget depth within p ts left h = rule_deep n (parts_deep n) (rule_of p) (part_ready p) budget depth within ts left h

-- the lesser of the budget and the limit fits it
lesser_fits : (budget : ℕ) → Fits budget (min budget chain_limit)
lesser_fits budget = (min-le_left budget chain_limit, min-le_right budget chain_limit)

-- where a rule does
pub reads_deep : {A : Type 0} (budget : ℕ) (g : Rule A) → is_ready g ≡ true → (ts : Tokens) (left : ℕ) → read budget g ts ≡ Err (TooDeep left) → DeepAt (min budget chain_limit) left ts
reads_deep budget g ready ts left h =
    rule_deep (suc budget) (parts_deep (suc budget)) g ready budget (min budget chain_limit) (lesser_fits budget) ts left (sym (read_below budget g ts) ∙ h)

-- The place is a token's, and more openers count there than the lesser of the budget and the limit.
pub read_place : {A : Type 0} (budget : ℕ) (g : Rule A) → is_ready g ≡ true → (ts : Tokens) (left : ℕ) → read budget g ts ≡ Err (TooDeep left) → DeepPlace (min budget chain_limit) left ts
read_place budget g ready ts left h = deep_place (min budget chain_limit) left ts (reads_deep budget g ready ts left h)
