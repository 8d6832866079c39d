-- How a literal between quotes is read through each of its parts.
use Rattle.std.proofs.Common.{◌≡◌, ℕ, ◌+◌, ◌*◌, ◌<◌, ◌≤◌, true, false, cond, ◌&&◌, ◌||◌, not, List, [], ◌∷◌, ◌++◌, length, refl, sym, ap, ◌∙◌, subst, ⊎_elim, arith, append_assoc}
use Rattle.std.specs.Prelude.{◌==◌, nat_lt, nat_le}
use Rattle.std.specs.Char.{digit_value}
use Rattle.std.specs.List.{list_all, filter}
use Rattle.std.specs.Str.Parse.{digits_value_after}
use Rattle.std.proofs.lemmas.Bool.{false≢true, and_parts, and_left, or_cases, or_from, and_from, not-true, lt-ltb, leb-true, cond-true, cond-false}
use Rattle.std.proofs.lemmas.Bool.Decides.{nat_tests}
use Rattle.educe_tokens_pieces.specs.declared.quotes.Quote.{Quote}
use Rattle.educe_tokens_pieces.specs.declared.quotes.Quote.TheVariants.{Str, ByteStr, CStr, Char, Byte}
use Rattle.educe_tokens_pieces.specs.declared.quotes.Within.{Within}
use Rattle.educe_tokens_pieces.specs.declared.quotes.Within.TheVariants.{Open, High, Low, Brace, Code}
use Rattle.educe_tokens_pieces.specs.declared.quotes.Within.TheVariants as places
use Rattle.educe_tokens_pieces.specs.declared.quotes.Next.{Next}
use Rattle.educe_tokens_pieces.specs.declared.quotes.Next.TheVariants.{Go, End, Stop}
use Rattle.educe_tokens_pieces.specs.Quotes.{Part, Plain, Escape, Hex, Unicode, Break, ReturnBreak, spelled, closing, is_single, is_bytes, top_digit, is_escape, escape_value, is_hex, is_scalar, is_code, code_value, is_plain, may_hold, is_break, part_value}
use Rattle.educe_tokens_pieces.specs.Machine.{behind_part, step, gives, ends, given}
use Rattle.educe_tokens_pieces.proofs.Classes.{at_equal}
use Rattle.educe_tokens_pieces.proofs.Ends.{rest_ends}

-- what the characters give together from one that gave and did this
abbrev pub rest_given : List ℕ → Next → List ℕ → List ℕ
rest_given v x cs = elim x [ Go more ↦ v ++ given more cs | End ↦ [] | Stop ↦ [] ]

-- from one place, the front s of a text gives v and leads to another place before the rest
pub record Reads (w : Within) (s v : List ℕ) (m : Within) (cs : List ℕ) : Type 0 where
  pub to_end : ends w s ≡ ends m cs
  pub value : given w s ≡ v ++ given m cs

-- one character
pub one : (w m : Within) (c : ℕ) (v cs : List ℕ) → step w c ≡ Go m → gives w c ≡ v → Reads w (c ∷ cs) v m cs
one w m c v cs e f = record {
  to_end = ap (λ x. rest_ends x cs) e;
  value = λ i. rest_given (f i) (e i) cs;
}

-- and then more
pub onward : (w m n : Within) (s t cs v u : List ℕ) → Reads w s v m t → Reads m t u n cs → Reads w s (v ++ u) n cs
onward w m n s t cs v u a b = record {
  to_end = a.to_end ∙ b.to_end;
  value = a.value ∙ ap (λ x. v ++ x) b.value ∙ sym (append_assoc v u (given n cs));
}

-- no mark at the end is a `\`
escape_no_closing : (q : Quote) → (92 == closing q) ≡ false
escape_no_closing Str = refl
escape_no_closing ByteStr = refl
escape_no_closing CStr = refl
escape_no_closing Char = refl
escape_no_closing Byte = refl

-- a `\`
escape_reads : (q : Quote) (cs : List ℕ) → Reads (Open q) (92 ∷ cs) [] (places.Escape q) cs
escape_reads q cs = one (Open q) (places.Escape q) 92 [] cs
    (cond-false ((92 == closing q) && not (is_single q)) End (Go (places.Escape q)) (and_left _ _ (escape_no_closing q)))
    (ap (λ b. cond (b || true) [] (92 ∷ [])) (escape_no_closing q))

-- a character that stands for itself
pub plain_step : (q : Quote) (c : ℕ) → is_plain q c ≡ true → step (Open q) c ≡ Go (behind_part q)
plain_step q c h =
    let marks = and_parts (not (c == closing q) && not (c == 92)) _ h in
    let each = and_parts (not (c == closing q)) (not (c == 92)) marks.0 in
    cond-false ((c == closing q) && not (is_single q)) End _ (and_left _ _ (not-true _ each.0))
    ∙ cond-false (c == 92) (Go (places.Escape q)) _ (not-true _ each.1)
    ∙ cond-true (is_plain q c) (Go (behind_part q)) Stop h

-- it is no mark
plain_no_mark : (q : Quote) (c : ℕ) → is_plain q c ≡ true → ((c == closing q) || (c == 92)) ≡ false
plain_no_mark q c h =
    let marks = and_parts (not (c == closing q) && not (c == 92)) _ h in
    let each = and_parts (not (c == closing q)) (not (c == 92)) marks.0 in
    or_from _ _ (not-true _ each.0) (not-true _ each.1)

-- it gives itself
plain_reads : (q : Quote) (c : ℕ) (cs : List ℕ) → is_plain q c ≡ true → Reads (Open q) (c ∷ cs) (c ∷ []) (behind_part q) cs
plain_reads q c cs h =
    one (Open q) (behind_part q) c (c ∷ []) cs (plain_step q c h) (cond-false ((c == closing q) || (c == 92)) [] (c ∷ []) (plain_no_mark q c h))

-- a digit is neither a brace nor a `_`
hex_no_mark : (c : ℕ) → is_hex c ≡ true → ((c == 125) ≡ false) × ((c == 95) ≡ false)
hex_no_mark c h = (grind (arith, nat_tests), grind (arith, nat_tests))

-- the value of more digits behind one
abbrev pub value_from : ℕ → List ℕ → ℕ
value_from v digits = digits_value_after 16 v (filter (λ c. not (c == 95)) digits)

-- a digit behind `\u{`
digit_reads : (q : Quote) (n v d : ℕ) (cs : List ℕ) → is_hex d ≡ true → n < 6 → Reads (Code q n v) (d ∷ cs) [] (Code q (n + 1) (v * 16 + digit_value d)) cs
digit_reads q n v d cs h few =
    let marks = hex_no_mark d h in
    one (Code q n v) (Code q (n + 1) (v * 16 + digit_value d)) d [] cs
    (cond-false (d == 125) _ _ marks.0 ∙ cond-false (d == 95) _ _ marks.1 ∙ cond-true (is_hex d && nat_lt n 6) (Go (Code q (n + 1) (v * 16 + digit_value d))) Stop (and_from _ _ h (lt-ltb n 6 few)))
    (cond-false (d == 125) (v ∷ []) [] marks.0)

-- a `_` behind a digit
mark_reads : (q : Quote) (n v d : ℕ) (cs : List ℕ) → (d == 95) ≡ true → 0 < n → Reads (Code q n v) (d ∷ cs) [] (Code q n v) cs
mark_reads q n v d cs h some =
    at_equal (λ x. Reads (Code q n v) (x ∷ cs) [] (Code q n v) cs) d 95
    (one (Code q n v) (Code q n v) 95 [] cs (cond-true (nat_lt 0 n) (Go (Code q n v)) Stop (lt-ltb 0 n some)) refl) h

-- a digit adds to the value
pub value-digit : (v d : ℕ) (ds : List ℕ) → is_hex d ≡ true → value_from v (d ∷ ds) ≡ value_from (v * 16 + digit_value d) ds
value-digit v d ds h =
    let rest : List ℕ = filter (λ c. not (c == 95)) ds in
    ap (λ b. digits_value_after 16 v (cond (not b) (d ∷ rest) rest)) (hex_no_mark d h).1

-- a `_` adds nothing
pub value-mark : (v d : ℕ) (ds : List ℕ) → (d == 95) ≡ true → value_from v (d ∷ ds) ≡ value_from v ds
value-mark v d ds h =
    let rest : List ℕ = filter (λ c. not (c == 95)) ds in
    ap (λ b. digits_value_after 16 v (cond (not b) (d ∷ rest) rest)) h

-- a digit counts
pub count-digit : (d : ℕ) (ds : List ℕ) → is_hex d ≡ true → length (filter is_hex (d ∷ ds)) ≡ length (filter is_hex ds) + 1
count-digit d ds h = ap length (cond-true (is_hex d) (d ∷ filter is_hex ds) (filter is_hex ds) h) ∙ omega arith

-- a `_` does not
pub count-mark : (d : ℕ) (ds : List ℕ) → (d == 95) ≡ true → length (filter is_hex (d ∷ ds)) ≡ length (filter is_hex ds)
count-mark d ds h = at_equal (λ x. length (filter is_hex (x ∷ ds)) ≡ length (filter is_hex ds)) d 95 refl h

-- digits, `_` between them, and the brace at the end
code_reads : (q : Quote) (n v : ℕ) (digits cs : List ℕ) → 0 < n → list_all (λ c. is_hex c || (c == 95)) digits ≡ true → n + length (filter is_hex digits) ≤ 6
    → is_scalar (value_from v digits) ≡ true → Reads (Code q n v) (digits ++ 125 ∷ cs) (value_from v digits ∷ []) (behind_part q) cs
code_reads q n v [] cs some all few scalar =
    one (Code q n v) (behind_part q) 125 (v ∷ []) cs (cond-true (nat_lt 0 n && is_scalar v) (Go (behind_part q)) Stop (and_from _ _ (lt-ltb 0 n some) scalar)) refl
code_reads q n v (d ∷ ds) cs some all few scalar =
    let parts = and_parts (is_hex d || (d == 95)) _ all in
    let more : ℕ = v * 16 + digit_value d in
    let rest : List ℕ = ds ++ 125 ∷ cs in
    let Goal : ℕ → Type 0 = λ x. Reads (Code q n v) (d ∷ rest) (x ∷ []) (behind_part q) cs in
    ⊎_elim
    (λ hex. let count = count-digit d ds hex in let value = value-digit v d ds hex in
    subst Goal (sym value)
    (onward (Code q n v) (Code q (n + 1) more) (behind_part q) (d ∷ rest) rest cs [] (value_from more ds ∷ [])
    (digit_reads q n v d rest hex (omega arith))
    (code_reads q (n + 1) more ds cs (omega arith) parts.1 (omega arith) (ap is_scalar (sym value) ∙ scalar))))
    (λ mark. let count = count-mark d ds mark in let value = value-mark v d ds mark in
    subst Goal (sym value)
    (onward (Code q n v) (Code q n v) (behind_part q) (d ∷ rest) rest cs [] (value_from v ds ∷ [])
    (mark_reads q n v d rest mark some)
    (code_reads q n v ds cs some parts.1 (omega arith) (ap is_scalar (sym value) ∙ scalar))))
    (or_cases (is_hex d) (d == 95) parts.0)

-- all digits, with the brace before them
unicode_reads : (q : Quote) (digits cs : List ℕ) → is_code digits ≡ true → is_scalar (code_value digits) ≡ true → Reads (Code q 0 0) (digits ++ 125 ∷ cs) (code_value digits ∷ []) (behind_part q) cs
unicode_reads q [] cs h scalar = absurd (false≢true h)
unicode_reads q (d ∷ ds) cs h scalar =
    let first = and_parts (is_hex d) _ h in
    let rest = and_parts (list_all (λ c. is_hex c || (c == 95)) ds) _ first.1 in
    let few = leb-true (length (filter is_hex (d ∷ ds))) 6 rest.1 in
    let hex = first.0 in
    let count = count-digit d ds hex in
    let value = value-digit 0 d ds hex in
    let more : ℕ = 0 * 16 + digit_value d in
    subst (λ x. Reads (Code q 0 0) (d ∷ (ds ++ 125 ∷ cs)) (x ∷ []) (behind_part q) cs) (sym value)
    (onward (Code q 0 0) (Code q (0 + 1) more) (behind_part q) (d ∷ (ds ++ 125 ∷ cs)) (ds ++ 125 ∷ cs) cs [] (value_from more ds ∷ [])
    (digit_reads q 0 0 d (ds ++ 125 ∷ cs) hex (omega arith))
    (code_reads q (0 + 1) more ds cs (omega arith) rest.0 (omega arith) (ap is_scalar (sym value) ∙ scalar)))

-- a character behind a `\` that goes on and completes nothing
mark_behind : (q : Quote) (m : Within) (c : ℕ) (cs : List ℕ) → step (places.Escape q) c ≡ Go m → gives (places.Escape q) c ≡ [] → Reads (Open q) (92 ∷ c ∷ cs) [] m cs
mark_behind q m c cs e f = onward (Open q) (places.Escape q) m (92 ∷ c ∷ cs) (c ∷ cs) cs [] [] (escape_reads q (c ∷ cs)) (one (places.Escape q) m c [] cs e f)

-- behind a part that may be the end of a line
abbrev pub after : Quote → Part → Within
after q p = cond (is_break p) (places.Break q) (behind_part q)

-- each part gives its value
pub part_reads : (q : Quote) (p : Part) (cs : List ℕ) → may_hold q p ≡ true → Reads (Open q) (spelled p ++ cs) (part_value p) (after q p) cs
part_reads q (Plain c) cs h = plain_reads q c cs h
part_reads q (Escape c) cs h =
    onward (Open q) (places.Escape q) (behind_part q) (92 ∷ c ∷ cs) (c ∷ cs) cs [] (escape_value c ∷ []) (escape_reads q (c ∷ cs))
    (one (places.Escape q) (behind_part q) c (escape_value c ∷ []) cs (cond-true (is_escape c) (Go (behind_part q)) _ h) (cond-true (is_escape c) (escape_value c ∷ []) [] h))
part_reads q (Hex high low) cs h =
    let digits = and_parts (is_hex high && nat_le (digit_value high) (top_digit q)) _ h in
    let value : List ℕ = (digit_value high * 16 + digit_value low) ∷ [] in
    onward (Open q) (High q) (behind_part q) _ (high ∷ low ∷ cs) cs [] value (mark_behind q (High q) 120 (high ∷ low ∷ cs) refl refl)
    (onward (High q) (Low q (digit_value high)) (behind_part q) (high ∷ low ∷ cs) (low ∷ cs) cs [] value
    (one (High q) (Low q (digit_value high)) high [] (low ∷ cs) (cond-true (is_hex high && nat_le (digit_value high) (top_digit q)) (Go (Low q (digit_value high))) Stop digits.0) refl)
    (one (Low q (digit_value high)) (behind_part q) low value cs (cond-true (is_hex low) (Go (behind_part q)) Stop digits.1) refl))
part_reads q (Unicode digits) cs h =
    let text = and_parts (not (is_bytes q)) _ h in
    let code = and_parts (is_code digits) _ text.1 in
    let whole : (digits ++ 125 ∷ []) ++ cs ≡ digits ++ 125 ∷ cs = append_assoc digits (125 ∷ []) cs in
    subst (λ t. Reads (Open q) (92 ∷ 117 ∷ 123 ∷ t) (code_value digits ∷ []) (behind_part q) cs) (sym whole)
    (onward (Open q) (Brace q) (behind_part q) _ (123 ∷ (digits ++ 125 ∷ cs)) cs [] (code_value digits ∷ [])
    (mark_behind q (Brace q) 117 (123 ∷ (digits ++ 125 ∷ cs)) (cond-true (not (is_bytes q)) (Go (Brace q)) _ text.0) refl)
    (onward (Brace q) (Code q 0 0) (behind_part q) _ (digits ++ 125 ∷ cs) cs [] (code_value digits ∷ [])
    (one (Brace q) (Code q 0 0) 123 [] (digits ++ 125 ∷ cs) refl refl)
    (unicode_reads q digits cs code.0 code.1)))
part_reads q Break cs h = mark_behind q (places.Break q) 10 cs (cond-true (not (is_single q)) (Go (places.Break q)) _ h) refl
part_reads q ReturnBreak cs h =
    onward (Open q) (places.Return q) (places.Break q) _ (10 ∷ cs) cs [] []
    (mark_behind q (places.Return q) 13 (10 ∷ cs) (cond-true (not (is_single q)) (Go (places.Return q)) Stop h) refl)
    (one (places.Return q) (places.Break q) 10 [] cs refl refl)
