-- Raw strings: what is found at the front of a text is one, each is found, and what each consists of.
use Rattle.std.proofs.Common.{◌≡◌, ℕ, zero, suc, ◌+◌, ◌-◌, ◌*◌, ◌<◌, ◌≤◌, Bool, true, false, cond, ◌||◌, ◌&&◌, Option, Some, None, List, [], ◌∷◌, ◌++◌, length, take, drop, replicate, refl, sym, ap, ◌∙◌, subst, ⊎_elim, arith, append_assoc, append-nil, length-append}
use Rattle.std.specs.Prelude.{◌==◌, nat_le}
use Rattle.std.specs.List.{list_all}
use Rattle.std.specs.Char.{is_ascii}
use Rattle.std.proofs.Math.Seq.{take-append_seam}
use Rattle.std.proofs.lemmas.Bool.{and_parts, and_from, and_left, false≢true, cond_both, eqb-true, eq-eqb, leb-true, le-leb, cases_Bool}
use Rattle.std.proofs.lemmas.Bool.Decides.{nat_tests}
use Rattle.std.proofs.lemmas.List.{length-replicate, take-append-drop, length-take-le, nil_from_length, append_cancel_right}
use Rattle.std.proofs.lemmas.List.Sums.{prefix_len-le-length}
use Rattle.educe_tokens_pieces.specs.Chars.{begins}
use Rattle.educe_tokens_pieces.specs.Machine.{plus}
use Rattle.educe_tokens_pieces.specs.RawStrings.{mark_count, closes_raw, is_raw, is_raw_str, is_raw_byte_str, is_raw_c_str, raw_closing_len, raw_len, raw_value, IsRawOf}
use Rattle.educe_tokens_pieces.proofs.Lists.{one_longer}

-- so many `#`
abbrev pub marks_of : ℕ → List ℕ
marks_of n = replicate n 35

-- a `"`
abbrev is_quote : ℕ → Bool
is_quote c = c == 34

-- the `#` before a `"` are those in front of it
mark_count-quote : (n : ℕ) (ys : List ℕ) → mark_count (marks_of n ++ 34 ∷ ys) ≡ n
mark_count-quote zero ys = refl
mark_count-quote (suc n) ys = let more = mark_count-quote n ys in omega arith

-- at least so many `#` stand in front of any text
pub mark_count-marks : (n : ℕ) (ys : List ℕ) → n ≤ mark_count (marks_of n ++ ys)
mark_count-marks zero ys = omega arith
mark_count-marks (suc n) ys = let more = mark_count-marks n ys in omega arith

-- what stands behind the `#` and the `"`
drop-quote : (n : ℕ) (ys : List ℕ) → drop (n + 1) (marks_of n ++ 34 ∷ ys) ≡ ys
drop-quote zero ys = refl
drop-quote (suc n) ys = let one : suc (n + 1) ≡ suc n + 1 = omega arith in ap (λ k. drop k (marks_of (suc n) ++ 34 ∷ ys)) (sym one) ∙ drop-quote n ys

-- what stands behind the `#`
drop-marks : (n : ℕ) (ys : List ℕ) → drop n (marks_of n ++ ys) ≡ ys
drop-marks zero ys = refl
drop-marks (suc n) ys = drop-marks n ys

-- so many characters behind the `#` and the `"`
take-quote : (n k : ℕ) (ys : List ℕ) → take (n + 1 + k) (marks_of n ++ 34 ∷ ys) ≡ marks_of n ++ 34 ∷ take k ys
take-quote zero k ys = let one : suc k ≡ 1 + k = omega arith in ap (λ m. take m (34 ∷ ys)) (sym one)
take-quote (suc n) k ys = let one : suc (n + 1 + k) ≡ suc n + 1 + k = omega arith in ap (λ m. take m (marks_of (suc n) ++ 34 ∷ ys)) (sym one) ∙ ap (λ t. 35 ∷ t) (take-quote n k ys)

-- a text with a `"` behind the `#` in front is these, the `"` and the rest
marks_split : (s : List ℕ) → begins is_quote (drop (mark_count s) s) ≡ true → s ≡ marks_of (mark_count s) ++ 34 ∷ drop (mark_count s + 1) s
marks_split [] h = absurd (false≢true h)
marks_split (c ∷ s) h =
    let n : ℕ = mark_count s in
    let P : ℕ → Type 0 = λ k. begins is_quote (drop k (c ∷ s)) ≡ true → c ∷ s ≡ marks_of k ++ 34 ∷ drop (k + 1) (c ∷ s) in
    let one : suc n ≡ 1 + n = omega arith in
    let two : suc (n + 1) ≡ suc n + 1 = omega arith in
    cond_both (c == 35) (1 + n) 0 P
    (λ e. subst P one (λ k. (λ i. eqb-true c 35 e i ∷ marks_split s k i) ∙ ap (λ m. 35 ∷ (marks_of n ++ 34 ∷ drop m (c ∷ s))) two))
    (λ e k. ap (λ x. x ∷ s) (eqb-true c 34 k)) h

-- a raw text is some `#`, `"`, and a text that closes behind it
raw_split : (s : List ℕ) → is_raw s ≡ true → (n : ℕ) × (ys : List ℕ) × (n ≤ 255) × (s ≡ marks_of n ++ 34 ∷ ys) × (closes_raw n ys ≡ true)
raw_split s h =
    let p = and_parts (nat_le (mark_count s) 255 && begins is_quote (drop (mark_count s) s)) _ h in
    let q = and_parts (nat_le (mark_count s) 255) _ p.0 in
    (mark_count s, drop (mark_count s + 1) s, leb-true _ _ q.0, marks_split s q.1, p.1)

-- some `#`, `"`, and a text that closes behind it are a raw text
pub raw_joined : (n : ℕ) (ys : List ℕ) → n ≤ 255 → closes_raw n ys ≡ true → is_raw (marks_of n ++ 34 ∷ ys) ≡ true
raw_joined n ys few h =
    let count = mark_count-quote n ys in
    let few = le-leb n 255 few in
    let here = ap (begins is_quote) (drop-marks n (34 ∷ ys)) in
    let behind = ap (closes_raw n) (drop-quote n ys) in
    rw count (and_from _ _ (and_from _ _ few here) (behind ∙ h))

-- the length of a raw text by that of what stands behind the quote
raw_len-joined : (n : ℕ) (ys : List ℕ) → n ≤ 255 → raw_len (marks_of n ++ 34 ∷ ys) ≡ plus (n + 1) (raw_closing_len n ys)
raw_len-joined n ys few =
    let count = mark_count-quote n ys in
    let few = le-leb n 255 few in
    let here = ap (begins is_quote) (drop-marks n (34 ∷ ys)) in
    let behind = ap (λ t. plus (n + 1) (raw_closing_len n t)) (drop-quote n ys) in
    rw (count, few, here) behind

-- a `#` is no `"`
mark_no_quote : (c : ℕ) → (c == 35) ≡ true → (c == 34) ≡ false
mark_no_quote c h = grind (arith, nat_tests)

-- as many `#` stand in front, whatever follows
pub marks_stay : (n : ℕ) (s r : List ℕ) → n ≤ mark_count s → n ≤ mark_count (s ++ r)
marks_stay n [] r h = omega arith
marks_stay zero (c ∷ s) r h = omega arith
marks_stay (suc n) (c ∷ s) r h =
    ⊎_elim (λ e.
    let less : n ≤ mark_count s = omega (arith, rw e at h) in
    let more = marks_stay n s r less in
    rw e (omega arith))
    (λ e. absurd (omega (arith, rw e at h)))
    (cases_Bool (c == 35))

-- where a `"` closes a text, what follows doesn't say how many `#` are in front
mark_count-append : (n : ℕ) (s r : List ℕ) → closes_raw n s ≡ true → mark_count (s ++ r) ≡ mark_count s
mark_count-append n [] r h = absurd (false≢true h)
mark_count-append n (c ∷ s) r h =
    ⊎_elim (λ e.
    let apart = and_left (c == 34) (nat_le n (mark_count s)) (mark_no_quote c e) in
    let more = mark_count-append n s r (rw apart at h) in
    ap (λ m. cond (c == 35) (1 + m) 0) more)
    (λ e. rw e refl)
    (cases_Bool (c == 35))

-- what is found is a front of the text that is raw
abbrev pub RawEnds : List ℕ → Option ℕ → Type 0
RawEnds text None = Unit {0}
RawEnds text (Some n) = (is_raw (take n text) ≡ true) × (0 < n) × (n ≤ length text)

-- where a length is found, the raw text closes just there
abbrev RawCloses : ℕ → List ℕ → Option ℕ → Type 0
RawCloses marks text None = Unit {0}
RawCloses marks text (Some n) = (closes_raw marks (take n text) ≡ true) × (n ≤ length text)

-- so many `#` that stand in front are in front
mark_count-take : (n : ℕ) (cs : List ℕ) → n ≤ mark_count cs → mark_count (take n cs) ≡ n
mark_count-take n [] h = let none : n ≡ 0 = omega arith in ap (λ k. mark_count (take k [])) none ∙ sym none
mark_count-take zero (c ∷ cs) h = refl
mark_count-take (suc n) (c ∷ cs) h =
    cond_both (c == 35) (1 + mark_count cs) 0 (λ k. suc n ≤ k → mark_count (c ∷ take n cs) ≡ suc n)
    (λ e m. let less : n ≤ mark_count cs = omega arith in let more = mark_count-take n cs less in rw e (omega arith))
    (λ e m. absurd (omega arith)) h

-- the first `"` that closes
quote_closes : (n c : ℕ) (cs : List ℕ) → ((c == 34) && nat_le n (mark_count cs)) ≡ true → RawCloses n (c ∷ cs) (Some (1 + n))
quote_closes n c cs e =
    let p = and_parts (c == 34) _ e in
    let quote = p.0 in
    let enough = leb-true n _ p.1 in
    let within = prefix_len-le-length (λ c. c == 35) cs in
    let count = mark_count-take n cs enough in
    let short : n ≤ length cs = omega arith in
    let all : (length (take n cs) == n) ≡ true = eq-eqb _ _ (length-take-le n cs short) in
    let some : nat_le n n ≡ true = le-leb n n (omega arith) in
    let one : suc n ≡ 1 + n = omega arith in
    (subst (λ k. closes_raw n (take k (c ∷ cs)) ≡ true) one (rw (quote, count, some) all), omega arith)

-- behind a character that doesn't close
goes_on : (n c : ℕ) (cs : List ℕ) → ((c == 34) && nat_le n (mark_count cs)) ≡ false → (o : Option ℕ) → RawCloses n cs o → RawCloses n (c ∷ cs) (plus 1 o)
goes_on n c cs e None h = tt
goes_on n c cs e (Some k) h =
    let one : suc k ≡ 1 + k = omega arith in
    let same = mark_count-append n (take k cs) (drop k cs) h.0 in
    let whole = take-append-drop k cs in
    let test : ((c == 34) && nat_le n (mark_count (take k cs))) ≡ false = ap (λ m. (c == 34) && nat_le n m) (sym same ∙ ap mark_count whole) ∙ e in
    (subst (λ m. closes_raw n (take m (c ∷ cs)) ≡ true) one (rw test h.0), omega arith)

-- where it is found that a raw text closes, it does
raw_closing_is : (n : ℕ) (text : List ℕ) → RawCloses n text (raw_closing_len n text)
raw_closing_is n [] = tt
raw_closing_is n (c ∷ cs) =
    cond_both ((c == 34) && nat_le n (mark_count cs)) _ _ (RawCloses n (c ∷ cs))
    (λ e. quote_closes n c cs e)
    (λ e. goes_on n c cs e (raw_closing_len n cs) (raw_closing_is n cs))

-- the `"` that closes is found, whatever follows
closed_found : (n c : ℕ) (s r : List ℕ) → ((c == 34) && nat_le n (mark_count s)) ≡ true → closes_raw n (c ∷ s) ≡ true → raw_closing_len n (c ∷ (s ++ r)) ≡ Some (suc (length s))
closed_found n c s r e h =
    let p = and_parts (c == 34) _ e in
    let all : length s ≡ n = eqb-true _ _ (rw e at h) in
    let within = prefix_len-le-length (λ c. c == 35) (s ++ r) in
    let enough : n ≤ mark_count (s ++ r) = marks_stay n s r (leb-true n _ p.1) in
    let test : ((c == 34) && nat_le n (mark_count (s ++ r))) ≡ true = and_from _ _ p.0 (le-leb _ _ enough) in
    rw test (ap (λ (k : ℕ). Some k) (omega arith))

-- what closes at its end is found, whatever follows
raw_closing_found : (n : ℕ) (s r : List ℕ) → closes_raw n s ≡ true → raw_closing_len n (s ++ r) ≡ Some (length s)
raw_closing_found n [] r h = absurd (false≢true h)
raw_closing_found n (c ∷ s) r h =
    ⊎_elim
    (λ e. closed_found n c s r e h)
    (λ e.
    let rest : closes_raw n s ≡ true = (rw e at h) in
    let same : ((c == 34) && nat_le n (mark_count (s ++ r))) ≡ false = ap (λ m. (c == 34) && nat_le n m) (mark_count-append n s r rest) ∙ e in
    let found = raw_closing_found n s r rest in
    rw (same, found) (one_longer (length s)))
    (cases_Bool ((c == 34) && nat_le n (mark_count s)))

-- a raw text is found, whatever follows
pub raw_found : (s r : List ℕ) → is_raw s ≡ true → raw_len (s ++ r) ≡ Some (length s)
raw_found s r h =
    let p = raw_split s h in
    let text = p.3 in
    let n = p.0 in
    let ys = p.1 in
    let found : raw_len ((marks_of n ++ 34 ∷ ys) ++ r) ≡ Some (length (marks_of n ++ 34 ∷ ys)) =
    ap raw_len (append_assoc (marks_of n) (34 ∷ ys) r) ∙ raw_len-joined n (ys ++ r) p.2 ∙ ap (plus (n + 1)) (raw_closing_found n ys r p.4)
    ∙ ap (λ (k : ℕ). Some k) (omega (arith, length-append (marks_of n) (34 ∷ ys), length-replicate {A = ℕ} n 35)) in
    subst (λ t. raw_len (t ++ r) ≡ Some (length t)) (sym text) found

-- what is found behind the quote is found from the first `#` or `"` on
raw_some : (n : ℕ) (ys : List ℕ) → n ≤ 255 → (o : Option ℕ) → RawCloses n ys o → RawEnds (marks_of n ++ 34 ∷ ys) (plus (n + 1) o)
raw_some n ys few None h = tt
raw_some n ys few (Some k) h =
    let front : take (n + 1 + k) (marks_of n ++ 34 ∷ ys) ≡ marks_of n ++ 34 ∷ take k ys = take-quote n k ys in
    (ap is_raw front ∙ raw_joined n (take k ys) few h.0, omega arith, omega (arith, length-append (marks_of n) (34 ∷ ys), length-replicate {A = ℕ} n 35))

-- what is found at the front of a text is raw
pub raw_is : (text : List ℕ) → RawEnds text (raw_len text)
raw_is text =
    cond_both (nat_le (mark_count text) 255 && begins is_quote (drop (mark_count text) text)) _ _ (RawEnds text)
    (λ e.
    let p = and_parts (nat_le (mark_count text) 255) _ e in
    let n : ℕ = mark_count text in
    let ys : List ℕ = drop (n + 1) text in
    subst (λ t. RawEnds t (plus (n + 1) (raw_closing_len n ys))) (sym (marks_split text p.1)) (raw_some n ys (leb-true _ _ p.0) _ (raw_closing_is n ys)))
    (λ _. tt)

-- a text of `#` alone
all_marks : (cs : List ℕ) → mark_count cs ≡ length cs → cs ≡ marks_of (length cs)
all_marks [] h = refl
all_marks (c ∷ cs) h =
    ⊎_elim (λ e.
    let more : mark_count cs ≡ length cs = omega (arith, rw e at h) in
    λ i. eqb-true c 35 e i ∷ all_marks cs more i)
    (λ e. absurd (omega (arith, rw e at h)))
    (cases_Bool (c == 35))

-- a text that closes is its value, `"` and so many `#`
closes_split : (n : ℕ) (ys : List ℕ) → closes_raw n ys ≡ true → (value : List ℕ) × (ys ≡ value ++ 34 ∷ marks_of n)
closes_split n [] h = absurd (false≢true h)
closes_split n (c ∷ cs) h =
    ⊎_elim (λ e.
    let p = and_parts (c == 34) _ e in
    let all : length cs ≡ n = eqb-true _ _ (rw e at h) in
    let enough = leb-true n _ p.1 in
    let within = prefix_len-le-length (λ c. c == 35) cs in
    let count : mark_count cs ≡ length cs = omega arith in
    ([], λ i. eqb-true c 34 p.0 i ∷ (all_marks cs count ∙ ap marks_of all) i))
    (λ e. let more = closes_split n cs (rw e at h) in (c ∷ more.0, ap (λ t. c ∷ t) more.1))
    (cases_Bool ((c == 34) && nat_le n (mark_count cs)))

-- the first `"` that so many `#` follow is the last
closes_last : (n : ℕ) (front back : List ℕ) → closes_raw n (front ++ 34 ∷ (marks_of n ++ back)) ≡ true → back ≡ []
closes_last n [] back h =
    let test : nat_le n (mark_count (marks_of n ++ back)) ≡ true = le-leb _ _ (mark_count-marks n back) in
    let all : length (marks_of n ++ back) ≡ n = eqb-true _ _ (rw test at h) in
    nil_from_length back (omega (arith, length-append (marks_of n) back, length-replicate {A = ℕ} n 35))
closes_last n (c ∷ front) back h =
    ⊎_elim (λ e.
    let all : length (front ++ 34 ∷ (marks_of n ++ back)) ≡ n = eqb-true _ _ (rw e at h) in
    absurd (omega (arith, length-append front (34 ∷ (marks_of n ++ back)), length-append (marks_of n) back, length-replicate {A = ℕ} n 35)))
    (λ e. closes_last n front back (rw e at h))
    (cases_Bool ((c == 34) && nat_le n (mark_count (front ++ 34 ∷ (marks_of n ++ back)))))

-- the value ends at the first `"` that closes the raw text
value_first : (n : ℕ) (value front back : List ℕ) → closes_raw n (value ++ 34 ∷ marks_of n) ≡ true → value ++ 34 ∷ marks_of n ≡ front ++ 34 ∷ (marks_of n ++ back) → front ≡ value
value_first n value front back h e =
    let none = closes_last n front back (ap (closes_raw n) (sym e) ∙ h) in
    let end : marks_of n ++ back ≡ marks_of n = ap (λ t. marks_of n ++ t) none ∙ append-nil (marks_of n) in
    append_cancel_right front value (34 ∷ marks_of n) (ap (λ t. front ++ 34 ∷ t) (sym end) ∙ sym e)

-- a raw string is one of its value
pub raw_str_of : (s : List ℕ) → is_raw_str s ≡ true → (value : List ℕ) × IsRawOf s value
raw_str_of [] h = absurd (false≢true h)
raw_str_of (c ∷ s) h =
    let p = and_parts (c == 114) _ h in
    let q = raw_split s p.1 in
    let v = closes_split q.0 q.1 q.4 in (
      v.0,
      record {
        marks = q.0;
        few = q.2;
        is = λ i. eqb-true c 114 p.0 i ∷ (q.3 ∙ ap (λ t. marks_of q.0 ++ 34 ∷ t) v.1) i;
        first = λ front back e. value_first q.0 v.0 front back (ap (closes_raw q.0) (sym v.1) ∙ q.4) e;
      },
    )

-- a text with so many `#` in front is these and the rest
marks_front : (n : ℕ) (s : List ℕ) → n ≤ mark_count s → s ≡ marks_of n ++ drop n s
marks_front zero s h = refl
marks_front (suc n) [] h = absurd (omega arith)
marks_front (suc n) (c ∷ s) h =
    ⊎_elim (λ e.
    let less : n ≤ mark_count s = omega (arith, rw e at h) in
    λ i. eqb-true c 35 e i ∷ marks_front n s less i)
    (λ e. absurd (omega (arith, rw e at h)))
    (cases_Bool (c == 35))

-- no `"` that so many `#` follow stands before the last
abbrev IsFirst : ℕ → List ℕ → Type 0
IsFirst n value = (front back : List ℕ) → value ++ 34 ∷ marks_of n ≡ front ++ 34 ∷ (marks_of n ++ back) → front ≡ value

-- where the first `"` that so many `#` follow is the last, it closes
first_closes : (n : ℕ) (value : List ℕ) → IsFirst n value → closes_raw n (value ++ 34 ∷ marks_of n) ≡ true
first_closes n [] first =
    let count : n ≤ mark_count (marks_of n) = subst (λ t. n ≤ mark_count t) (append-nil (marks_of n)) (mark_count-marks n []) in
    let enough : nat_le n (mark_count (marks_of n)) ≡ true = le-leb _ _ count in
    rw enough (eq-eqb _ _ (length-replicate {A = ℕ} n 35))
first_closes n (c ∷ value) first =
    let rest : List ℕ = value ++ 34 ∷ marks_of n in
    ⊎_elim (λ e.
    let p = and_parts (c == 34) _ e in
    let front = marks_front n rest (leb-true _ _ p.1) in
    let none : [] ≡ c ∷ value = first [] (drop n rest) (λ i. eqb-true c 34 p.0 i ∷ front i) in
    absurd (omega (arith, ap length none)))
    (λ e. rw e (first_closes n value (λ front back same. ap (drop 1) (first (c ∷ front) back (ap (λ t. c ∷ t) same)))))
    (cases_Bool ((c == 34) && nat_le n (mark_count rest)))

-- what is a raw string of a value passes the test
pub raw_str_from : (s value : List ℕ) → IsRawOf s value → is_raw_str s ≡ true
raw_str_from s value h =
    let n : ℕ = h.marks in
    ap is_raw_str h.is ∙ and_from (114 == 114) _ refl (raw_joined n (value ++ 34 ∷ marks_of n) h.few (first_closes n value h.first))

-- what stands between the quotes is the value
pub raw_value_is : (s value : List ℕ) → IsRawOf s value → raw_value s ≡ value
raw_value_is s value h =
    let n : ℕ = h.marks in
    let whole : List ℕ = marks_of n ++ 34 ∷ (value ++ 34 ∷ marks_of n) in
    let count : mark_count whole ≡ n = mark_count-quote n (value ++ 34 ∷ marks_of n) in
    let two : suc (n + 1) ≡ n + 2 = omega arith in
    let behind : drop (n + 2) (114 ∷ whole) ≡ value ++ 34 ∷ marks_of n = ap (λ k. drop k (114 ∷ whole)) (sym two) ∙ drop-quote n (value ++ 34 ∷ marks_of n) in
    let len : length (114 ∷ whole) - (2 * n + 3) ≡ length value =
    omega (arith, length-append (marks_of n) (34 ∷ (value ++ 34 ∷ marks_of n)), length-append value (34 ∷ marks_of n), length-replicate {A = ℕ} n 35) in
    ap raw_value h.is ∙ (rw count ((λ i. take (len i) (behind i)) ∙ take-append_seam value (34 ∷ marks_of n)))

-- `r` and a raw text
pub raw_str_parts : (s : List ℕ) → is_raw_str s ≡ true → (cs : List ℕ) × (s ≡ 114 ∷ cs) × (is_raw cs ≡ true)
raw_str_parts [] h = absurd (false≢true h)
raw_str_parts (c ∷ cs) h = let p = and_parts (c == 114) _ h in (cs, ap (λ x. x ∷ cs) (eqb-true c 114 p.0), p.1)

-- `b`, `r` and a raw text of ASCII characters
pub raw_byte_str_parts : (s : List ℕ) → is_raw_byte_str s ≡ true → (cs : List ℕ) × (s ≡ 98 ∷ 114 ∷ cs) × (is_raw cs ≡ true) × (list_all is_ascii cs ≡ true)
raw_byte_str_parts [] h = absurd (false≢true h)
raw_byte_str_parts (c ∷ s) h =
    let p = and_parts (c == 98) _ h in
    let q = and_parts (is_raw_str s) _ p.1 in
    let r = raw_str_parts s q.0 in
    let ascii = and_parts (is_ascii 114) _ (ap (list_all is_ascii) (sym r.1) ∙ q.1) in
    (r.0, λ i. eqb-true c 98 p.0 i ∷ r.1 i, r.2, ascii.1)

-- `c`, `r` and a raw text
pub raw_c_str_parts : (s : List ℕ) → is_raw_c_str s ≡ true → (cs : List ℕ) × (s ≡ 99 ∷ 114 ∷ cs) × (is_raw cs ≡ true)
raw_c_str_parts [] h = absurd (false≢true h)
raw_c_str_parts (c ∷ s) h =
    let p = and_parts (c == 99) _ h in
    let r = raw_str_parts s p.1 in
    (r.0, λ i. eqb-true c 99 p.0 i ∷ r.1 i, r.2)

-- what some `#`, `"` and a text begin with
marks_begin : (n : ℕ) (ys : List ℕ) → ((begins (λ c. c == 34) (marks_of n ++ 34 ∷ ys)) || (begins (λ c. c == 35) (marks_of n ++ 34 ∷ ys) && begins (λ c. (c == 34) || (c == 35)) (drop 1 (marks_of n ++ 34 ∷ ys)))) ≡ true
marks_begin zero ys = refl
marks_begin (suc zero) ys = refl
marks_begin (suc (suc n)) ys = refl

-- a raw text begins with `"`, or with `#` and then `"` or `#`
pub raw_begins : (cs : List ℕ) → is_raw cs ≡ true → ((begins (λ c. c == 34) cs) || (begins (λ c. c == 35) cs && begins (λ c. (c == 34) || (c == 35)) (drop 1 cs))) ≡ true
raw_begins cs h =
    let p = raw_split cs h in
    subst (λ t. ((begins (λ c. c == 34) t) || (begins (λ c. c == 35) t && begins (λ c. (c == 34) || (c == 35)) (drop 1 t))) ≡ true) (sym p.3) (marks_begin p.0 p.1)
