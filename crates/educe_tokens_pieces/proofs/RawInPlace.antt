-- Scans of a raw text where it stands.
use Rattle.std.proofs.Common.{◌≡◌, ℕ, zero, suc, ◌+◌, ◌-◌, ◌≤◌, true, false, Option, Some, None, List, [], ◌∷◌, ◌++◌, take, drop, refl, sym, ap, ◌∙◌, subst, ⊎_elim, arith, append_assoc, append-nil, lit<}
use Rattle.std.specs.Prelude.{◌==◌, ◌&&◌, nat_le}
use Rattle.std.specs.List.{slice_range}
use Rattle.std.specs.Option.{IfSome}
use Rattle.std.specs.Str.{IsAscii}
use Rattle.std.proofs.lemmas.Bool.{and_parts, eqb-true, leb-true, le-leb, eq-eqb, cases_Bool}
use Rattle.std.proofs.lemmas.List.{length-replicate, take-replicate}
use Rattle.std.proofs.lemmas.Str.Ascii.{IsAscii-cons}
use Rattle.educe_tokens_pieces.specs.Fronts.{HasFront}
use Rattle.educe_tokens_pieces.specs.RawStrings.{mark_count, closes_raw, is_raw}
use Rattle.educe_tokens_pieces.proofs.Texts.{IsAscii-replicate}
use Rattle.educe_tokens_pieces.proofs.Searches.{IsFirstRun}
use Rattle.educe_tokens_pieces.proofs.RawStrings.{marks_of, mark_count-marks, raw_joined}

-- one `#` more in front
marks_first : (n : ℕ) (xs : List ℕ) → marks_of n ++ 35 ∷ xs ≡ marks_of (suc n) ++ xs
marks_first zero xs = refl
marks_first (suc n) xs = ap (λ ys. 35 ∷ ys) (marks_first n xs)

-- one `#` more
pub marks_more : (text xs ys : List ℕ) (n : ℕ) → text ≡ marks_of n ++ xs → xs ≡ 35 ∷ ys → text ≡ marks_of (n + 1) ++ ys
marks_more text xs ys n e f = let one : suc n ≡ n + 1 = omega arith in e ∙ ap (λ zs. marks_of n ++ zs) f ∙ marks_first n ys ∙ ap (λ k. marks_of k ++ ys) one

-- as many `#` as there are stand in front
marks_front : (n : ℕ) (s : List ℕ) → n ≤ mark_count s → s ≡ marks_of n ++ drop n s
marks_front zero s h = refl
marks_front (suc n) [] h = absurd (omega arith)
marks_front (suc n) (c ∷ s) h =
    ⊎_elim (λ e. let less : n ≤ mark_count s = omega (arith, rw e at h) in λ i. eqb-true c 35 e i ∷ marks_front n s less i)
    (λ e. absurd (omega (arith, rw e at h)))
    (cases_Bool (c == 35))

-- so many `#` behind a quote close the text
quote_closes_here : (n : ℕ) → closes_raw n (34 ∷ marks_of n) ≡ true
quote_closes_here n =
    let many : n ≤ mark_count (marks_of n) = subst (λ t. n ≤ mark_count t) (append-nil (marks_of n)) (mark_count-marks n []) in
    rw (le-leb n (mark_count (marks_of n)) many) (eq-eqb _ _ (length-replicate {A = ℕ} n 35))

-- `"` and so many `#`
abbrev pub raw_end : ℕ → List ℕ
raw_end n = 34 ∷ marks_of n

pub raw_end_ascii : (n : ℕ) → IsAscii (raw_end n)
raw_end_ascii n = IsAscii-cons 34 (marks_of n) (lit< tt) (IsAscii-replicate n 35 (lit< tt))

-- it begins the longest one
front_end : (n : ℕ) → n ≤ 255 → take (n + 1) (raw_end 255) ≡ raw_end n
front_end n few = let one : suc n ≡ n + 1 = omega arith in ap (λ k. take k (raw_end 255)) (sym one) ∙ ap (λ cs. 34 ∷ cs) (take-replicate n 255 35 few)

pub slice_end : (n : ℕ) → n ≤ 255 → slice_range (raw_end 255) 0 (n + 1) ≡ raw_end n
slice_end n few = let all : n + 1 - 0 ≡ n + 1 = omega arith in ap (λ k. take k (raw_end 255)) all ∙ front_end n few

-- the first of them closes the text
first_closes : (n : ℕ) (cs : List ℕ) → IsFirstRun (raw_end n) cs → closes_raw n (cs ++ raw_end n) ≡ true
first_closes n [] first = quote_closes_here n
first_closes n (c ∷ cs) first =
    let behind : List ℕ = cs ++ raw_end n in
    let stays : ((c == 34) && nat_le n (mark_count behind)) ≡ false =
    ⊎_elim (λ e.
    let p = and_parts (c == 34) _ e in
    absurd (first [] (c ∷ cs) (drop n behind) refl (omega arith) (λ i. eqb-true c 34 p.0 i ∷ marks_front n behind (leb-true _ _ p.1) i)))
    (λ e. e) (cases_Bool ((c == 34) && nat_le n (mark_count behind))) in
    rw stays (first_closes n cs (λ xs ws ys e. first (c ∷ xs) ws ys (ap (λ t. c ∷ t) e)))

-- the text up to the first end of the raw text, that end included, is its prefix
pub raw_ends : (n : ℕ) (text front rest : List ℕ) → text ≡ (front ++ raw_end n) ++ rest → IsFirstRun (raw_end n) front → HasFront (closes_raw n) text rest
raw_ends n text front rest e first = record { front = front ++ raw_end n; is = e; passes = first_closes n front first }

-- the whole raw text
pub raw_front : (n : ℕ) (text quoted body rest : List ℕ) → n ≤ 255 → text ≡ marks_of n ++ quoted → quoted ≡ 34 ∷ body → HasFront (closes_raw n) body rest → HasFront is_raw text rest
raw_front n text quoted body rest few e f h = record {
  front = marks_of n ++ 34 ∷ h.front;
  is = e ∙ ap (λ cs. marks_of n ++ cs) (f ∙ ap (λ cs. 34 ∷ cs) h.is) ∙ sym (append_assoc (marks_of n) (34 ∷ h.front) rest);
  passes = raw_joined n h.front few h.passes;
}

-- what holds of a value, if there is one
pub if_some : {A : Type 0} (o : Option A) (P Q : A → Type 0) → ((x : A) → P x → Q x) → IfSome o P → IfSome o Q
if_some None P Q f h = tt
if_some (Some x) P Q f h = f x h
