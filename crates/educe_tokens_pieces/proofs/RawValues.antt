-- The value of a raw string in its text.
use Rattle.std.proofs.Common.{◌≡◌, ◌≢◌, ℕ, zero, suc, ◌+◌, ◌-◌, ◌<◌, true, Option, Some, None, List, [], ◌∷◌, ◌++◌, length, take, get_or, sym, ap, ◌∙◌, subst, arith, length-append, append_assoc, Bor}
use Rattle.std.specs.List.{slice_range}
use Rattle.std.specs.Option.{MatchOption, IsSome}
use Rattle.std.specs.Str.{chars, IsUtf8, IsAscii, IsCharBoundary}
use Rattle.std.proofs.Math.Seq.{take-append_seam}
use Rattle.std.proofs.lemmas.Bool.{some_since}
use Rattle.std.proofs.lemmas.List.{length-replicate, get_or-replicate}
use Rattle.std.proofs.lemmas.Str.{IsUtf8-from_ascii, IsAscii-append, IsCharBoundary-at_seam}
use Rattle.std.proofs.lemmas.Str.Ascii.{IsAscii-cons}
use Rattle.std.proofs.lemmas.Str.Pattern.{IsSplitOnceResult, split_after}
use Rattle.educe_tokens_pieces.specs.RawStrings.{is_raw_str, raw_value, IsRawOf}
use Rattle.educe_tokens_pieces.proofs.RawStrings.{marks_of, raw_str_of, raw_value_is}
use Rattle.educe_tokens_pieces.proofs.Texts.{between, IsAscii-replicate}

-- the text of a raw string, cut at its first `"`
pub record IsRawText (bs opening rest : List ℕ) : Type 0 where
  pub value : List ℕ
  pub middle : List ℕ
  pub law : IsRawOf (Rattle.std.specs.Str.chars bs) value
  pub before : opening ≡ 114 ∷ marks_of law.marks
  pub behind : rest ≡ middle ++ 34 ∷ marks_of law.marks
  pub chars : Rattle.std.specs.Str.chars middle ≡ value

-- `r` and `#`, and no `"`
opening_is : (n i : ℕ) → i < length (114 ∷ marks_of n) → get_or (114 ∷ marks_of n) i 0 ≢ 34
opening_is n zero h = λ e. absurd (omega arith)
opening_is n (suc i) h = λ e. let mark : get_or (114 ∷ marks_of n) (suc i) 0 ≡ 35 = get_or-replicate n i 35 0 (omega (arith, length-replicate {A = ℕ} n 35)) in absurd (omega arith)

-- `"` and `#` are ASCII
back_ascii : (n : ℕ) → IsAscii (34 ∷ marks_of n)
back_ascii n = IsAscii-cons 34 (marks_of n) (omega arith) (IsAscii-replicate n 35 (omega arith))

-- `r`, `#` and `"` are ASCII
front_ascii : (n : ℕ) → IsAscii (114 ∷ (marks_of n ++ 34 ∷ []))
front_ascii n = IsAscii-cons 114 (marks_of n ++ 34 ∷ []) (omega arith) (IsAscii-append (marks_of n) (34 ∷ []) (IsAscii-replicate n 35 (omega arith)) (back_ascii 0))

-- what is known of an answer, and what follows from it
there : {A : Type 0} (o : Option A) (P Q : A → Type 0) → ((x : A) → P x → Q x) → MatchOption o ⊥ P → MatchOption o ⊥ Q
there None P Q f h = h
there (Some x) P Q f h = f x h

-- a raw string's text, cut at its first `"`
raw_text : (bs : List ℕ) → IsUtf8 bs → is_raw_str (chars bs) ≡ true → (r : Option (Bor (List ℕ) × Bor (List ℕ))) → IsSplitOnceResult 34 bs r → MatchOption r ⊥ (λ x. IsRawText bs x.0.now x.1.now)
raw_text bs u h r s =
    let own = raw_str_of (chars bs) h in
    let n : ℕ = own.1.marks in
    let front : List ℕ = 114 ∷ (marks_of n ++ 34 ∷ []) in
    let spelled : chars bs ≡ front ++ (own.0 ++ 34 ∷ marks_of n) = own.1.is ∙ ap (λ t. 114 ∷ t) (sym (append_assoc (marks_of n) (34 ∷ []) (own.0 ++ 34 ∷ marks_of n))) in
    let text = between bs front own.0 (34 ∷ marks_of n) u (front_ascii n) (back_ascii n) spelled in
    let behind : List ℕ = text.middle ++ 34 ∷ marks_of n in
    let cut : bs ≡ (114 ∷ marks_of n) ++ 34 ∷ behind = text.is ∙ ap (λ t. 114 ∷ t) (append_assoc (marks_of n) (34 ∷ []) behind) in
    let parts : MatchOption r ⊥ (λ x. (x.0.now ≡ 114 ∷ marks_of n) × (x.1.now ≡ behind)) = split_after 34 bs (114 ∷ marks_of n) behind r s (omega arith) cut (opening_is n) in
    there r _ (λ x. IsRawText bs x.0.now x.1.now) (λ x p. record { value = own.0; middle = text.middle; law = own.1; before = p.0; behind = p.1; chars = text.chars }) parts

-- a raw string's text has a `"`
pub raw_cut : (bs : List ℕ) → IsUtf8 bs → is_raw_str (chars bs) ≡ true → (r : Option (Bor (List ℕ) × Bor (List ℕ))) → IsSplitOnceResult 34 bs r → IsSome r
raw_cut bs u h r s = some_since r ⊥ _ (raw_text bs u h r s) (λ none. none)

-- the two parts of a raw string's text
pub raw_parts : (bs : List ℕ) → IsUtf8 bs → is_raw_str (chars bs) ≡ true → (r : Option (Bor (List ℕ) × Bor (List ℕ))) (x : Bor (List ℕ) × Bor (List ℕ)) → IsSplitOnceResult 34 bs r → r ≡ Some x → IsRawText bs x.0.now x.1.now
raw_parts bs u h r x s e = subst (λ o. MatchOption o ⊥ (λ y. IsRawText bs y.0.now y.1.now)) e (raw_text bs u h r s)

-- the value ends so far before the end of the text as it begins behind its start, `r` aside
pub value_len : (bs opening rest : List ℕ) (t : IsRawText bs opening rest) → length t.middle + length opening ≡ length rest
value_len bs opening rest t =
    let before = ap length t.before in
    let behind = ap length t.behind in
    omega (arith, length-append t.middle (34 ∷ marks_of t.law.marks))

-- the text may be cut behind the value
pub value_boundary : (bs opening rest : List ℕ) → IsRawText bs opening rest → IsCharBoundary rest (length rest - length opening)
value_boundary bs opening rest t =
    let len = value_len bs opening rest t in
    let here : length t.middle ≡ length rest - length opening = omega arith in
    subst (IsCharBoundary rest) here (IsCharBoundary-at_seam rest t.middle (34 ∷ marks_of t.law.marks) t.behind (IsUtf8-from_ascii _ (back_ascii t.law.marks)))

-- what stands before that is the value
pub value_chars : (bs opening rest : List ℕ) (t : IsRawText bs opening rest) → chars (slice_range rest 0 (length rest - length opening)) ≡ t.value
value_chars bs opening rest t =
    let len = value_len bs opening rest t in
    let here : length rest - length opening - 0 ≡ length t.middle = omega arith in
    ap chars ((λ i. take (here i) (t.behind i)) ∙ take-append_seam t.middle (34 ∷ marks_of t.law.marks)) ∙ t.chars

-- the characters of the slice between the quotes are the value of the raw string
pub slice_value : (bs opening rest slice : List ℕ) (t : IsRawText bs opening rest) → slice ≡ slice_range rest 0 (length rest - length opening) → chars slice ≡ raw_value (chars bs)
slice_value bs opening rest slice t e = ap chars e ∙ value_chars bs opening rest t ∙ sym (raw_value_is (chars bs) t.value t.law)

-- the slice between the quotes is the value of the raw string
pub slice_law : (bs opening rest slice : List ℕ) (t : IsRawText bs opening rest) → slice ≡ slice_range rest 0 (length rest - length opening) → IsRawOf (chars bs) (chars slice)
slice_law bs opening rest slice t e = subst (IsRawOf (chars bs)) (sym (ap chars e ∙ value_chars bs opening rest t)) t.law
