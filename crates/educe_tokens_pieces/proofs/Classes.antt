-- No character is of two classes.
use Rattle.std.proofs.Common.{◌≡◌, ℕ, suc, ◌+◌, ◌<◌, Bool, true, false, ◌||◌, ◌&&◌, List, [], ◌∷◌, ◌++◌, length, take, refl, sym, ap, ◌∙◌, subst, ⊎_elim, arith}
use Rattle.std.specs.Prelude.{◌==◌, nat_le}
use Rattle.std.specs.List.{prefix_len, list_all}
use Rattle.std.specs.Char.{is_ascii_alphabetic, is_ascii_alphanumeric, is_ascii_digit}
use Rattle.std.proofs.lemmas.Bool.{eqb-true, or_cases, or_parts, or_from, and_parts, and_from, false≢true, false_from_ne_true, cond_both}
use Rattle.std.proofs.lemmas.Bool.Decides.{nat_tests}
use Rattle.unicode_ident.specs.Ident.{is_xid_continue}
use Rattle.unicode_ident.proofs.IdentLemmas.{is_xid_start-ascii, is_xid_continue-ascii, is_xid_start-is_xid_continue}
use Rattle.unicode_ident.proofs.Computing.{unicode_ident}
use Rattle.educe_tokens_pieces.specs.Chars.{begins, is_only, is_blank, is_punct, is_word_start}

-- below 128 a word begins with a letter or `_`
pub word_start-ascii : (c : ℕ) → c < 128 → is_word_start c ≡ (is_ascii_alphabetic c || (c == 95))
word_start-ascii c h = ap (λ b. b || (c == 95)) (is_xid_start-ascii c h)

-- a fact at a number holds of what is tested to be that number
pub at_equal : (P : ℕ → Type 0) (c d : ℕ) → P d → (c == d) ≡ true → P c
at_equal P c d p e = subst P (sym (eqb-true c d e)) p

-- the blanks beyond ASCII begin no word
wide_blanks : (is_word_start 133 ≡ false) × (is_word_start 8206 ≡ false) × (is_word_start 8207 ≡ false) × (is_word_start 8232 ≡ false) × (is_word_start 8233 ≡ false)
unfolding unicode_ident
wide_blanks = (refl, refl, refl, refl, refl)

-- the blanks from U+0009 to U+000D begin no word
control_no_word : (c : ℕ) → (nat_le 9 c && nat_le c 13) ≡ true → is_word_start c ≡ false
control_no_word c h = let small : c < 128 = grind (arith, nat_tests) in word_start-ascii c small ∙ grind (arith, nat_tests)

-- a blank begins no word
blank_no_word : (c : ℕ) → is_blank c ≡ true → is_word_start c ≡ false
blank_no_word c h =
    let P : ℕ → Type 0 = λ x. is_word_start x ≡ false in
    ⊎_elim (λ h.
    ⊎_elim (λ h.
    ⊎_elim (λ h.
    ⊎_elim (λ h.
    ⊎_elim (λ h.
    ⊎_elim (control_no_word c) (at_equal P c 32 (word_start-ascii 32 (omega arith))) (or_cases _ _ h))
    (at_equal P c 133 wide_blanks.0) (or_cases _ _ h))
    (at_equal P c 8206 wide_blanks.1) (or_cases _ _ h))
    (at_equal P c 8207 wide_blanks.2) (or_cases _ _ h))
    (at_equal P c 8232 wide_blanks.3) (or_cases _ _ h))
    (at_equal P c 8233 wide_blanks.4) (or_cases _ _ h)

-- what begins a word is no blank
pub word_no_blank : (c : ℕ) → is_word_start c ≡ true → is_blank c ≡ false
word_no_blank c h = cond_both (is_blank c) true false (λ b. is_blank c ≡ false) (λ e. absurd (false≢true (sym (blank_no_word c e) ∙ h))) (λ e. e)

-- what begins a word goes on with one
pub word_continues : (c : ℕ) → is_word_start c ≡ true → is_xid_continue c ≡ true
word_continues c h =
    ⊎_elim (is_xid_start-is_xid_continue c) (at_equal (λ x. is_xid_continue x ≡ true) c 95 (is_xid_continue-ascii 95 (omega arith))) (or_cases _ _ h)

-- neither a quote nor `#` goes on with a word
pub continue_no_mark : (c : ℕ) → is_xid_continue c ≡ true → ((c == 34) || (c == 39) || (c == 35)) ≡ false
continue_no_mark c h =
    let P : ℕ → Type 0 = λ x. is_xid_continue x ≡ true → ⊥ in
    let apart : (d : ℕ) → d < 128 → (is_ascii_alphanumeric d || (d == 95)) ≡ false → P d = λ d s e k. absurd (false≢true (sym (is_xid_continue-ascii d s ∙ e) ∙ k)) in
    let quote : ((c == 34) || (c == 39)) ≡ true → ⊥ = λ e. ⊎_elim (λ f. at_equal P c 34 (apart 34 (omega arith) refl) f h) (λ f. at_equal P c 39 (apart 39 (omega arith) refl) f h) (or_cases _ _ e) in
    false_from_ne_true _ (λ e. ⊎_elim quote (λ f. at_equal P c 35 (apart 35 (omega arith) refl) f h) (or_cases _ _ e))

-- what is none of these three is neither of the first and the last, nor the second
pub mark_parts : (c : ℕ) → ((c == 34) || (c == 39) || (c == 35)) ≡ false → (((c == 34) || (c == 35)) ≡ false) × ((c == 39) ≡ false)
mark_parts c h =
    let p = or_parts ((c == 34) || (c == 39)) (c == 35) h in
    let q = or_parts (c == 34) (c == 39) p.0 in
    (or_from _ _ q.0 p.1, q.1)

-- a digit is no blank
pub digit_no_blank : (c : ℕ) → is_ascii_digit c ≡ true → is_blank c ≡ false
digit_no_blank c h = grind (arith, nat_tests)

-- a digit begins no word
pub digit_no_word : (c : ℕ) → is_ascii_digit c ≡ true → is_word_start c ≡ false
digit_no_word c h = let small : c < 128 = grind (arith, nat_tests) in word_start-ascii c small ∙ grind (arith, nat_tests)

-- a punct is no blank
pub punct_no_blank : (c : ℕ) → is_punct c ≡ true → is_blank c ≡ false
punct_no_blank c h = grind (arith, nat_tests)

-- a punct is no digit
pub punct_no_digit : (c : ℕ) → is_punct c ≡ true → is_ascii_digit c ≡ false
punct_no_digit c h = grind (arith, nat_tests)

-- a punct is no quote
pub punct_no_quote : (c : ℕ) → is_punct c ≡ true → ((c == 34) ≡ false) × ((c == 39) ≡ false)
punct_no_quote c h = (grind (arith, nat_tests), grind (arith, nat_tests))

-- a punct begins no word
pub punct_no_word : (c : ℕ) → is_punct c ≡ true → is_word_start c ≡ false
punct_no_word c h = let small : c < 128 = grind (arith, nat_tests) in word_start-ascii c small ∙ grind (arith, nat_tests)

-- the passing front of a list is all that passes, where the rest begins with what doesn't
pub prefix_len-append : (p : ℕ → Bool) (xs ys : List ℕ) → list_all p xs ≡ true → begins p ys ≡ false → prefix_len p (xs ++ ys) ≡ length xs
prefix_len-append p [] [] a b = refl
prefix_len-append p [] (y ∷ ys) a b = rw b refl
prefix_len-append p (x ∷ xs) ys a b =
    let h = and_parts (p x) (list_all p xs) a in
    let tail = prefix_len-append p xs ys h.1 b in
    rw h.0 (omega arith)

-- each of the passing front passes
pub list_all-prefix : (p : ℕ → Bool) (xs : List ℕ) → list_all p (take (prefix_len p xs) xs) ≡ true
list_all-prefix p [] = refl
list_all-prefix p (x ∷ xs) =
    let n : ℕ = prefix_len p xs in
    let P : ℕ → Type 0 = λ k. list_all p (take k (x ∷ xs)) ≡ true in
    let one : suc n ≡ 1 + n = omega arith in
    cond_both (p x) (1 + n) 0 P (λ e. subst P one (and_from (p x) _ e (list_all-prefix p xs))) (λ _. refl)

-- a list that is tested to be one character is that character
pub only_is : (c : ℕ) (s : List ℕ) → is_only c s ≡ true → s ≡ c ∷ []
only_is c [] h = absurd (false≢true h)
only_is c (d ∷ []) h = ap (λ x. x ∷ []) (eqb-true d c h)
only_is c (d ∷ e ∷ cs) h = absurd (false≢true h)
