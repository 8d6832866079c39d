-- Floats at the front of a text.
use Rattle.std.proofs.Common.{◌≡◌, ℕ, suc, zero, ◌+◌, ◌≤◌, Bool, true, false, ◌||◌, ◌&&◌, not, List, [], ◌∷◌, ◌++◌, length, take, drop, refl, sym, ap, ◌∙◌, subst, ⊎_elim, arith}
use Rattle.std.specs.Prelude.{◌==◌, codes}
use Rattle.std.specs.List.{prefix_len, list_all, list_any}
use Rattle.std.specs.Str.{bytes_eq}
use Rattle.std.specs.Char.{is_ascii_digit}
use Rattle.std.proofs.lemmas.Bool.{and_parts, or_parts, cond_both, and_from, and_left, and_right, or_cases, or_from, cond-true, cond-false, cases_Bool, false_from_ne_true, not_from_false, not-true, false≢true}
use Rattle.std.proofs.lemmas.Bool.Decides.{nat_tests}
use Rattle.std.proofs.lemmas.List.{length-drop}
use Rattle.std.proofs.lemmas.List.Sums.{prefix_len-le-length}
use Rattle.std.proofs.lemmas.Slice.Eq.{bytes_eq-Decides}
use Rattle.unicode_ident.specs.Ident.{is_xid_continue}
use Rattle.educe_tokens_pieces.specs.Chars.{begins, is_only, is_empty, is_word_start}
use Rattle.educe_tokens_pieces.specs.Integers.{makes_float}
use Rattle.educe_tokens_pieces.specs.Floats.{is_decimal_part, behind_digits, is_float_type, is_float_suffix, unsigned, is_exponent_number, ends_float, is_fraction, is_float_tail}
use Rattle.educe_tokens_pieces.specs.Numbers.{is_exponent_mark, is_sign, end_len, fraction_len, tail_len}
use Rattle.educe_tokens_pieces.proofs.Classes.{list_all-prefix, digit_no_word}
use Rattle.educe_tokens_pieces.proofs.NumberParts.{begins_some, is_ascii_word, no_continue_no, no_continue_no_start, part_is_word, begins_no_part, list_all_wider, list_all_parts, word_whole, prefix_len-append_stop, drop_prefix-append}
use Rattle.educe_tokens_pieces.specs.Words.{continue_len}

-- a type of floats has what both have
pub float_type_is : (P : List ℕ → Bool) → P (codes "f32") ≡ true → P (codes "f64") ≡ true → (t : List ℕ) → is_float_type t ≡ true → P t ≡ true
unfolding is_float_type
float_type_is P a b t h =
    let IsSo : List ℕ → Type 0 = λ u. P u ≡ true in
    ⊎_elim (λ e. subst IsSo ((bytes_eq-Decides (codes "f32") t).0 e) a) (λ e. subst IsSo ((bytes_eq-Decides (codes "f64") t).0 e) b) (or_cases (bytes_eq (codes "f32") t) _ h)

-- letters and digits of ASCII, the first of which marks no exponent
abbrev is_suffix_word : List ℕ → Bool
is_suffix_word t = list_all is_ascii_word t && begins (λ c. not (is_exponent_mark c)) t

-- a float type is such a suffix
type_is_word : (t : List ℕ) → is_float_type t ≡ true → is_suffix_word t ≡ true
type_is_word t h = float_type_is is_suffix_word refl refl t h

-- a suffix is of letters and digits
suffix_words : (t : List ℕ) → is_float_suffix t ≡ true → list_all is_ascii_word t ≡ true
suffix_words [] h = refl
suffix_words (c ∷ cs) h = (and_parts (list_all is_ascii_word (c ∷ cs)) _ (type_is_word (c ∷ cs) h)).0

-- an exponent's mark is a letter
mark_is_word : (c : ℕ) → is_exponent_mark c ≡ true → is_ascii_word c ≡ true
mark_is_word c h = grind (arith, nat_tests)

-- the number of an exponent is of digits, letters and `_`
number_words : (t : List ℕ) → is_exponent_number t ≡ true → list_all is_ascii_word t ≡ true
number_words t h =
    let parts = and_parts (list_any is_ascii_digit (take (prefix_len is_decimal_part t) t)) _ h in
    list_all_parts is_ascii_word (prefix_len is_decimal_part t) t
    (list_all_wider is_decimal_part is_ascii_word part_is_word (take (prefix_len is_decimal_part t) t) (list_all-prefix is_decimal_part t)) (suffix_words _ parts.1)

-- what no word goes on with doesn't belong to an end
pub end_len_none : (r : List ℕ) → begins is_xid_continue r ≡ false → end_len r ≡ 0
end_len_none [] h = refl
end_len_none (c ∷ cs) h =
    cond-false _ _ _ (and_left _ (begins is_sign cs) (no_continue_no is_exponent_mark mark_is_word c h)) ∙ cond-false _ _ _ h

-- where no sign follows a mark, the end is a word
end_of_word : (c : ℕ) (x r : List ℕ) → (is_exponent_mark c && begins is_sign (x ++ r)) ≡ false → list_all is_ascii_word (c ∷ x) ≡ true → begins is_xid_continue r ≡ false → end_len (c ∷ (x ++ r)) ≡ length (c ∷ x)
end_of_word c x r e h k = cond-false _ _ _ e ∙ word_whole (c ∷ x) r h k

-- an exponent is all of the end of a text
exponent_whole : (c : ℕ) (cs r : List ℕ) → is_exponent_mark c ≡ true → is_exponent_number (unsigned cs) ≡ true → begins is_xid_continue r ≡ false → end_len (c ∷ (cs ++ r)) ≡ length (c ∷ cs)
exponent_whole c [] r m h k = absurd (false≢true h)
exponent_whole c (d ∷ ds) r m h k =
    ⊎_elim
    (λ e.
    let number = number_words ds (ap is_exponent_number (sym (cond-true (is_sign d) ds (d ∷ ds) e)) ∙ h) in
    let whole = word_whole ds r number k in
    cond-true _ _ _ (and_from _ _ m e) ∙ (omega (arith, whole)))
    (λ e.
    let number = number_words (d ∷ ds) (ap is_exponent_number (sym (cond-false (is_sign d) ds (d ∷ ds) e)) ∙ h) in
    end_of_word c (d ∷ ds) r (and_right (is_exponent_mark c) _ e) (and_from _ _ (mark_is_word c m) number) k)
    (cases_Bool (is_sign d))

-- what ends a float is all of the end of a text, where the rest doesn't go on with it
pub end_whole : (t r : List ℕ) → ends_float t ≡ true → begins is_xid_continue r ≡ false → end_len (t ++ r) ≡ length t
end_whole [] r h k = end_len_none r k
end_whole (c ∷ cs) r h k =
    ⊎_elim
    (λ e.
    let parts = and_parts (list_all is_ascii_word (c ∷ cs)) _ (type_is_word (c ∷ cs) e) in
    end_of_word c cs r (and_left _ (begins is_sign (cs ++ r)) (not-true _ parts.1)) parts.0 k)
    (λ e. let parts = and_parts (is_exponent_mark c) _ e in exponent_whole c cs r parts.0 parts.1 k)
    (or_cases (is_float_suffix (c ∷ cs)) _ h)

-- digits and the end of a float are all of the fraction, where the rest doesn't continue it
pub fraction_whole : (t r : List ℕ) → ends_float (behind_digits t) ≡ true → begins is_xid_continue r ≡ false → fraction_len (t ++ r) ≡ length t
fraction_whole t r h k =
    let apart = begins_no_part r k in
    let count = prefix_len-append_stop is_decimal_part t r apart in
    let end = ap end_len (drop_prefix-append is_decimal_part t r apart) ∙ end_whole (behind_digits t) r h k in
    let within = prefix_len-le-length is_decimal_part t in
    omega (arith, count, end, within, length-drop (prefix_len is_decimal_part t) t)

-- a fraction, or nothing before what no word goes on with, makes the `.` before it a float's
dot_makes : (cs r : List ℕ) → (is_empty cs || is_fraction cs) ≡ true → begins is_xid_continue r ≡ false → (is_empty cs && begins (λ c. c == 46) r) ≡ false → begins (λ d. (d == 46) || is_word_start d) (cs ++ r) ≡ false
dot_makes [] [] h k dots = refl
dot_makes [] (d ∷ ds) h k dots = or_from (d == 46) _ dots (no_continue_no_start d k)
dot_makes (d ∷ ds) r h k dots =
    let digit = (and_parts (is_ascii_digit d) _ h).0 in
    let dot : (d == 46) ≡ false = grind (arith, nat_tests) in
    or_from (d == 46) _ dot (digit_no_word d digit)

-- a fraction or nothing ends a float
fraction_ends : (cs : List ℕ) → (is_empty cs || is_fraction cs) ≡ true → ends_float (behind_digits cs) ≡ true
fraction_ends [] h = refl
fraction_ends (c ∷ cs) h = (and_parts (is_ascii_digit c) _ h).1

-- where the text is a `.` alone, no other follows
dots_apart : (c : ℕ) (cs : List ℕ) (more : Bool) → (c == 46) ≡ true → (is_only 46 (c ∷ cs) && more) ≡ false → (is_empty cs && more) ≡ false
dots_apart c [] more e h = sym (ap (λ dot. dot && more) e) ∙ h
dots_apart c (d ∷ ds) more e h = refl

-- what makes digits a float is all of it in a text that may follow
pub tail_whole : (t r : List ℕ) → is_float_tail t ≡ true → begins is_xid_continue r ≡ false → (is_only 46 t && begins (λ c. c == 46) r) ≡ false → tail_len (t ++ r) ≡ length t
tail_whole [] r h k dots = absurd (false≢true h)
tail_whole (c ∷ cs) r h k dots =
    ⊎_elim
    (λ e.
    let rest = sym (cond-true (c == 46) (is_empty cs || is_fraction cs) (ends_float (c ∷ cs)) e) ∙ h in
    let apart = dot_makes cs r rest k (dots_apart c cs _ e dots) in
    let whole = fraction_whole cs r (fraction_ends cs rest) k in
    cond-true _ _ _ (and_from (c == 46) _ e (not_from_false _ apart)) ∙ (omega (arith, whole)))
    (λ e.
    let rest = sym (cond-false (c == 46) (is_empty cs || is_fraction cs) (ends_float (c ∷ cs)) e) ∙ h in
    cond-false _ _ _ (and_left (c == 46) _ e) ∙ end_whole (c ∷ cs) r rest k)
    (cases_Bool (c == 46))

-- the end of a float is no longer than the text
end_within : (cs : List ℕ) → end_len cs ≤ length cs
end_within [] = omega arith
end_within (c ∷ cs) =
    let P : ℕ → Type 0 = λ n. n ≤ length (c ∷ cs) in
    cond_both (is_exponent_mark c && begins is_sign cs) (2 + continue_len (drop 1 cs)) (continue_len (c ∷ cs)) P
    (λ e. let some = begins_some is_sign cs (and_parts (is_exponent_mark c) _ e).1 in omega (arith, some, length-drop 1 cs, prefix_len-le-length is_xid_continue (drop 1 cs)))
    (λ _. prefix_len-le-length is_xid_continue (c ∷ cs))

-- a fraction is no longer than the text
fraction_within : (cs : List ℕ) → fraction_len cs ≤ length cs
fraction_within cs =
    omega (arith, prefix_len-le-length is_decimal_part cs, end_within (behind_digits cs), length-drop (prefix_len is_decimal_part cs) cs)

-- the tail that makes digits a float is no longer than the text
pub tail_within : (cs : List ℕ) → tail_len cs ≤ length cs
tail_within [] = omega arith
tail_within (c ∷ cs) =
    let P : ℕ → Type 0 = λ n. n ≤ length (c ∷ cs) in
    cond_both (makes_float (c ∷ cs)) (1 + fraction_len cs) (end_len (c ∷ cs)) P (λ _. omega (arith, fraction_within cs)) (λ _. end_within (c ∷ cs))

-- what no float goes on with makes none: not what stands in an integer's place of a `.`, an exponent or a suffix
pub no_tail : (c : ℕ) (cs : List ℕ) (n : ℕ) → ((c == 46) || ((c == 102) || is_exponent_mark c)) ≡ false → is_float_tail (take n (c ∷ cs)) ≡ false
no_tail c cs zero h = refl
no_tail c cs (suc n) h =
    let apart = or_parts (c == 46) _ h in
    let more = or_parts (c == 102) _ apart.1 in
    let type = false_from_ne_true (is_float_type (c ∷ take n cs)) (λ e. false≢true (sym more.0 ∙ float_type_is (begins (λ d. d == 102)) refl refl (c ∷ take n cs) e)) in
    cond-false _ _ _ apart.0 ∙ or_from (is_float_suffix (c ∷ take n cs)) _ type (and_left _ (is_exponent_number (unsigned (take n cs))) more.1)

-- a rest that continues no word and makes no float gives no float tail
pub rest_no_tail : (r : List ℕ) → begins is_xid_continue r ≡ false → makes_float r ≡ false → is_float_tail (take (tail_len r) r) ≡ false
rest_no_tail [] h k = refl
rest_no_tail (c ∷ cs) h k = ap (λ n. is_float_tail (take n (c ∷ cs))) (cond-false _ _ _ k ∙ end_len_none (c ∷ cs) h)
