-- Integers consist of letters, digits and `_`, and no float stands where one does.
use Rattle.std.proofs.Common.{◌≡◌, ℕ, ◌+◌, ◌<◌, Bool, true, false, ◌||◌, ◌&&◌, not, List, [], ◌∷◌, ◌++◌, take, drop, refl, sym, ap, ◌∙◌, subst, ⊎_elim, arith}
use Rattle.std.specs.Prelude.{◌==◌, cond, IsAscii, IsUtf8, chars}
use Rattle.std.specs.List.{prefix_len, list_all}
use Rattle.std.specs.Char.{is_digit, is_ascii_digit}
use Rattle.std.proofs.lemmas.Bool.{and_parts, and_from, or_parts, cond-true, cond-false, cond_both, cases_Bool, not-true}
use Rattle.std.proofs.lemmas.Bool.Decides.{nat_tests}
use Rattle.std.proofs.lemmas.Str.{encodes-IsAscii, encodes-chars, chars-IsAscii}
use Rattle.std.proofs.lemmas.Str.Ascii.{IsAscii-nil, IsAscii-cons}
use Rattle.unicode_ident.specs.Ident.{is_xid_continue}
use Rattle.educe_tokens_pieces.specs.declared.integers.Base.{Base}
use Rattle.educe_tokens_pieces.specs.declared.integers.Base.TheVariants.{Binary, Octal, Decimal, Hexadecimal}
use Rattle.educe_tokens_pieces.specs.Chars.{begins, is_empty}
use Rattle.educe_tokens_pieces.specs.Integers.{mark_length, base_behind, base_of, is_digit_or_mark, unmarked, digit_count, suffix_of, integer_types, is_integer_type, has_int_form, is_int, makes_float}
use Rattle.educe_tokens_pieces.specs.Floats.{is_decimal_part, behind_digits, is_float_tail}
use Rattle.educe_tokens_pieces.specs.Numbers.{has_digit, is_int_suffix, is_exponent_mark, tail_len}
use Rattle.educe_tokens_pieces.proofs.Classes.{list_all-prefix}
use Rattle.educe_tokens_pieces.proofs.NumberParts.{is_ascii_word, begins_no_part, list_all_wider, list_all_parts, drop_prefix-append, type_is}
use Rattle.educe_tokens_pieces.proofs.FloatLaws.{no_tail, rest_no_tail}

-- a digit of a base is a digit or a letter
digit_is_word : (base : Base) (c : ℕ) → is_digit_or_mark base c ≡ true → is_ascii_word c ≡ true
digit_is_word Binary c h = grind (arith, nat_tests)
digit_is_word Octal c h = grind (arith, nat_tests)
digit_is_word Decimal c h = grind (arith, nat_tests)
digit_is_word Hexadecimal c h = grind (arith, nat_tests)

-- the decimal digits are the ASCII digits
decimal_digit : (c : ℕ) → is_digit c 10 ≡ is_ascii_digit c
decimal_digit c = grind (arith, nat_tests)

-- what stands where a float could go on makes none
abbrev makes_none : ℕ → Bool
makes_none c = (c == 46) || ((c == 102) || is_exponent_mark c)

-- letters and digits, the first of which makes no float
abbrev is_int_word : List ℕ → Bool
is_int_word t = list_all is_ascii_word t && begins (λ c. not (makes_none c)) t

-- an integer type is such a word
type_is_word : (t : List ℕ) → is_integer_type t ≡ true → is_int_word t ≡ true
unfolding is_integer_type
type_is_word t h = type_is integer_types is_int_word refl t h

-- a suffix is of letters and digits
suffix_words : (t : List ℕ) → is_int_suffix t ≡ true → list_all is_ascii_word t ≡ true
suffix_words [] h = refl
suffix_words (c ∷ cs) h = (and_parts (list_all is_ascii_word (c ∷ cs)) _ (type_is_word (c ∷ cs) h)).0

-- the first two of a text begin with a zero and a letter
marked : (c d : ℕ) (cs : List ℕ) → (c == 48) ≡ true → ((d == 98) || ((d == 111) || (d == 120))) ≡ true → list_all is_ascii_word (take 2 (c ∷ d ∷ cs)) ≡ true
marked c d cs h k = and_from (is_ascii_word c) _ (grind (arith, nat_tests)) (and_from (is_ascii_word d) true (grind (arith, nat_tests)) refl)

-- the mark of a base is of a digit and a letter
mark_words : (s : List ℕ) → list_all is_ascii_word (take (mark_length (base_of s)) s) ≡ true
mark_words [] = refl
mark_words (c ∷ []) =
    let P : Base → Type 0 = λ b. list_all is_ascii_word (take (mark_length b) (c ∷ [])) ≡ true in
    cond_both (c == 48) Decimal Decimal P (λ _. refl) (λ _. refl)
mark_words (c ∷ d ∷ cs) =
    let P : Base → Type 0 = λ b. list_all is_ascii_word (take (mark_length b) (c ∷ d ∷ cs)) ≡ true in
    cond_both (c == 48) (base_behind (d ∷ cs)) Decimal P (λ e.
    cond_both (d == 98) Binary _ P (λ f. marked c d cs e (grind (arith, nat_tests))) (λ _.
    cond_both (d == 111) Octal _ P (λ f. marked c d cs e (grind (arith, nat_tests))) (λ _.
    cond_both (d == 120) Hexadecimal Decimal P (λ f. marked c d cs e (grind (arith, nat_tests))) (λ _. refl)))) (λ _. refl)

-- an integer is of letters, digits and `_`
pub int_words : (s : List ℕ) → has_int_form s ≡ true → list_all is_ascii_word s ≡ true
int_words s h =
    let parts = and_parts (begins is_ascii_digit s) _ h in
    let suffix = (and_parts (has_digit (base_of s) (take (digit_count s) (unmarked s))) _ parts.1).1 in
    let digits = list_all_wider (is_digit_or_mark (base_of s)) is_ascii_word (digit_is_word (base_of s)) (take (digit_count s) (unmarked s)) (list_all-prefix (is_digit_or_mark (base_of s)) (unmarked s)) in
    list_all_parts is_ascii_word (mark_length (base_of s)) s (mark_words s)
    (list_all_parts is_ascii_word (digit_count s) (unmarked s) digits (suffix_words (suffix_of s) suffix))

-- lists have equal passing fronts at equal tests
same_prefix : (p q : ℕ → Bool) → ((c : ℕ) → p c ≡ q c) → (cs : List ℕ) → prefix_len p cs ≡ prefix_len q cs
same_prefix p q same [] = refl
same_prefix p q same (c ∷ cs) = λ i. cond (same c i) (1 + same_prefix p q same cs i) 0

-- the suffix, if the base were this one
abbrev suffix_at : List ℕ → Base → List ℕ
suffix_at s base = drop (prefix_len (is_digit_or_mark base) (drop (mark_length base) s)) (drop (mark_length base) s)

-- the suffix of a decimal integer is what stands behind its digits
decimal_suffix : (s : List ℕ) → base_of s ≡ Decimal → suffix_of s ≡ behind_digits s
decimal_suffix s h =
    ap (suffix_at s) h
    ∙ ap (λ n. drop n s) (same_prefix (is_digit_or_mark Decimal) is_decimal_part (λ c. ap (λ b. b || (c == 95)) (decimal_digit c)) s)

-- what stands there makes no float
abbrev IsNoTail : List ℕ → Type 0
IsNoTail t = is_float_tail (take (tail_len t) t) ≡ false

-- behind the digits of a decimal integer stands none
suffix_no_tail : (t r : List ℕ) → is_int_suffix t ≡ true → begins is_xid_continue r ≡ false → (not (is_empty t) || not (makes_float r)) ≡ true → IsNoTail (t ++ r)
suffix_no_tail [] r h k m = rest_no_tail r k (not-true _ m)
suffix_no_tail (c ∷ cs) r h k m = no_tail c (cs ++ r) _ (not-true _ (and_parts (list_all is_ascii_word (c ∷ cs)) _ (type_is_word (c ∷ cs) h)).1)

-- no tail of a float follows the zero of a radix prefix
mark_no_tail : (c d : ℕ) (cs : List ℕ) → (c == 48) ≡ true → ((d == 98) || ((d == 111) || (d == 120))) ≡ true → IsNoTail (behind_digits (c ∷ d ∷ cs))
mark_no_tail c d cs h k =
    let zero : is_decimal_part c ≡ true = grind (arith, nat_tests) in
    let letter : is_decimal_part d ≡ false = grind (arith, nat_tests) in
    let none : makes_none d ≡ false = grind (arith, nat_tests) in
    let count = cond-true (is_decimal_part c) (1 + prefix_len is_decimal_part (d ∷ cs)) 0 zero ∙ ap (λ n. 1 + n) (cond-false (is_decimal_part d) (1 + prefix_len is_decimal_part cs) 0 letter) in
    subst IsNoTail (sym (ap (λ n. drop n (c ∷ d ∷ cs)) count)) (no_tail d cs _ none)

-- no float stands where a decimal integer does
decimal_no_tail : (s r : List ℕ) → base_of s ≡ Decimal → is_int_suffix (suffix_of s) ≡ true → begins is_xid_continue r ≡ false → (not (is_empty (suffix_of s)) || not (makes_float r)) ≡ true → IsNoTail (behind_digits (s ++ r))
decimal_no_tail s r e h k m =
    let behind = ap (λ t. t ++ r) (decimal_suffix s e) ∙ sym (drop_prefix-append is_decimal_part s r (begins_no_part r k)) in
    subst IsNoTail behind (suffix_no_tail (suffix_of s) r h k m)

-- without one of the letters the base is the decimal one
pub no_mark : (d : ℕ) (cs : List ℕ) → ((d == 98) || ((d == 111) || (d == 120))) ≡ false → base_behind (d ∷ cs) ≡ Decimal
no_mark d cs h =
    let binary = or_parts (d == 98) _ h in
    let octal = or_parts (d == 111) _ binary.1 in
    cond-false _ _ _ binary.0 ∙ cond-false _ _ _ octal.0 ∙ cond-false _ _ _ octal.1

-- no float stands where an integer does
pub int_no_tail : (s r : List ℕ) → is_int_suffix (suffix_of s) ≡ true → begins is_xid_continue r ≡ false → (not (is_empty (suffix_of s)) || not (makes_float r)) ≡ true → IsNoTail (behind_digits (s ++ r))
int_no_tail [] r h k m = decimal_no_tail [] r refl h k m
int_no_tail (c ∷ []) r h k m = decimal_no_tail (c ∷ []) r (cond_both (c == 48) Decimal Decimal (λ b. b ≡ Decimal) (λ _. refl) (λ _. refl)) h k m
int_no_tail (c ∷ d ∷ cs) r h k m =
    ⊎_elim
    (λ e.
    ⊎_elim (λ f. mark_no_tail c d (cs ++ r) e f) (λ f. decimal_no_tail (c ∷ d ∷ cs) r (cond-true _ _ _ e ∙ no_mark d cs f) h k m)
    (cases_Bool ((d == 98) || ((d == 111) || (d == 120)))))
    (λ e. decimal_no_tail (c ∷ d ∷ cs) r (cond-false _ _ _ e) h k m)
    (cases_Bool (c == 48))

-- a letter, a digit and `_` are ASCII
word_is_ascii : (c : ℕ) → is_ascii_word c ≡ true → c < 128
word_is_ascii c h = grind (arith, nat_tests)

-- a list of ASCII letters, digits and `_` is ASCII
words_ascii : (s : List ℕ) → list_all is_ascii_word s ≡ true → IsAscii s
words_ascii [] h = IsAscii-nil
words_ascii (c ∷ cs) h = let parts = and_parts (is_ascii_word c) _ h in IsAscii-cons c cs (word_is_ascii c parts.0) (words_ascii cs parts.1)

-- the characters of an integer are its bytes
pub int_bytes : (bs : List ℕ) → IsUtf8 bs → is_int (chars bs) ≡ true → bs ≡ chars bs
int_bytes bs text h = sym (encodes-chars bs text) ∙ encodes-IsAscii (chars bs) (words_ascii (chars bs) (int_words (chars bs) (and_parts (has_int_form (chars bs)) _ h).0))

-- an integer in bytes is one in characters
pub int_chars : (bs : List ℕ) → is_int bs ≡ true → is_int (chars bs) ≡ true
int_chars bs h =
    let same = chars-IsAscii bs (words_ascii bs (int_words bs (and_parts (has_int_form bs) _ h).0)) in
    ap is_int same ∙ h
