-- Decimal integers of few digits, with no suffix.
use Rattle.std.proofs.Common.{◌≡◌, ℕ, ◌+◌, ◌^◌, ◌<◌, ◌≤◌, true, false, not, List, [], ◌∷◌, ◌++◌, length, take, drop, refl, sym, ap, ◌∙◌, arith, append_assoc, append-nil, length-append, lit<}
use Rattle.std.specs.Prelude.{◌==◌, ◌||◌, nat_lt}
use Rattle.std.specs.List.{list_all, list_any, prefix_len, filter}
use Rattle.std.specs.Char.{is_digit, is_ascii_digit}
use Rattle.std.specs.Str.Parse.{AllDigits, digits_value}
use Rattle.std.proofs.Math.Seq.{take-length}
use Rattle.std.proofs.lemmas.Bool.{and_parts, and_from, or_left, or_right, cond_both, ltb-true, lt-ltb, eqb-true, eq-eqb}
use Rattle.std.proofs.lemmas.Bool.Decides.{nat_tests}
use Rattle.std.proofs.lemmas.List.{drop_all}
use Rattle.std.proofs.lemmas.List.Folds.{list_all-append}
use Rattle.std.proofs.lemmas.Str.Parse.{numerals_by_value, tells_digits, digits_value_short}
use Rattle.educe_tokens_pieces.specs.declared.integers.Base.{Base}
use Rattle.educe_tokens_pieces.specs.declared.integers.Base.TheVariants.{Decimal}
use Rattle.educe_tokens_pieces.specs.declared.kind.LiteralKind.TheVariants.{Int}
use Rattle.educe_tokens_pieces.specs.declared.kind.TokenKind.TheVariants.{Literal}
use Rattle.educe_tokens_pieces.specs.declared.kind.PieceKind.TheVariants.{Token}
use Rattle.educe_tokens_pieces.specs.Chars.{begins, is_empty}
use Rattle.educe_tokens_pieces.specs.Integers.{radix, mark_length, base_of, base_behind, is_digit_or_mark, digits_of, suffix_of, has_int_form, fits_u128, makes_float}
use Rattle.educe_tokens_pieces.specs.Fronts.{HasFront}
use Rattle.educe_tokens_pieces.specs.Pieces.{ends_word_before}
use Rattle.educe_tokens_pieces.proofs.Classes.{prefix_len-append}
use Rattle.educe_tokens_pieces.proofs.NumberParts.{list_all_wider}
use Rattle.educe_tokens_pieces.proofs.IntegerLaws.{no_mark}
use Rattle.educe_tokens_scan.specs.InPlace.{Stands, is_digits}

-- one more digit
pub one_more_digit : (count : ℕ) (text rest more : List ℕ) (c : ℕ) → HasFront (is_digits count) text rest → rest ≡ c ∷ more → is_ascii_digit c ≡ true → HasFront (is_digits (count + 1)) text more
one_more_digit count text rest more c f e h =
    let parts = and_parts (list_all is_ascii_digit f.front) _ f.passes in
    record {
      front = f.front ++ c ∷ [];
      is = f.is ∙ ap (λ cs. f.front ++ cs) e ∙ sym (append_assoc f.front (c ∷ []) more);
      passes = and_from _ _ (list_all-append is_ascii_digit f.front (c ∷ []) ∙ and_from _ _ parts.0 (and_from _ _ h refl))
          (eq-eqb _ _ (omega (arith, eqb-true _ _ parts.1, length-append f.front (c ∷ []))));
    }

-- the decimal digits are the ASCII digits
digit_of_ten : (c : ℕ) → is_ascii_digit c ≡ true → is_digit c 10 ≡ true
digit_of_ten c h = grind (arith, nat_tests)

decimal_part : (c : ℕ) → is_ascii_digit c ≡ true → is_digit_or_mark Decimal c ≡ true
decimal_part c h = or_left _ _ (digit_of_ten c h)

all_digits : (ds : List ℕ) → list_all is_ascii_digit ds ≡ true → AllDigits 10 ds
all_digits [] h = tt
all_digits (c ∷ cs) h = let p = and_parts (is_ascii_digit c) _ h in (ltb-true _ _ (digit_of_ten c p.0), all_digits cs p.1)

-- no `_` is among them
none_left_out : (ds : List ℕ) → list_all is_ascii_digit ds ≡ true → filter (λ c. not (c == 95)) ds ≡ ds
none_left_out [] h = refl
none_left_out (c ∷ cs) h =
    let p = and_parts (is_ascii_digit c) _ h in
    let no : not (c == 95) ≡ true = grind (arith, nat_tests, p.0) in
    rw no (ap (λ ds. c ∷ ds) (none_left_out cs p.1))

-- digits begin with no mark of another base
decimal_base : (s : List ℕ) → list_all is_ascii_digit s ≡ true → base_of s ≡ Decimal
decimal_base [] h = refl
decimal_base (c ∷ []) h = cond_both (c == 48) Decimal Decimal (λ b. b ≡ Decimal) (λ _. refl) (λ _. refl)
decimal_base (c ∷ d ∷ cs) h =
    let p = and_parts (is_ascii_digit d) _ (and_parts (is_ascii_digit c) _ h).1 in
    let no : ((d == 98) || ((d == 111) || (d == 120))) ≡ false = grind (arith, nat_tests, p.0) in
    cond_both (c == 48) (base_behind (d ∷ cs)) Decimal (λ b. b ≡ Decimal) (λ _. no_mark d cs no) (λ _. refl)

-- the digits and the suffix, if the base were this one
abbrev digits_at : List ℕ → Base → List ℕ
digits_at s base = take (prefix_len (is_digit_or_mark base) (drop (mark_length base) s)) (drop (mark_length base) s)

abbrev suffix_at : List ℕ → Base → List ℕ
suffix_at s base = drop (prefix_len (is_digit_or_mark base) (drop (mark_length base) s)) (drop (mark_length base) s)

-- digits are all digits of their base, and have no suffix
module _ (s : List ℕ) (h : list_all is_ascii_digit s ≡ true) where
  all_count : prefix_len (is_digit_or_mark Decimal) s ≡ length s
  all_count =
      ap (prefix_len (is_digit_or_mark Decimal)) (sym (append-nil s))
      ∙ prefix_len-append (is_digit_or_mark Decimal) s [] (list_all_wider is_ascii_digit (is_digit_or_mark Decimal) decimal_part s h) refl

  digits_all : digits_of s ≡ s
  digits_all = ap (digits_at s) (decimal_base s h) ∙ ap (λ n. take n s) all_count ∙ take-length s

  no_suffix : suffix_of s ≡ []
  no_suffix = ap (suffix_at s) (decimal_base s h) ∙ ap (λ n. drop n s) all_count ∙ drop_all (length s) s (omega arith)

-- digits are an integer
digits_begin : (s : List ℕ) → list_all is_ascii_digit s ≡ true → 0 < length s → begins is_ascii_digit s ≡ true
digits_begin [] h some = absurd (omega (arith, some))
digits_begin (c ∷ cs) h some = (and_parts (is_ascii_digit c) _ h).0

has_decimal : (s : List ℕ) → list_all is_ascii_digit s ≡ true → 0 < length s → list_any (λ c. is_digit c 10) s ≡ true
has_decimal [] h some = absurd (omega (arith, some))
has_decimal (c ∷ cs) h some = or_left _ _ (digit_of_ten c (and_parts (is_ascii_digit c) _ h).0)

digits_form : (s : List ℕ) → list_all is_ascii_digit s ≡ true → 0 < length s → has_int_form s ≡ true
digits_form s h some =
    let any : list_any (λ c. is_digit c (radix (base_of s))) (digits_of s) ≡ true = (λ i. list_any (λ c. is_digit c (radix (decimal_base s h i))) (digits_all s h i)) ∙ has_decimal s h some in
    and_from _ _ (digits_begin s h some) (and_from _ _ any (or_left _ _ (ap is_empty (no_suffix s h))))

-- few digits write a number within `u128`
few_fit : (s : List ℕ) → list_all is_ascii_digit s ≡ true → length s ≤ 38 → fits_u128 s ≡ true
few_fit s h few =
    let small : digits_value 10 s < 10 ^ 38 = digits_value_short (numerals_by_value (AllDigits 10) tells_digits) s 38 (all_digits s h) few in
    let top : 10 ^ 38 < 2 ^ 128 = lit< tt in
    let within : digits_value 10 s < 2 ^ 128 = omega (arith, small, top) in
    (λ i. nat_lt (digits_value (radix (decimal_base s h i)) (filter (λ c. not (c == 95)) (digits_all s h i))) (2 ^ 128))
    ∙ ap (λ ds. nat_lt (digits_value 10 ds) (2 ^ 128)) (none_left_out s h)
    ∙ lt-ltb _ _ within

-- what begins with no `.` makes no float
no_float : (r : List ℕ) → begins (λ c. c == 46) r ≡ false → makes_float r ≡ false
no_float [] h = refl
no_float (c ∷ cs) h = rw h refl

-- a decimal integer
pub decimal_stands : (count : ℕ) (text rest : List ℕ) → HasFront (is_digits count) text rest → 0 < count → count ≤ 38 → ends_word_before rest ≡ true → begins (λ c. c == 46) rest ≡ false → Stands (Token (Literal Int)) text rest
decimal_stands count text rest f some few ends dot =
    let parts = and_parts (list_all is_ascii_digit f.front) _ f.passes in
    let long : length f.front ≡ count = eqb-true _ _ parts.1 in
    record {
      spelling = f.front;
      is = f.is;
      piece = and_from _ _ (digits_form f.front parts.0 (omega (arith, long, some))) (few_fit f.front parts.0 (omega (arith, long, few)));
      before = and_from _ _ ends (or_right (not (is_empty (suffix_of f.front))) _ (ap not (no_float rest dot)));
    }
