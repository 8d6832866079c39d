-- The decimal digits of a place, as a word and as a number that is read.
use Rattle.std.proofs.Common.{◌≡◌, ◌≢◌, ℕ, zero, suc, ◌<◌, ◌^◌, true, false, IsTrue, inl, Option, Some, None, Result, Ok, Err, List, [], ◌∷◌, length, get_or, refl, sym, ap, ◌∙◌, subst, arith, append-nil, rules, codes, chars, encode_utf8_all}
use Rattle.std.specs.Prelude.{nat_eq}
use Rattle.std.specs.Char.{is_ascii_digit}
use Rattle.std.specs.Fmt.{decimal}
use Rattle.std.specs.Str.{bytes_eq, IsAscii}
use Rattle.std.specs.Str.Parse.{AllDigits, digits_value, ParsesUnsigned}
use Rattle.std.specs.Result.{result_ok}
use Rattle.std.proofs.lemmas.Bool.{or_right, false≢true, eqb-true, eq-eqb}
use Rattle.std.proofs.lemmas.Slice.Eq.{bytes_eq-Decides}
use Rattle.std.proofs.lemmas.Bool.Decides.{nat_tests, same_from_decides}
use Rattle.std.proofs.lemmas.Fmt.{decimal_is_IsNumeral, decimal_digit, first_decimal, decimal_injective, parse-decimal, decimal-digits_value, IsAscii-decimal}
use Rattle.std.proofs.lemmas.Str.{IsAscii-append, chars-IsAscii, encodes-IsAscii}
use Rattle.std.proofs.lemmas.Str.Ascii.{IsAscii-from_all}
use Rattle.std.proofs.lemmas.Str.Parse.{IsNumeralModel, numerals_by_value, tells_digits, parse_plain}
use Rattle.educe_tokens.specs.LiteralKind.TheVariants.{Int}
use Rattle.educe_tokens.specs.TokenKind.TheVariants.{Ident, Literal}
use Rattle.educe_tokens.specs.Chars.{begins}
use Rattle.educe_tokens.specs.Pieces.{spells, is_name_or_index}
use Rattle.educe_body_forms.specs.Keys.{IsIndexOf, begins_plain}
use Rattle.educe_body_forms.specs.Suffixed.{steps_text, digits_begin, decimal_suffixed}

-- ---- digits are a word

-- the decimal digits of a place begin with a digit
pub decimal_begins : (n : ℕ) → n < 2 ^ 64 → begins is_ascii_digit (decimal n) ≡ true
decimal_begins n small = let own = decimal_is_IsNumeral n small in digits_begin (decimal n) own.0.1 own.0.0

-- the decimal digits of a place are an index
pub decimal_is_index : (n : ℕ) → n < 2 ^ 64 → IsTrue (is_name_or_index (decimal n))
decimal_is_index n small =
    let int : IsTrue (spells (Literal Int) (decimal n)) = subst (λ (t : List ℕ). IsTrue (spells (Literal Int) t)) (append-nil (decimal n)) (decimal_suffixed n [] small (inl refl)) in
    or_right (spells Ident (decimal n)) (spells (Literal Int) (decimal n)) int

-- ---- digits that are read

own_digits : IsNumeralModel (AllDigits 10) (digits_value 10)
own_digits = numerals_by_value (AllDigits 10) tells_digits

plain_no_plus : (bs : List ℕ) → begins_plain bs ≡ true → get_or bs 0 0 ≢ 43
plain_no_plus [] h = λ e. absurd (omega arith)
plain_no_plus (c ∷ []) h = grind (arith, nat_tests)
plain_no_plus (c ∷ d ∷ cs) h = grind (arith, nat_tests)

plain_zero : (bs : List ℕ) → begins_plain bs ≡ true → get_or bs 0 0 ≡ 48 → length bs ≡ 1
plain_zero [] h e = absurd (omega arith)
plain_zero (c ∷ []) h e = refl
plain_zero (c ∷ d ∷ cs) h e = absurd (grind (arith, nat_tests))

-- a text that begins so and is read as a number is its decimal digits
pub read_is_decimal : {E : Type 0} (bs : List ℕ) (r : Result ℕ E) (n : ℕ) → begins_plain bs ≡ true → ParsesUnsigned 64 10 bs r → r ≡ Ok n → bs ≡ decimal n
read_is_decimal {E = E} bs (Err e) n plain h is = absurd (cc)
read_is_decimal {E = E} bs (Ok m) n plain h is =
    let read = parse_plain own_digits {E = E} 64 bs (Ok m) h (plain_no_plus bs plain) in
    let same : m ≡ n = cc in
    sym (decimal-digits_value own_digits bs read.0.0 read.0.1 (plain_zero bs plain) read.0.2) ∙ ap decimal (sym read.1 ∙ same)

-- decimal digits begin so
decimal_plain : (bs : List ℕ) (n : ℕ) → n < 2 ^ 64 → bs ≡ decimal n → begins_plain bs ≡ true
decimal_plain bs zero small e = rw (e, decimal_digit 0 (omega arith)) refl
decimal_plain [] (suc n) small e =
    let first = first_decimal (suc n) (omega arith) small in absurd (omega (arith, ap (λ t. get_or t 0 0) e))
decimal_plain (c ∷ []) (suc n) small e =
    let first = first_decimal (suc n) (omega arith) small in
    let above : 48 < c = subst (λ t. 48 < get_or t 0 0) (sym e) first in
    grind (arith, nat_tests)
decimal_plain (c ∷ d ∷ cs) (suc n) small e =
    let first = first_decimal (suc n) (omega arith) small in
    let above : 48 < c = subst (λ t. 48 < get_or t 0 0) (sym e) first in
    grind (arith, nat_tests)

-- the characters of decimal digits are their bytes
pub chars_decimal : (n : ℕ) → n < 2 ^ 64 → chars (decimal n) ≡ decimal n
chars_decimal n small = chars-IsAscii (decimal n) (IsAscii-decimal n small)

-- the bytes of a type's name are ASCII
IsAscii-usize : IsAscii (codes "usize")
IsAscii-usize = IsAscii-from_all (codes "usize") (search rules)

-- the characters of decimal digits and `usize` are their bytes
pub chars_steps : (n : ℕ) → n < 2 ^ 64 → chars (steps_text n) ≡ steps_text n
chars_steps n small = chars-IsAscii (steps_text n) (IsAscii-append (decimal n) (codes "usize") (IsAscii-decimal n small) IsAscii-usize)

-- the bytes of decimal digits are their characters
pub bytes_decimal : (text bs : List ℕ) (n : ℕ) → n < 2 ^ 64 → bs ≡ encode_utf8_all text → text ≡ decimal n → bs ≡ decimal n
bytes_decimal text bs n small is e = is ∙ ap encode_utf8_all e ∙ encodes-IsAscii (decimal n) (IsAscii-decimal n small)

-- a text that doesn't begin so is no decimal digits
pub no_index_by_first : (text bs : List ℕ) → bs ≡ encode_utf8_all text → begins_plain bs ≡ false → IsIndexOf text None
no_index_by_first text bs is other n small e =
    let h = decimal_plain bs n small (bytes_decimal text bs n small is e) in absurd (false≢true (sym other ∙ h))

-- what is read of a text that begins so is the number whose decimal digits it is
pub index_is_read : {E : Type 0} (text bs : List ℕ) (r : Result ℕ E) (o : Option ℕ) → bs ≡ encode_utf8_all text → chars bs ≡ text → begins_plain bs ≡ true
    → ParsesUnsigned 64 10 bs r → o ≡ result_ok r → IsIndexOf text o
index_is_read {E = E} text bs (Ok n) o is spelled plain h same =
    let read = parse_plain own_digits {E = E} 64 bs (Ok n) h (plain_no_plus bs plain) in
    let small : n < 2 ^ 64 = subst (λ (m : ℕ). m < 2 ^ 64) (sym read.1) read.0.2 in
    subst (IsIndexOf text) (sym same) (small, sym spelled ∙ ap chars (read_is_decimal {E = E} bs (Ok n) n plain h refl) ∙ chars_decimal n small)
index_is_read {E = E} text bs (Err e) o is spelled plain h same =
    let none : IsIndexOf text None = λ n small own.
    let given : Err e ≡ Ok n = parse-decimal {E = E} 64 n bs (Err e) small small (bytes_decimal text bs n small is own) h in absurd (cc) in
    subst (IsIndexOf text) (sym same) none

-- two indices are the same where their decimal digits are
pub index_tells : (place index : ℕ) (key : List ℕ) → place < 2 ^ 64 → IsIndexOf key (Some index) → nat_eq index place ≡ bytes_eq (decimal place) key
index_tells place index key small own =
    sym (same_from_decides (bytes_eq (decimal place) key) (nat_eq index place) (bytes_eq-Decides (decimal place) key) (
      (λ h. ap decimal (sym (eqb-true index place h)) ∙ sym own.1),
      (λ e. eq-eqb index place (sym (decimal_injective place index small own.0 (e ∙ own.1)))),
    ))
