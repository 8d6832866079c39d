-- The number that a word is.
use Rattle.std.proofs.Common.{◌≡◌, ◌≢◌, ℕ, ◌+◌, ◌<◌, ◌≤◌, ◌^◌, ◌==◌, cond, drop, List, [], ◌∷◌, length, get_or, Bool, false, Result, Ok, Err, refl, sym, ap, subst, ◌∙◌, arith}
use Rattle.std.specs.Prelude.{decimal}
use Rattle.std.specs.Str.Parse.{ParsesUnsigned, IsNumeral, digits_value, without_leading_plus}
use Rattle.std.proofs.lemmas.Bool.{ne_eqb}
use Rattle.std.proofs.lemmas.Fmt.{parse-decimal, first_decimal, decimal_digit, decimal-digits_value}
use Rattle.std.proofs.lemmas.Str.Parse.{IsNumeralModel, numerals_by_value, tells_digits}

-- a word that begins above 0 has no plus in front
plain : (word : List ℕ) → 48 < get_or word 0 0 → without_leading_plus word ≡ word
plain word above = ap (λ b. drop (cond b 1 0) word) (ne_eqb (get_or word 0 0) 43 (omega arith))

-- a word that begins above 0 and is read as a number is that number
pub number_is : {E : Type 0} (word : List ℕ) (count : ℕ) (r : Result ℕ E) → 48 < get_or word 0 0 → r ≡ Ok count → ParsesUnsigned 16 10 word r → (word ≡ decimal count) × (1 ≤ count)
number_is {E} word count r above is parsed =
    let read : ParsesUnsigned {E = E} 16 10 word (Ok count) = subst (λ s. ParsesUnsigned 16 10 word s) is parsed in
    let same = plain word above in
    let numeral : IsNumeral 10 word = subst (IsNumeral 10) same read.0.0 in
    let value : count ≡ digits_value 10 word = read.1 ∙ ap (digits_value 10) same in
    let small : digits_value 10 word < 2 ^ 64 = omega (arith, ap (digits_value 10) same, read.0.1) in
    let spelled : decimal (digits_value 10 word) ≡ word = decimal-digits_value (numerals_by_value _ tells_digits) word numeral.1 numeral.0 (λ zero_first. absurd (omega arith)) small in
    let written : word ≡ decimal count = sym spelled ∙ ap decimal (sym value) in
    let positive : count ≢ 0 = λ none.
    let zero_digit : get_or word 0 0 ≡ 48 = ap (λ l. get_or l 0 0) (written ∙ ap decimal none ∙ decimal_digit 0 (omega arith)) in
    omega arith in
    (written, omega arith)

-- a word that is a number up to 1000 is read as it
pub read_as : {E : Type 0} (word : List ℕ) (n : ℕ) (r : Result ℕ E) → n ≤ 1000 → word ≡ decimal n → ParsesUnsigned 16 10 word r → r ≡ Ok n
read_as word n r few is parsed = parse-decimal 16 n word r (omega arith) (omega arith) is parsed

-- a number from 1 on begins above 0
pub begins : (word : List ℕ) (n : ℕ) → 1 ≤ n → n ≤ 1000 → word ≡ decimal n → 48 < get_or word 0 0
begins word n some few is = subst (λ l. 48 < get_or l 0 0) (sym is) (first_decimal n (omega arith) (omega arith))
