-- Integers of 64 bits.
use Rattle.std.proofs.Common.{◌≡◌, ℕ, zero, suc, ◌<◌, ◌≤◌, ◌^◌, true, false, List, [], ◌∷◌, drop, refl, sym, subst, ◌∙◌, ap, arith, cond, Option, Some, None, Result, Ok, Err, FitsSigned, encode_utf8_all}
use Rattle.std.specs.Prelude.{Bool, ℤ, pos, neg_ℤ, if◌then◌else◌, nat_lt, nat_le, option_and_then}
use Rattle.std.specs.Result.{OkIff, result_ok}
use Rattle.std.specs.Str.{all_ascii_digits}
use Rattle.std.specs.Str.Parse.{IsNumeral, ParsesSigned, digits_value, starts_with_minus, without_leading_plus}
use Rattle.std.proofs.lemmas.Bool.Decides.{nat_tests}
use Rattle.std.proofs.lemmas.Str.Parse.{IsNumeralModel, numerals_by_value, tells_all_ascii_digits}
use mir.Syntax.{w64}
use Rattle.educe_tokens.specs.IntValue.{int_value, value_of}
use Rattle.educe_tokens.specs.Lexes.{lexeme_of}
use Rattle.educe_tokens.specs.declared.token.Token.{Token}
use Rattle.educe_syntax.specs.Terminal.TheVariants.{Sign}
use Rattle.educe_syntax.specs.Terminals.{accepts}
use Rattle.educe_attrs_values.specs.Integers.{integer_of, integer_value, digits_in, decimal_in, signed_in, integer_by, integer_in}
use Rattle.educe_attrs_values.specs.Texts.{text_in, only_text}
use Rattle.educe_attrs_values.specs.Values.{IsDecimal, IsInteger}
use Rattle.educe_attrs_values.proofs.Texts.{text_kind}

below : (m n : ℕ) → nat_lt m n ≡ true → m < n
below m n h = grind (arith, nat_tests)

pub within : (m n : ℕ) → nat_le m n ≡ true → m ≤ n
within m n h = grind (arith, nat_tests)

is_below : (m n : ℕ) → m < n → nat_lt m n ≡ true
is_below m n h = grind (arith, nat_tests)

pub is_within : (m n : ℕ) → m ≤ n → nat_le m n ≡ true
is_within m n h = grind (arith, nat_tests)

-- what comes behind an option that has a value
then_some : {A B : Type 0} (f : A → Option B) (v : Option A) (z : B) → option_and_then f v ≡ Some z → (m : A) × (v ≡ Some m) × (f m ≡ Some z)
then_some f None z h = absurd (cc)
then_some f (Some m) z h = (m, refl, h)

-- ---- magnitudes

-- the number of this magnitude, negated or not
abbrev signed : Bool → ℕ → ℤ
signed true n = neg_ℤ (pos n)
signed false n = pos n

-- it has 64 bits
abbrev IsInRange : Bool → ℕ → Type 0
IsInRange true n = n ≤ 2 ^ 63
IsInRange false n = n < 2 ^ 63

range_if : (n : ℕ) (z y : ℤ) (P : Type 0) (b : Bool) → (b ≡ true → P) → (if b then Some y else None) ≡ Some z → P × (y ≡ z)
range_if n z y P true is h = let same : y ≡ z = cc in (is refl, same)
range_if n z y P false is h = absurd (cc)

range_is : (minus : Bool) (n : ℕ) (z : ℤ) → integer_of minus n ≡ Some z → IsInRange minus n × (signed minus n ≡ z)
range_is true n z h = range_if n z (neg_ℤ (pos n)) (n ≤ 2 ^ 63) (nat_le n (2 ^ 63)) (within n (2 ^ 63)) h
range_is false n z h = range_if n z (pos n) (n < 2 ^ 63) (nat_lt n (2 ^ 63)) (below n (2 ^ 63)) h

range_back : (minus : Bool) (n : ℕ) → IsInRange minus n → integer_of minus n ≡ Some (signed minus n)
range_back true n h = ap (λ b. if b then Some (neg_ℤ (pos n)) else None) (is_within n (2 ^ 63) h)
range_back false n h = ap (λ b. if b then Some (pos n) else None) (is_below n (2 ^ 63) h)

range_fits : (minus : Bool) (n : ℕ) → IsInRange minus n → FitsSigned w64 (signed minus n)
range_fits true zero h = record { sfits = omega arith }
range_fits true (suc n) h = record { sfits = h }
range_fits false n h = record { sfits = h }

fits_range : (minus : Bool) (n : ℕ) → FitsSigned w64 (signed minus n) → IsInRange minus n
fits_range true zero h = omega arith
fits_range true (suc n) h = h.sfits
fits_range false n h = h.sfits

-- ---- literals

-- an integer that a literal writes
value_is : (minus : Bool) (number : Token) (z : ℤ) → integer_value minus (lexeme_of number) ≡ Some z
    → (n : ℕ) × (int_value (lexeme_of number) ≡ Some n) × IsInRange minus n × (signed minus n ≡ z)
value_is minus number z h =
    let found = then_some (integer_of minus) (int_value (lexeme_of number)) z h in
    let range = range_is minus found.0 z found.2 in
    (found.0, found.1, range.0, range.1)

value_back : (minus : Bool) (number : Token) (n : ℕ) → int_value (lexeme_of number) ≡ Some n → IsInRange minus n → integer_value minus (lexeme_of number) ≡ Some (signed minus n)
value_back minus number n is fits = ap (option_and_then (integer_of minus)) is ∙ range_back minus n fits

negated_by : (minus number : Token) (b : Bool) → accepts (Sign 45) minus ≡ b → (z : ℤ) → (if b then integer_value true (lexeme_of number) else None) ≡ Some z
    → IsInteger (minus ∷ number ∷ []) z
negated_by minus number true sign z h = let v = value_is true number z h in subst (IsInteger (minus ∷ number ∷ [])) v.3 (IsInteger.negated minus number v.0 sign v.1 v.2)
negated_by minus number false sign z h = absurd (cc)

signed_is : (tokens : List Token) (z : ℤ) → signed_in tokens ≡ Some z → IsInteger tokens z
signed_is [] z h = absurd (cc)
signed_is (number ∷ []) z h = let v = value_is false number z h in subst (IsInteger (number ∷ [])) v.3 (IsInteger.plain number v.0 v.1 v.2)
signed_is (minus ∷ number ∷ []) z h = negated_by minus number (accepts (Sign 45) minus) refl z h
signed_is (t ∷ u ∷ v ∷ ts) z h = absurd (cc)

-- ---- texts

numerals : IsNumeralModel (λ ds. all_ascii_digits ds ≡ true) (digits_value 10)
numerals = numerals_by_value _ tells_all_ascii_digits

digits_if : (ds : List ℕ) (m : ℕ) (b : Bool) → all_ascii_digits ds ≡ b → (if b then Some (digits_value 10 ds) else None) ≡ Some m → (all_ascii_digits ds ≡ true) × (digits_value 10 ds ≡ m)
digits_if ds m true is h = let same : digits_value 10 ds ≡ m = cc in (is, same)
digits_if ds m false is h = absurd (cc)

-- the digits that write a number
digits_is : (ds : List ℕ) (m : ℕ) → digits_in ds ≡ Some m → IsNumeral 10 ds × (digits_value 10 ds ≡ m)
digits_is [] m h = absurd (cc)
digits_is (c ∷ cs) m h =
    let d = digits_if (c ∷ cs) m (all_ascii_digits (c ∷ cs)) refl h in
    ((omega arith, numerals.to (c ∷ cs) d.0), d.1)

digits_back : (ds : List ℕ) → IsNumeral 10 ds → digits_in ds ≡ Some (digits_value 10 ds)
digits_back [] h = absurd (omega (arith, h.0))
digits_back (c ∷ cs) h = ap (λ b. if b then Some (digits_value 10 (c ∷ cs)) else None) (numerals.from (c ∷ cs) h.1)

-- the number that digits write, negated or not
abbrev of_digits : Bool → List ℕ → Option ℤ
of_digits minus ds = option_and_then (integer_of minus) (digits_in ds)

of_digits_is : (minus : Bool) (ds : List ℕ) (z : ℤ) → of_digits minus ds ≡ Some z → IsNumeral 10 ds × IsInRange minus (digits_value 10 ds) × (signed minus (digits_value 10 ds) ≡ z)
of_digits_is minus ds z h =
    let found = then_some (integer_of minus) (digits_in ds) z h in
    let digits = digits_is ds found.0 found.1 in
    let range = range_is minus (digits_value 10 ds) z (ap (integer_of minus) digits.1 ∙ found.2) in
    (digits.0, range.0, range.1)

of_digits_back : (minus : Bool) (ds : List ℕ) → IsNumeral 10 ds → IsInRange minus (digits_value 10 ds) → of_digits minus ds ≡ Some (signed minus (digits_value 10 ds))
of_digits_back minus ds numeral fits = ap (option_and_then (integer_of minus)) (digits_back ds numeral) ∙ range_back minus (digits_value 10 ds) fits

-- the integer of the text, where it begins so
abbrev decimal_by : List ℕ → Bool → Option ℤ
decimal_by text minus = if minus then of_digits true (drop 1 text) else of_digits false (without_leading_plus text)

decimal_if : (text : List ℕ) (z : ℤ) (minus : Bool) → starts_with_minus text ≡ minus → decimal_by text minus ≡ Some z → IsDecimal text z
decimal_if text z true is h = let d = of_digits_is true (drop 1 text) z h in subst (IsDecimal text) d.2 (IsDecimal.negated is d.0 d.1)
decimal_if text z false is h = let d = of_digits_is false (without_leading_plus text) z h in subst (IsDecimal text) d.2 (IsDecimal.plain is d.0 d.1)

-- what is read is a decimal number
decimal_is : (text : List ℕ) (z : ℤ) → decimal_in text ≡ Some z → IsDecimal text z
decimal_is text z h = decimal_if text z (starts_with_minus text) refl h

-- a decimal number is read
decimal_back : (text : List ℕ) (z : ℤ) → IsDecimal text z → decimal_in text ≡ Some z
decimal_back text _ (IsDecimal.plain is numeral fits) = ap (decimal_by text) is ∙ of_digits_back false (without_leading_plus text) numeral fits
decimal_back text _ (IsDecimal.negated is numeral fits) = ap (decimal_by text) is ∙ of_digits_back true (drop 1 text) numeral fits

-- ---- what the standard library parses

-- it parses digits
abbrev Parses : {E : Type 0} → Bool → List ℕ → Result ℤ E → Type 0
Parses minus ds r = OkIff r (IsNumeral 10 ds × FitsSigned w64 (signed minus (digits_value 10 ds))) (signed minus (digits_value 10 ds))

none_by : (minus : Bool) (ds : List ℕ) → ¬ (IsNumeral 10 ds × FitsSigned w64 (signed minus (digits_value 10 ds))) → (o : Option ℤ) → of_digits minus ds ≡ o → None ≡ o
none_by minus ds none None is = refl
none_by minus ds none (Some z) is = let d = of_digits_is minus ds z is in absurd (none (d.0, range_fits minus (digits_value 10 ds) d.1))

digits_parsed : {E : Type 0} (minus : Bool) (ds : List ℕ) (r : Result ℤ E) → Parses minus ds r → result_ok r ≡ (of_digits minus ds)
digits_parsed minus ds (Ok z) h = ap Some h.1 ∙ sym (of_digits_back minus ds h.0.0 (fits_range minus (digits_value 10 ds) h.0.1))
digits_parsed minus ds (Err e) h = none_by minus ds h (of_digits minus ds) refl

module _ {E : Type 0} (text : List ℕ) (r : Result ℤ E) where
  -- it parses the text, where it begins so
  abbrev By : Bool → Type 0
  By minus =
      let ds : List ℕ = cond minus (drop 1 text) (without_leading_plus text) in
      let z : ℤ = cond minus (neg_ℤ (pos (digits_value 10 ds))) (pos (digits_value 10 ds)) in
      OkIff r (IsNumeral 10 ds × FitsSigned w64 z) z

  parsed_if : (minus : Bool) → By minus → result_ok r ≡ (decimal_by text minus)
  parsed_if true h = digits_parsed true (drop 1 text) r h
  parsed_if false h = digits_parsed false (without_leading_plus text) r h

  -- what is parsed is what is read
  pub decimal_parsed : ParsesSigned w64 10 text r → result_ok r ≡ (decimal_in text)
  decimal_parsed h = parsed_if (starts_with_minus text) h

-- ---- both

integer_if : (tokens : List Token) (z : ℤ) (o : Option (List ℕ)) → only_text tokens ≡ o → integer_by o tokens ≡ Some z → IsInteger tokens z
integer_if tokens z None is h = signed_is tokens z h
integer_if tokens z (Some text) is h = IsInteger.quoted tokens text z is (decimal_is (encode_utf8_all text) z h)

-- what is read is an integer
pub integer_is : (tokens : List Token) (z : ℤ) → integer_in tokens ≡ Some z → IsInteger tokens z
integer_is tokens z h = integer_if tokens z (only_text tokens) refl h

text_none : (number : Token) (n : ℕ) → int_value (lexeme_of number) ≡ Some n → (o : Option (List ℕ)) → text_in number ≡ o → text_in number ≡ None
text_none number n h None is = is
text_none number n h (Some text) is =
    let none : value_of number.kind number.spelling ≡ None = ap (λ k. value_of k number.spelling) (text_kind number.kind number.spelling text is) in
    let both : None ≡ Some n = sym none ∙ h in absurd (cc)

-- an integer is read
pub integer_read : (tokens : List Token) (z : ℤ) → IsInteger tokens z → integer_in tokens ≡ Some z
integer_read _ _ (IsInteger.plain number n is fits) =
    ap (λ o. integer_by o (number ∷ [])) (text_none number n is (text_in number) refl) ∙ value_back false number n is fits
integer_read _ _ (IsInteger.negated minus number n sign is fits) =
    ap (λ b. if b then integer_value true (lexeme_of number) else None) sign ∙ value_back true number n is fits
integer_read tokens z (IsInteger.quoted _ text _ is decimal) = ap (λ o. integer_by o tokens) is ∙ decimal_back (encode_utf8_all text) z decimal
