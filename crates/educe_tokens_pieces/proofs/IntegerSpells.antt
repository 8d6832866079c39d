-- What the test of integers finds to be one is one, and each passes it.
use Rattle.std.proofs.Common.{◌≡◌, ℕ, Bool, true, false, ◌||◌, not, ◌⊎◌, inl, inr, List, [], ◌∷◌, ◌++◌, take, drop, refl, sym, ap, ◌∙◌, ⊎_elim, arith}
use Rattle.std.specs.Prelude.{◌==◌, ◌^◌, nat_lt}
use Rattle.std.specs.List.{prefix_len, list_all}
use Rattle.std.specs.Char.{is_ascii_digit}
use Rattle.std.proofs.lemmas.Bool.{and_parts, and_from, or_cases, or_right, not-true, not_from_false, false≢true, cond_both, eqb-true, ltb-true, ltb-false, lt-ltb, le-ltb}
use Rattle.std.proofs.lemmas.Bool.Decides.{nat_tests}
use Rattle.std.proofs.lemmas.List.{take-append-drop}
use Rattle.educe_tokens_pieces.specs.declared.integers.Base.{Base}
use Rattle.educe_tokens_pieces.specs.declared.integers.Base.TheVariants.{Binary, Octal, Decimal, Hexadecimal}
use Rattle.educe_tokens_pieces.specs.Chars.{begins, is_empty}
use Rattle.educe_tokens_pieces.specs.Integers.{mark_length, base_behind, base_of, is_digit_or_mark, unmarked, digit_count, digits_of, suffix_of, integer_types, is_integer_type, has_int_form, int_value_of, is_int, is_wide_int}
use Rattle.educe_tokens_pieces.specs.Numbers.{has_digit, is_int_suffix, digits_number}
use Rattle.educe_tokens_pieces.specs.Spells.{mark_of, IsIntegerOf, IsInteger, IsWideInteger}
use Rattle.educe_tokens_pieces.proofs.Classes.{at_equal, list_all-prefix}
use Rattle.educe_tokens_pieces.proofs.Lists.{nil_from_empty}
use Rattle.educe_tokens_pieces.proofs.NumberParts.{begins_wider, type_is}
use Rattle.educe_tokens_pieces.proofs.NumberCuts.{cut_front, cut_back, begins_other}
use Rattle.educe_tokens_pieces.proofs.IntegerLaws.{no_mark}

-- a text is the mark of its base and what stands behind it
marked : (s : List ℕ) → s ≡ mark_of (base_of s) ++ unmarked s
marked [] = refl
marked (c ∷ []) =
    let P : Base → Type 0 = λ b. c ∷ [] ≡ mark_of b ++ drop (mark_length b) (c ∷ []) in
    cond_both (c == 48) Decimal Decimal P (λ _. refl) (λ _. refl)
marked (c ∷ d ∷ cs) =
    let P : Base → Type 0 = λ b. c ∷ d ∷ cs ≡ mark_of b ++ drop (mark_length b) (c ∷ d ∷ cs) in
    cond_both (c == 48) (base_behind (d ∷ cs)) Decimal P (λ e.
    cond_both (d == 98) Binary _ P (λ f. λ i. eqb-true c 48 e i ∷ eqb-true d 98 f i ∷ cs) (λ _.
    cond_both (d == 111) Octal _ P (λ f. λ i. eqb-true c 48 e i ∷ eqb-true d 111 f i ∷ cs) (λ _.
    cond_both (d == 120) Hexadecimal Decimal P (λ f. λ i. eqb-true c 48 e i ∷ eqb-true d 120 f i ∷ cs) (λ _. refl)))) (λ _. refl)

-- an integer of any size has its parts
form_spelled : (s : List ℕ) → has_int_form s ≡ true → IsIntegerOf s (base_of s) (digits_of s)
form_spelled s h =
    let p = and_parts (begins is_ascii_digit s) _ h in
    let q = and_parts (has_digit (base_of s) (digits_of s)) _ p.1 in
    record {
      suffix = suffix_of s;
      is = marked s ∙ ap (λ t. mark_of (base_of s) ++ t) (sym (take-append-drop (digit_count s) (unmarked s)));
      first = p.0;
      each = list_all-prefix (is_digit_or_mark (base_of s)) (unmarked s);
      some = q.0;
      typed = ⊎_elim (λ e. inl (nil_from_empty (suffix_of s) e)) (λ e. inr e) (or_cases (is_empty (suffix_of s)) (is_integer_type (suffix_of s)) q.1);
    }

-- `u` or `i`
abbrev opens_type : ℕ → Bool
opens_type c = (c == 117) || (c == 105)

-- each type of integers begins so
type_opens : (t : List ℕ) → is_integer_type t ≡ true → begins opens_type t ≡ true
unfolding is_integer_type
type_opens t h = type_is integer_types (begins opens_type) refl t h

-- no suffix of an integer begins with a character other than `u` and `i`
suffix_none : (p : ℕ → Bool) → p 117 ≡ false → p 105 ≡ false → (s : List ℕ) → (s ≡ []) ⊎ (is_integer_type s ≡ true) → begins p s ≡ false
suffix_none p u i s h =
    let neither : (c : ℕ) → opens_type c ≡ true → not (p c) ≡ true = λ c e. not_from_false _ (⊎_elim (at_equal (λ x. p x ≡ false) c 117 u) (at_equal (λ x. p x ≡ false) c 105 i) (or_cases (c == 117) (c == 105) e)) in
    ⊎_elim (λ e. ap (begins p) e) (λ e. begins_other p s (begins_wider opens_type (λ c. not (p c)) neither s (type_opens s e))) h

-- a letter that marks a base
abbrev marks_base : ℕ → Bool
marks_base c = (c == 98) || ((c == 111) || (c == 120))

-- a decimal digit and `_` are none
decimal_no_mark : (c : ℕ) → is_digit_or_mark Decimal c ≡ true → marks_base c ≡ false
decimal_no_mark c h = grind (arith, nat_tests)

-- where none is behind a `0`, the base is the decimal one
behind_plain : (s : List ℕ) → begins marks_base s ≡ false → base_behind s ≡ Decimal
behind_plain [] h = refl
behind_plain (d ∷ cs) h = no_mark d cs h

-- none is among decimal digits, nor behind them
decimal_plain : (ds s : List ℕ) → list_all (is_digit_or_mark Decimal) ds ≡ true → begins marks_base s ≡ false → begins marks_base (ds ++ s) ≡ false
decimal_plain [] s each none = none
decimal_plain (d ∷ ds) s each none = decimal_no_mark d (and_parts (is_digit_or_mark Decimal d) _ each).0

-- digits without a radix prefix are decimal
decimal_base : (ds s : List ℕ) → list_all (is_digit_or_mark Decimal) ds ≡ true → has_digit Decimal ds ≡ true → begins marks_base s ≡ false → base_of (ds ++ s) ≡ Decimal
decimal_base [] s each some none = absurd (false≢true some)
decimal_base (d ∷ ds) s each some none =
    cond_both (d == 48) (base_behind (ds ++ s)) Decimal (λ b. b ≡ Decimal)
    (λ _. behind_plain (ds ++ s) (decimal_plain ds s (and_parts (is_digit_or_mark Decimal d) _ each).1 none)) (λ _. refl)

-- the base is the one whose mark stands in front
marked_base : (base : Base) (ds s : List ℕ) → list_all (is_digit_or_mark base) ds ≡ true → has_digit base ds ≡ true → begins marks_base s ≡ false → base_of (mark_of base ++ (ds ++ s)) ≡ base
marked_base Binary ds s each some none = refl
marked_base Octal ds s each some none = refl
marked_base Decimal ds s each some none = decimal_base ds s each some none
marked_base Hexadecimal ds s each some none = refl

-- `u` and `i` are no digits of a base
no_type_digit : (base : Base) → (is_digit_or_mark base 117 ≡ false) × (is_digit_or_mark base 105 ≡ false)
no_type_digit Binary = (refl, refl)
no_type_digit Octal = (refl, refl)
no_type_digit Decimal = (refl, refl)
no_type_digit Hexadecimal = (refl, refl)

-- what is behind the mark of a base
unmarked_is : (base : Base) (s : List ℕ) → drop (mark_length base) (mark_of base ++ s) ≡ s
unmarked_is Binary s = refl
unmarked_is Octal s = refl
unmarked_is Decimal s = refl
unmarked_is Hexadecimal s = refl

-- the digits in front, were this the base
abbrev digits_at : Base → List ℕ → List ℕ
digits_at base s = take (prefix_len (is_digit_or_mark base) s) s

-- the suffix after the digits, were this the base
abbrev suffix_at : Base → List ℕ → List ℕ
suffix_at base s = drop (prefix_len (is_digit_or_mark base) s) s

-- the parts that an integer has are those that the test finds
record HasParts (s : List ℕ) (base : Base) (digits suffix : List ℕ) : Type 0 where
  pub base_is : base_of s ≡ base
  pub digits_are : digits_of s ≡ digits
  pub suffix_is : suffix_of s ≡ suffix

parts_are : (s : List ℕ) (base : Base) (digits : List ℕ) (w : IsIntegerOf s base digits) → HasParts s base digits w.suffix
parts_are s base digits w =
    let none = suffix_none marks_base refl refl w.suffix w.typed in
    let apart = suffix_none (is_digit_or_mark base) (no_type_digit base).0 (no_type_digit base).1 w.suffix w.typed in
    let rest : List ℕ = digits ++ w.suffix in
    let own : base_of s ≡ base = ap base_of w.is ∙ marked_base base digits w.suffix w.each w.some none in
    let behind : unmarked s ≡ rest = (λ i. drop (mark_length (own i)) (w.is i)) ∙ unmarked_is base rest in
    record {
      base_is = own;
      digits_are = (λ i. digits_at (own i) (behind i)) ∙ cut_front (is_digit_or_mark base) digits w.suffix w.each apart;
      suffix_is = (λ i. suffix_at (own i) (behind i)) ∙ cut_back (is_digit_or_mark base) digits w.suffix w.each apart;
    }

-- what has the parts of an integer passes the test
form_tested : (s : List ℕ) (base : Base) (digits : List ℕ) → IsIntegerOf s base digits → has_int_form s ≡ true
form_tested s base digits w =
    let parts = parts_are s base digits w in
    let suffix : is_int_suffix w.suffix ≡ true = ⊎_elim (λ e. ap is_int_suffix e) (λ e. or_right (is_empty w.suffix) _ e) w.typed in
    and_from _ _ w.first (and_from _ _ ((λ i. has_digit (parts.base_is i) (parts.digits_are i)) ∙ w.some) (ap is_int_suffix parts.suffix_is ∙ suffix))

-- what has the parts of an integer has their value
value_same : (s : List ℕ) (base : Base) (digits : List ℕ) → IsIntegerOf s base digits → int_value_of s ≡ digits_number base digits
value_same s base digits w = let parts = parts_are s base digits w in λ i. digits_number (parts.base_is i) (parts.digits_are i)

-- what the test finds to be a supported integer is one
pub int_spelled : (s : List ℕ) → is_int s ≡ true → IsInteger s
int_spelled s h = let p = and_parts (has_int_form s) _ h in (base_of s, digits_of s, form_spelled s p.0, ltb-true _ _ p.1)

-- each supported integer passes the test
pub int_tested : (s : List ℕ) → IsInteger s → is_int s ≡ true
int_tested s h = and_from _ _ (form_tested s h.0 h.1 h.2) (ap (λ v. nat_lt v (2 ^ 128)) (value_same s h.0 h.1 h.2) ∙ lt-ltb _ _ h.3)

-- what the test finds to be an unsupported integer is one
pub wide_int_spelled : (s : List ℕ) → is_wide_int s ≡ true → IsWideInteger s
wide_int_spelled s h = let p = and_parts (has_int_form s) _ h in (base_of s, digits_of s, form_spelled s p.0, ltb-false _ _ (not-true _ p.1))

-- each unsupported integer passes the test
pub wide_int_tested : (s : List ℕ) → IsWideInteger s → is_wide_int s ≡ true
wide_int_tested s h = and_from _ _ (form_tested s h.0 h.1 h.2) (not_from_false _ (ap (λ v. nat_lt v (2 ^ 128)) (value_same s h.0 h.1 h.2) ∙ le-ltb _ _ h.3))
