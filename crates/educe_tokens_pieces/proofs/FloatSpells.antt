-- What the test of floats finds to be one is one, and each passes it.
use Rattle.std.proofs.Common.{◌≡◌, ℕ, Bool, true, false, ◌||◌, not, ◌⊎◌, inl, inr, List, [], ◌∷◌, ◌++◌, take, refl, sym, ap, ◌∙◌, subst, ⊎_elim, arith}
use Rattle.std.specs.Prelude.{◌==◌}
use Rattle.std.specs.List.{prefix_len, list_all, list_any}
use Rattle.std.specs.Char.{is_ascii_digit}
use Rattle.std.proofs.lemmas.Bool.{and_parts, and_from, or_cases, or_left, or_right, not-true, not_from_false, false≢true, cond_both, cond-true, cond-false}
use Rattle.std.proofs.lemmas.Bool.Decides.{nat_tests}
use Rattle.std.proofs.lemmas.List.{take-append-drop}
use Rattle.educe_tokens_pieces.specs.Chars.{begins, is_empty}
use Rattle.educe_tokens_pieces.specs.Floats.{is_decimal_part, behind_digits, is_float_type, is_float_suffix, unsigned, is_exponent_number, is_exponent, ends_float, is_fraction, is_float_tail, is_float}
use Rattle.educe_tokens_pieces.specs.Numbers.{is_exponent_mark, is_sign}
use Rattle.educe_tokens_pieces.specs.Spells.{IsDigits, IsFloatSuffix, IsExponent, EndsFloat, IsTail, Dot, Fraction, End, IsFloat}
use Rattle.educe_tokens_pieces.proofs.Classes.{at_equal, list_all-prefix}
use Rattle.educe_tokens_pieces.proofs.Lists.{nil_from_empty}
use Rattle.educe_tokens_pieces.proofs.NumberParts.{begins_take, prefix_len-some, begins_wider}
use Rattle.educe_tokens_pieces.proofs.NumberCuts.{cut_front, cut_back}
use Rattle.educe_tokens_pieces.proofs.FloatLaws.{float_type_is}

-- the digits and `_` in front
abbrev digits_front : List ℕ → List ℕ
digits_front s = take (prefix_len is_decimal_part s) s

-- a text is these and what stands behind them
front_back : (s : List ℕ) → s ≡ digits_front s ++ behind_digits s
front_back s = sym (take-append-drop (prefix_len is_decimal_part s) s)

-- where a digit is the first, they are digits
front_digits : (s : List ℕ) → begins is_ascii_digit s ≡ true → IsDigits (digits_front s)
front_digits s h =
    let some = prefix_len-some is_decimal_part s (begins_wider is_ascii_digit is_decimal_part (λ c e. or_left _ _ e) s h) in
    (begins_take is_ascii_digit (prefix_len is_decimal_part s) s some ∙ h, list_all-prefix is_decimal_part s)

-- what the test finds to be a suffix is one
suffix_spelled : (s : List ℕ) → is_float_suffix s ≡ true → IsFloatSuffix s
suffix_spelled s h = ⊎_elim (λ e. inl (nil_from_empty s e)) (λ e. inr e) (or_cases (is_empty s) (is_float_type s) h)

-- each suffix of a float passes the test
suffix_tested : (s : List ℕ) → IsFloatSuffix s → is_float_suffix s ≡ true
suffix_tested s h = ⊎_elim (λ e. ap is_float_suffix e) (λ e. or_right (is_empty s) _ e) h

-- no suffix begins with what `f` is not
suffix_none : (p : ℕ → Bool) → p 102 ≡ false → (s : List ℕ) → IsFloatSuffix s → begins p s ≡ false
suffix_none p f s h =
    ⊎_elim (λ e. ap (begins p) e)
    (λ e. not-true _ (float_type_is (λ t. not (begins p t)) (not_from_false _ f) (not_from_false _ f) s e)) h

-- a mark, a sign or none, and what the test finds to be the number are an exponent
exponent_from : (c : ℕ) (sign s : List ℕ) → is_exponent_mark c ≡ true → (sign ≡ []) ⊎ ((d : ℕ) × (is_sign d ≡ true) × (sign ≡ d ∷ [])) → is_exponent_number s ≡ true → IsExponent (c ∷ (sign ++ s))
exponent_from c sign s m signs h =
    let p = and_parts (list_any is_ascii_digit (digits_front s)) _ h in
    record {
      letter = c;
      sign = sign;
      digits = digits_front s;
      suffix = behind_digits s;
      is = ap (λ t. c ∷ (sign ++ t)) (front_back s);
      marks = m;
      signs = signs;
      each = list_all-prefix is_decimal_part s;
      some = p.0;
      typed = suffix_spelled (behind_digits s) p.1;
    }

-- what the test finds to be an exponent is one
exponent_spelled : (s : List ℕ) → is_exponent s ≡ true → IsExponent s
exponent_spelled [] h = absurd (false≢true h)
exponent_spelled (c ∷ []) h = let p = and_parts (is_exponent_mark c) _ h in absurd (false≢true p.1)
exponent_spelled (c ∷ d ∷ cs) h =
    let p = and_parts (is_exponent_mark c) _ h in
    cond_both (is_sign d) cs (d ∷ cs) (λ t. is_exponent_number t ≡ true → IsExponent (c ∷ d ∷ cs))
    (λ e k. exponent_from c (d ∷ []) cs p.0 (inr (d, e, refl)) k)
    (λ e k. exponent_from c [] (d ∷ cs) p.0 (inl refl) k) p.1

-- a digit and `_` are no sign
part_no_sign : (c : ℕ) → is_decimal_part c ≡ true → is_sign c ≡ false
part_no_sign c h = grind (arith, nat_tests)

-- digits have no sign
unsigned_digits : (ds s : List ℕ) → list_all is_decimal_part ds ≡ true → list_any is_ascii_digit ds ≡ true → unsigned (ds ++ s) ≡ ds ++ s
unsigned_digits [] s each some = absurd (false≢true some)
unsigned_digits (d ∷ ds) s each some = cond-false _ _ _ (part_no_sign d (and_parts (is_decimal_part d) _ each).0)

-- what is behind a sign, or behind none
unsigned_is : (s : List ℕ) (w : IsExponent s) → unsigned (w.sign ++ (w.digits ++ w.suffix)) ≡ w.digits ++ w.suffix
unsigned_is s w =
    let rest : List ℕ = w.digits ++ w.suffix in
    ⊎_elim (λ e. ap (λ t. unsigned (t ++ rest)) e ∙ unsigned_digits w.digits w.suffix w.each w.some)
    (λ e. ap (λ t. unsigned (t ++ rest)) e.2 ∙ cond-true _ _ _ e.1) w.signs

-- each exponent passes the test
exponent_tested : (s : List ℕ) → IsExponent s → is_exponent s ≡ true
exponent_tested s w =
    let none = suffix_none is_decimal_part refl w.suffix w.typed in
    let front = cut_front is_decimal_part w.digits w.suffix w.each none in
    let back = cut_back is_decimal_part w.digits w.suffix w.each none in
    let number : is_exponent_number (w.digits ++ w.suffix) ≡ true = and_from _ _ (ap (list_any is_ascii_digit) front ∙ w.some) (ap is_float_suffix back ∙ suffix_tested w.suffix w.typed) in
    ap is_exponent w.is ∙ and_from (is_exponent_mark w.letter) _ w.marks (ap is_exponent_number (unsigned_is s w) ∙ number)

-- what the test finds to end a float does
end_spelled : (s : List ℕ) → ends_float s ≡ true → EndsFloat s
end_spelled s h = ⊎_elim (λ e. inl (suffix_spelled s e)) (λ e. inr (exponent_spelled s e)) (or_cases (is_float_suffix s) (is_exponent s) h)

-- each end of a float passes the test
end_tested : (s : List ℕ) → EndsFloat s → ends_float s ≡ true
end_tested s h = ⊎_elim (λ e. or_left _ _ (suffix_tested s e)) (λ e. or_right (is_float_suffix s) _ (exponent_tested s e)) h

-- no end begins with what `f`, `e` and `E` are not
end_none : (p : ℕ → Bool) → p 102 ≡ false → p 101 ≡ false → p 69 ≡ false → (s : List ℕ) → EndsFloat s → begins p s ≡ false
end_none p f e g s h =
    ⊎_elim (λ k. suffix_none p f s k)
    (λ k. ap (begins p) k.is ∙ ⊎_elim (at_equal (λ x. p x ≡ false) k.letter 101 e) (at_equal (λ x. p x ≡ false) k.letter 69 g) (or_cases (k.letter == 101) (k.letter == 69) k.marks)) h

-- a `.` and what the test finds to be a fraction make a float
fraction_spelled : (s : List ℕ) → is_fraction s ≡ true → IsTail (46 ∷ s)
fraction_spelled s h =
    let p = and_parts (begins is_ascii_digit s) _ h in
    subst (λ t. IsTail (46 ∷ t)) (sym (front_back s)) (Fraction (digits_front s) (behind_digits s) (front_digits s p.0) (end_spelled (behind_digits s) p.1))

-- what the test finds to make a float does
tail_spelled : (s : List ℕ) → is_float_tail s ≡ true → IsTail s
tail_spelled [] h = absurd (false≢true h)
tail_spelled (c ∷ cs) h =
    cond_both (c == 46) (is_empty cs || is_fraction cs) (ends_float (c ∷ cs)) (λ b. b ≡ true → IsTail (c ∷ cs))
    (λ e k. at_equal (λ x. IsTail (x ∷ cs)) c 46
    (⊎_elim (λ n. subst (λ t. IsTail (46 ∷ t)) (sym (nil_from_empty cs n)) Dot) (fraction_spelled cs) (or_cases (is_empty cs) (is_fraction cs) k)) e)
    (λ e k. End c cs (end_spelled (c ∷ cs) k)) h

-- digits begin with one, before any text
digits_begin : (ds s : List ℕ) → IsDigits ds → begins is_ascii_digit (ds ++ s) ≡ true
digits_begin [] s h = absurd (false≢true h.0)
digits_begin (d ∷ ds) s h = h.0

-- each tail of a float passes the test
tail_tested : (s : List ℕ) → IsTail s → is_float_tail s ≡ true
tail_tested s Dot = refl
tail_tested s (Fraction digits end h k) =
    let none = end_none is_decimal_part refl refl refl end k in
    let back = cut_back is_decimal_part digits end h.1 none in
    or_right (is_empty (digits ++ end)) _ (and_from _ _ (digits_begin digits end h) (ap ends_float back ∙ end_tested end k))
tail_tested s (End c cs k) = cond-false (c == 46) _ _ (end_none (λ x. x == 46) refl refl refl (c ∷ cs) k) ∙ end_tested (c ∷ cs) k

-- no tail begins with a digit or `_`
tail_none : (s : List ℕ) → IsTail s → begins is_decimal_part s ≡ false
tail_none s Dot = refl
tail_none s (Fraction digits end h k) = refl
tail_none s (End c cs k) = end_none is_decimal_part refl refl refl (c ∷ cs) k

-- what the test finds to be a float is one
pub float_spelled : (s : List ℕ) → is_float s ≡ true → IsFloat s
float_spelled s h =
    let p = and_parts (begins is_ascii_digit s) _ h in
    record { digits = digits_front s; tail = behind_digits s; is = front_back s; own = front_digits s p.0; makes = tail_spelled (behind_digits s) p.1 }

-- each float passes the test
pub float_tested : (s : List ℕ) → IsFloat s → is_float s ≡ true
float_tested s w =
    let back = cut_back is_decimal_part w.digits w.tail w.own.1 (tail_none w.tail w.makes) in
    ap is_float w.is ∙ and_from _ _ (digits_begin w.digits w.tail w.own) (ap is_float_tail back ∙ tail_tested w.tail w.makes)
