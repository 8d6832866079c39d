-- Floats, which are unsupported literals (Rust Reference, Floating-point literals).
use Rattle.std.specs.Prelude.{ℕ, ◌==◌, Bool, false, cond, ◌&&◌, ◌||◌, List, [], ◌∷◌, take, drop, codes}
use Rattle.std.specs.List.{list_any, prefix_len}
use Rattle.std.specs.Str.{bytes_eq}
use Rattle.std.specs.Char.{is_ascii_digit}
use Rattle.educe_tokens_pieces.specs.Chars.{begins, is_only, is_empty}

-- A decimal digit or `_`.
abbrev pub is_decimal_part : ℕ → Bool
is_decimal_part c = is_ascii_digit c || (c == 95)

-- The text after the digits and `_` at its start.
abbrev pub behind_digits : List ℕ → List ℕ
behind_digits cs = drop (prefix_len is_decimal_part cs) cs

-- A float type: `f32` or `f64`.
unfoldable pub is_float_type : List ℕ → Bool
is_float_type cs = bytes_eq (codes "f32") cs || bytes_eq (codes "f64") cs

-- The suffix of a float: empty, or a float type.
abbrev pub is_float_suffix : List ℕ → Bool
is_float_suffix cs = is_empty cs || is_float_type cs

-- The text without its leading sign, if it has one.
abbrev pub unsigned : List ℕ → List ℕ
unsigned [] = []
unsigned (c ∷ cs) = cond ((c == 43) || (c == 45)) cs (c ∷ cs)

-- The number of an exponent: digits and `_`, at least one digit among them, and an optional float type.
abbrev pub is_exponent_number : List ℕ → Bool
is_exponent_number cs = list_any is_ascii_digit (take (prefix_len is_decimal_part cs) cs) && is_float_suffix (behind_digits cs)

-- An exponent: `e` or `E`, an optional sign, and the number.
abbrev pub is_exponent : List ℕ → Bool
is_exponent [] = false
is_exponent (c ∷ cs) = ((c == 101) || (c == 69)) && is_exponent_number (unsigned cs)

-- What ends a float whose last digits stand before it: nothing, a suffix, or an exponent.
abbrev pub ends_float : List ℕ → Bool
ends_float cs = is_float_suffix cs || is_exponent cs

-- The fraction after a `.`: a digit, more digits and `_`, and the end of a float.
abbrev pub is_fraction : List ℕ → Bool
is_fraction cs = begins is_ascii_digit cs && ends_float (behind_digits cs)

-- What turns the digits before it into a float: a `.` alone, a `.` and a fraction, or a non-empty end of a float.
abbrev pub is_float_tail : List ℕ → Bool
is_float_tail [] = false
is_float_tail (c ∷ cs) = cond (c == 46) (is_empty cs || is_fraction cs) (ends_float (c ∷ cs))

-- A float: decimal digits, and a tail that makes them one.
abbrev pub is_float : List ℕ → Bool
is_float cs = begins is_ascii_digit cs && is_float_tail (behind_digits cs)

-- The float consists of digits and a trailing `.` only.
abbrev pub ends_with_dot : List ℕ → Bool
ends_with_dot cs = is_only 46 (behind_digits cs)
