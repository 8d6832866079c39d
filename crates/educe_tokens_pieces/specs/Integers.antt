-- Integers (Rust Reference, Integer literals).
use Rattle.std.specs.Prelude.{ℕ, ◌^◌, ◌==◌, Bool, false, cond, ◌&&◌, ◌||◌, not, List, [], ◌∷◌, take, drop, nat_lt, codes}
use Rattle.std.specs.List.{list_any, filter, prefix_len}
use Rattle.std.specs.Str.{bytes_eq}
use Rattle.std.specs.Str.Parse.{digits_value}
use Rattle.std.specs.Char.{is_digit, is_ascii_digit}
use Rattle.educe_tokens_pieces.specs.declared.integers.Base.{Base}
use Rattle.educe_tokens_pieces.specs.declared.integers.Base.TheVariants.{Binary, Octal, Decimal, Hexadecimal}
use Rattle.educe_tokens_pieces.specs.Chars.{begins, is_empty, is_word_start}

-- How many digits a base has.
abbrev pub radix : Base → ℕ
radix Binary = 2
radix Octal = 8
radix Decimal = 10
radix Hexadecimal = 16

-- The length of the radix prefix: 2 characters, none for decimal integers.
abbrev pub mark_length : Base → ℕ
mark_length Binary = 2
mark_length Octal = 2
mark_length Decimal = 0
mark_length Hexadecimal = 2

-- The base that the character after a leading `0` selects: `b`, `o` or `x`; decimal for any other.
abbrev pub base_behind : List ℕ → Base
base_behind [] = Decimal
base_behind (c ∷ cs) = cond (c == 98) Binary (cond (c == 111) Octal (cond (c == 120) Hexadecimal Decimal))

-- The base of an integer, by its radix prefix.
abbrev pub base_of : List ℕ → Base
base_of [] = Decimal
base_of (c ∷ cs) = cond (c == 48) (base_behind cs) Decimal

-- A digit of the base, or `_`.
abbrev pub is_digit_or_mark : Base → ℕ → Bool
is_digit_or_mark base c = is_digit c (radix base) || (c == 95)

-- The text without its radix prefix.
abbrev pub unmarked : List ℕ → List ℕ
unmarked cs = drop (mark_length (base_of cs)) cs

-- How many digits of the base and `_` follow the radix prefix.
abbrev pub digit_count : List ℕ → ℕ
digit_count cs = prefix_len (is_digit_or_mark (base_of cs)) (unmarked cs)

-- The digits, `_` among them, and the suffix after them.
abbrev pub digits_of : List ℕ → List ℕ
digits_of cs = take (digit_count cs) (unmarked cs)

-- What follows these digits.
abbrev pub suffix_of : List ℕ → List ℕ
suffix_of cs = drop (digit_count cs) (unmarked cs)

-- The integer types, which may be suffixes.
abbrev pub integer_types : List (List ℕ)
integer_types =
    codes "u8" ∷ codes "u16" ∷ codes "u32" ∷ codes "u64" ∷ codes "u128" ∷ codes "usize"
    ∷ codes "i8" ∷ codes "i16" ∷ codes "i32" ∷ codes "i64" ∷ codes "i128" ∷ codes "isize" ∷ []

-- The text is one of the integer types.
unfoldable pub is_integer_type : List ℕ → Bool
is_integer_type text = list_any (λ type. bytes_eq type text) integer_types

-- The form of an integer of any size: a decimal digit first, at least one digit of the base, and no suffix or an
-- integer type.
abbrev pub has_int_form : List ℕ → Bool
has_int_form cs =
    begins is_ascii_digit cs
    && (list_any (λ c. is_digit c (radix (base_of cs))) (digits_of cs) && (is_empty (suffix_of cs) || is_integer_type (suffix_of cs)))

-- The number that the digits write; `_` is ignored.
abbrev pub int_value_of : List ℕ → ℕ
int_value_of cs = digits_value (radix (base_of cs)) (filter (λ c. not (c == 95)) (digits_of cs))

-- The value is below 2^128.
abbrev pub fits_u128 : List ℕ → Bool
fits_u128 cs = nat_lt (int_value_of cs) (2 ^ 128)

-- A supported integer: one whose value fits in `u128`.
abbrev pub is_int : List ℕ → Bool
is_int cs = has_int_form cs && fits_u128 cs

-- An integer that is too large to be supported.
abbrev pub is_wide_int : List ℕ → Bool
is_wide_int cs = has_int_form cs && not (fits_u128 cs)

-- The rest turns the digits before it into a float: a `.`, not followed by `.`, `_` or XID_Start (Rust Reference,
-- Floating-point literals).
abbrev pub makes_float : List ℕ → Bool
makes_float [] = false
makes_float (c ∷ cs) = (c == 46) && not (begins (λ d. (d == 46) || is_word_start d) cs)
