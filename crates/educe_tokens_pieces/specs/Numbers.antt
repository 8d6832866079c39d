-- The scanner of the number at the start of a text that begins with a decimal digit.
use Rattle.std.specs.Prelude.{ℕ, ◌+◌, ◌*◌, ◌==◌, Bool, cond, ◌&&◌, ◌||◌, not, Option, Some, None, List, [], ◌∷◌, take, drop}
use Rattle.std.specs.List.{list_any, filter, prefix_len}
use Rattle.std.specs.Str.Parse.{digits_value}
use Rattle.std.specs.Char.{is_digit, digit_value}
use Rattle.educe_tokens_pieces.specs.declared.integers.Base.{Base}
use Rattle.educe_tokens_pieces.specs.declared.kind.LiteralKind.TheVariants.{Int}
use Rattle.educe_tokens_pieces.specs.declared.kind.TokenKind.TheVariants.{Literal}
use Rattle.educe_tokens_pieces.specs.declared.kind.UncarriedKind.TheVariants.{Float, WideInt}
use Rattle.educe_tokens_pieces.specs.declared.kind.PieceKind.{PieceKind}
use Rattle.educe_tokens_pieces.specs.declared.kind.PieceKind.TheVariants.{Token, Uncarried}
use Rattle.educe_tokens_pieces.specs.Chars.{begins, is_empty}
use Rattle.educe_tokens_pieces.specs.Integers.{radix, is_integer_type, has_int_form, fits_u128, makes_float}
use Rattle.educe_tokens_pieces.specs.Floats.{is_decimal_part, behind_digits, is_float_tail}
use Rattle.educe_tokens_pieces.specs.Words.{continue_len}

-- The letter of an exponent: `e` or `E`.
abbrev pub is_exponent_mark : ℕ → Bool
is_exponent_mark c = (c == 101) || (c == 69)

-- The sign of an exponent: `+` or `-`.
abbrev pub is_sign : ℕ → Bool
is_sign c = (c == 43) || (c == 45)

-- The number of characters that may end a float: those of a word, or of an exponent's letter, its sign and a word.
abbrev pub end_len : List ℕ → ℕ
end_len [] = 0
end_len (c ∷ cs) = cond (is_exponent_mark c && begins is_sign cs) (2 + continue_len (drop 1 cs)) (continue_len (c ∷ cs))

-- The number of characters of the digits after a `.` and of the end of the float after them.
abbrev pub fraction_len : List ℕ → ℕ
fraction_len cs = prefix_len is_decimal_part cs + end_len (behind_digits cs)

-- How many characters belong to a possible tail of a float; `float_or_int` tests whether they are one.
abbrev pub tail_len : List ℕ → ℕ
tail_len [] = 0
tail_len (c ∷ cs) = cond (makes_float (c ∷ cs)) (1 + fraction_len cs) (end_len (c ∷ cs))

-- At least one digit of the base is in the list.
abbrev pub has_digit : Base → List ℕ → Bool
has_digit base ds = list_any (λ c. is_digit c (radix base)) ds

-- The suffix of an integer: empty, or an integer type.
abbrev pub is_int_suffix : List ℕ → Bool
is_int_suffix cs = is_empty cs || is_integer_type cs

-- The number with one more digit appended; `_` leaves it unchanged.
abbrev pub with_digit : Base → ℕ → ℕ → ℕ
with_digit base value c = cond (c == 95) value (value * radix base + digit_value c)

-- The number that digits and `_` write.
abbrev pub digits_number : Base → List ℕ → ℕ
digits_number base ds = digits_value (radix base) (filter (λ c. not (c == 95)) ds)

-- The kind of an integer: supported where its value fits in `u128`.
abbrev pub int_kind : List ℕ → PieceKind
int_kind cs = cond (fits_u128 cs) (Token (Literal Int)) (Uncarried WideInt)

-- The first n characters as an integer, if they have the form of one.
abbrev pub int_at : List ℕ → ℕ → Option (PieceKind × ℕ)
int_at text n = cond (has_int_form (take n text)) (Some (int_kind (take n text), n)) None

-- The digits and the tail of length n as a float, if they are one; else the word at the start as an integer.
abbrev pub float_or_int : List ℕ → ℕ → Option (PieceKind × ℕ)
float_or_int text n =
    cond (is_float_tail (take n (behind_digits text))) (Some (Uncarried Float, prefix_len is_decimal_part text + n)) (int_at text (continue_len text))

-- The number at the front, with its kind and length; what may follow it is not asked.
abbrev pub number_at : List ℕ → Option (PieceKind × ℕ)
number_at text = float_or_int text (tail_len (behind_digits text))
