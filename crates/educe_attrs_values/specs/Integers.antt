-- Signed integers of 64 bits, computed from tokens and texts.
use Rattle.std.specs.Prelude.{ℕ, ◌^◌, ℤ, pos, neg_ℤ, Bool, true, false, if◌then◌else◌, List, [], ◌∷◌, drop, encode_utf8_all, Option, Some, None, nat_lt, nat_le, option_and_then}
use Rattle.std.specs.Str.{all_ascii_digits}
use Rattle.std.specs.Str.Parse.{digits_value, starts_with_minus, without_leading_plus}
use Rattle.educe_tokens.specs.declared.token.Token.{Token}
use Rattle.educe_tokens.specs.Lexes.{Lexeme, lexeme_of}
use Rattle.educe_tokens.specs.IntValue.{int_value}
use Rattle.educe_syntax.specs.Terminal.TheVariants.{Sign}
use Rattle.educe_syntax.specs.Terminals.{accepts}
use Rattle.educe_attrs_values.specs.Texts.{only_text}

-- The integer with this magnitude, negated or not, if it is from -2^63 to 2^63 - 1.
abbrev pub integer_of : Bool → ℕ → Option ℤ
integer_of true n = if nat_le n (2 ^ 63) then Some (neg_ℤ (pos n)) else None
integer_of false n = if nat_lt n (2 ^ 63) then Some (pos n) else None

-- The value of an integer literal, negated or not, if it is from -2^63 to 2^63 - 1.
abbrev pub integer_value : Bool → Lexeme → Option ℤ
integer_value negated lexeme = option_and_then (integer_of negated) (int_value lexeme)

-- The number that decimal digits write, given in bytes; none for the empty text.
abbrev pub digits_in : List ℕ → Option ℕ
digits_in [] = None
digits_in (c ∷ cs) = if all_ascii_digits (c ∷ cs) then Some (digits_value 10 (c ∷ cs)) else None

-- The integer that a text writes, given in bytes: an optional sign and decimal digits.
abbrev pub decimal_in : List ℕ → Option ℤ
decimal_in text =
    if starts_with_minus text then option_and_then (integer_of true) (digits_in (drop 1 text)) else
    option_and_then (integer_of false) (digits_in (without_leading_plus text))

-- The integer that tokens write: a literal, or `-` and a literal.
abbrev pub signed_in : List Token → Option ℤ
signed_in [] = None
signed_in (number ∷ []) = integer_value false (lexeme_of number)
signed_in (minus ∷ number ∷ []) = if accepts (Sign 45) minus then integer_value true (lexeme_of number) else None
signed_in (t ∷ u ∷ v ∷ ts) = None

-- The integer that the text writes, if the value is a string; else the integer that the tokens write.
abbrev pub integer_by : Option (List ℕ) → List Token → Option ℤ
integer_by None tokens = signed_in tokens
integer_by (Some text) tokens = decimal_in (encode_utf8_all text)

-- The integer that tokens are, as they stand or as the text of a string, if they are one.
abbrev pub integer_in : List Token → Option ℤ
integer_in tokens = integer_by (only_text tokens) tokens
