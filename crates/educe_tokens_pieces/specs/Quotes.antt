-- Quoted literals that are not raw: their parts and their values (Rust Reference, Character and string literals; Byte
-- and byte string literals; C string literals).
use Rattle.std.specs.Prelude.{◌≡◌, ℕ, ◌+◌, ◌*◌, ◌==◌, Bool, true, false, cond, ◌&&◌, ◌||◌, not, IsTrue, List, [], ◌∷◌, ◌++◌, length, nat_lt, nat_le}
use Rattle.std.specs.List.{list_all, flat_map, filter}
use Rattle.std.specs.Str.Parse.{digits_value}
use Rattle.std.specs.Char.{is_ascii, is_digit, digit_value}
use Rattle.educe_tokens_pieces.specs.declared.quotes.Quote.{Quote}
use Rattle.educe_tokens_pieces.specs.declared.quotes.Quote.TheVariants.{Str, ByteStr, CStr, Char, Byte}

-- The closing quote of a kind of literal.
abbrev pub closing : Quote → ℕ
closing Str = 34
closing ByteStr = 34
closing CStr = 34
closing Char = 39
closing Byte = 39

-- The literal holds a single character or byte.
abbrev pub is_single : Quote → Bool
is_single Str = false
is_single ByteStr = false
is_single CStr = false
is_single Char = true
is_single Byte = true

-- The literal holds bytes: ASCII characters, and no `\u`.
abbrev pub is_bytes : Quote → Bool
is_bytes Str = false
is_bytes ByteStr = true
is_bytes CStr = false
is_bytes Char = false
is_bytes Byte = true

-- The greatest first digit of `\x`: 7 in text, where the value must be ASCII, and 15 in bytes.
abbrev pub top_digit : Quote → ℕ
top_digit Str = 7
top_digit ByteStr = 15
top_digit CStr = 15
top_digit Char = 7
top_digit Byte = 15

-- A part of a literal: a plain character, an escape, or a `\` before the end of a line.
pub data Part : Type 0 where
  -- A character that stands for itself.
  Plain : (c : ℕ) → Part
  -- An escape of one character: `\` and a letter, a quote or `\`.
  Escape : (c : ℕ) → Part
  -- An escape of a byte: `\x` and two hexadecimal digits.
  Hex : (high low : ℕ) → Part
  -- An escape of a character: `\u`, and hexadecimal digits and `_` in braces.
  Unicode : (digits : List ℕ) → Part
  -- A string continuation: `\` before a line feed.
  Break : Part
  -- A string continuation: `\` before a carriage return and a line feed.
  ReturnBreak : Part

-- How the part is spelled.
abbrev pub spelled : Part → List ℕ
spelled (Plain c) = c ∷ []
spelled (Escape c) = 92 ∷ c ∷ []
spelled (Hex high low) = 92 ∷ 120 ∷ high ∷ low ∷ []
spelled (Unicode digits) = 92 ∷ 117 ∷ 123 ∷ (digits ++ 125 ∷ [])
spelled Break = 92 ∷ 10 ∷ []
spelled ReturnBreak = 92 ∷ 13 ∷ 10 ∷ []

-- A character that may follow `\`: one of n r t \ 0 ' ".
abbrev pub is_escape : ℕ → Bool
is_escape c = (c == 110) || (c == 114) || (c == 116) || (c == 92) || (c == 48) || (c == 39) || (c == 34)

-- The character that it stands for behind a `\`.
abbrev pub escape_value : ℕ → ℕ
escape_value c = cond (c == 110) 10 (cond (c == 114) 13 (cond (c == 116) 9 (cond (c == 48) 0 c)))

-- A hexadecimal digit.
abbrev pub is_hex : ℕ → Bool
is_hex c = is_digit c 16

-- The number is a Unicode scalar value: at most 10FFFF, and no surrogate.
abbrev pub is_scalar : ℕ → Bool
is_scalar n = nat_lt n 55296 || (nat_le 57344 n && nat_lt n 1114112)

-- The content of the braces: one to six hexadecimal digits, each followed by any number of `_`.
abbrev pub is_code : List ℕ → Bool
is_code [] = false
is_code (d ∷ ds) = is_hex d && (list_all (λ c. is_hex c || (c == 95)) ds && nat_le (length (filter is_hex (d ∷ ds))) 6)

-- The number that the hexadecimal digits write, ignoring `_`.
abbrev pub code_value : List ℕ → ℕ
code_value digits = digits_value 16 (filter (λ c. not (c == 95)) digits)

-- A line feed, carriage return or tab.
abbrev pub is_line_control : ℕ → Bool
is_line_control c = (c == 10) || (c == 13) || (c == 9)

-- A character that stands for itself: neither the closing quote nor `\`; ASCII in byte literals; and in a single
-- character neither line feed, carriage return nor tab.
abbrev pub is_plain : Quote → ℕ → Bool
is_plain quote c =
    (not (c == closing quote) && not (c == 92))
    && ((not (is_bytes quote) || is_ascii c) && not (is_single quote && is_line_control c))

-- A literal of this kind may contain the part.
abbrev pub may_hold : Quote → Part → Bool
may_hold quote (Plain c) = is_plain quote c
may_hold quote (Escape c) = is_escape c
may_hold quote (Hex high low) = (is_hex high && nat_le (digit_value high) (top_digit quote)) && is_hex low
may_hold quote (Unicode digits) = not (is_bytes quote) && (is_code digits && is_scalar (code_value digits))
may_hold quote Break = not (is_single quote)
may_hold quote ReturnBreak = not (is_single quote)

-- A character or byte has exactly one part; a string has any number.
abbrev pub has_count : Quote → List Part → Bool
has_count quote parts = not (is_single quote) || (length parts == 1)

-- The text is parts that a literal of this kind may contain, as many as it may have, and the closing quote.
pub record IsBody (quote : Quote) (text : List ℕ) (parts : List Part) : Type 0 where
  pub hold : IsTrue (list_all (may_hold quote) parts)
  pub count : IsTrue (has_count quote parts)
  pub is : text ≡ flat_map spelled parts ++ closing quote ∷ []

-- The part is a string continuation, which has no value.
abbrev pub is_break : Part → Bool
is_break (Plain c) = false
is_break (Escape c) = false
is_break (Hex high low) = false
is_break (Unicode digits) = false
is_break Break = true
is_break ReturnBreak = true

-- The part is a plain space, tab, line feed or carriage return.
abbrev pub is_space : Part → Bool
is_space (Plain c) = (c == 32) || (c == 9) || (c == 10) || (c == 13)
is_space (Escape c) = false
is_space (Hex high low) = false
is_space (Unicode digits) = false
is_space Break = false
is_space ReturnBreak = false

-- The characters that one part stands for.
abbrev pub part_value : Part → List ℕ
part_value (Plain c) = c ∷ []
part_value (Escape c) = escape_value c ∷ []
part_value (Hex high low) = (digit_value high * 16 + digit_value low) ∷ []
part_value (Unicode digits) = code_value digits ∷ []
part_value Break = []
part_value ReturnBreak = []

-- The characters that the parts stand for; spaces that follow a `\` at the end of a line stand for none.
abbrev pub values : Bool → List Part → List ℕ
values behind_break [] = []
values behind_break (p ∷ ps) = cond (behind_break && is_space p) (values true ps) (part_value p ++ values (is_break p) ps)

-- The characters that parts stand for; blanks behind a `\` at the end of a line stand for none.
abbrev pub value_of : List Part → List ℕ
value_of parts = values false parts
