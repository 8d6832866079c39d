-- Quoted literals as a state machine over characters. `Quotes` defines the same literals by their parts; that both
-- agree is proved.
use Rattle.std.specs.Prelude.{ℕ, ◌+◌, ◌*◌, ◌==◌, Bool, false, cond, ◌&&◌, ◌||◌, not, Option, Some, None, List, [], ◌∷◌, ◌++◌, nat_lt, nat_le}
use Rattle.std.specs.Char.{digit_value}
use Rattle.educe_tokens_pieces.specs.declared.quotes.Quote.{Quote}
use Rattle.educe_tokens_pieces.specs.declared.quotes.Quote.TheVariants.{Str, ByteStr, CStr, Char, Byte}
use Rattle.educe_tokens_pieces.specs.declared.quotes.Within.{Within}
use Rattle.educe_tokens_pieces.specs.declared.quotes.Within.TheVariants.{Open, Break, Escape, Return, High, Low, Brace, Code, Close}
use Rattle.educe_tokens_pieces.specs.declared.quotes.Next.{Next}
use Rattle.educe_tokens_pieces.specs.declared.quotes.Next.TheVariants.{Go, End, Stop}
use Rattle.educe_tokens_pieces.specs.Chars.{is_empty}
use Rattle.educe_tokens_pieces.specs.Quotes.{closing, is_single, is_bytes, top_digit, is_escape, escape_value, is_hex, is_scalar, is_plain}

-- The state after a complete part: a character or byte literal must close, others go on.
abbrev pub behind_part : Quote → Within
behind_part quote = cond (is_single quote) (Close quote) (Open quote)

-- White space that a string continuation skips: space, tab, line feed and carriage return.
abbrev pub is_space_character : ℕ → Bool
is_space_character c = (c == 32) || (c == 9) || (c == 10) || (c == 13)

-- A step before a part or the closing quote.
abbrev pub open_step : Quote → ℕ → Next
open_step quote c =
    cond ((c == closing quote) && not (is_single quote)) End
    (cond (c == 92) (Go (Escape quote))
    (cond (is_plain quote c) (Go (behind_part quote)) Stop))

-- The step after a `\`.
abbrev pub escape_step : Quote → ℕ → Next
escape_step quote c =
    cond (is_escape c) (Go (behind_part quote))
    (cond (c == 120) (Go (High quote))
    (cond ((c == 117) && not (is_bytes quote)) (Go (Brace quote))
    (cond ((c == 10) && not (is_single quote)) (Go (Break quote))
    (cond ((c == 13) && not (is_single quote)) (Go (Return quote)) Stop))))

-- The step after `\u{` and the digits so far.
abbrev pub code_step : Quote → ℕ → ℕ → ℕ → Next
code_step quote digits value c =
    cond (c == 125) (cond (nat_lt 0 digits && is_scalar value) (Go (behind_part quote)) Stop)
    (cond (c == 95) (cond (nat_lt 0 digits) (Go (Code quote digits value)) Stop)
    (cond (is_hex c && nat_lt digits 6) (Go (Code quote (digits + 1) (value * 16 + digit_value c))) Stop))

-- What a character does at a place in the literal: it continues, to which place; it ends the literal; or it may not stand there.
abbrev pub step : Within → ℕ → Next
step (Open quote) c = open_step quote c
step (Break quote) c = cond (is_space_character c) (Go (Break quote)) (open_step quote c)
step (Escape quote) c = escape_step quote c
step (Return quote) c = cond (c == 10) (Go (Break quote)) Stop
step (High quote) c = cond (is_hex c && nat_le (digit_value c) (top_digit quote)) (Go (Low quote (digit_value c))) Stop
step (Low quote high) c = cond (is_hex c) (Go (behind_part quote)) Stop
step (Brace quote) c = cond (c == 123) (Go (Code quote 0 0)) Stop
step (Code quote digits value) c = code_step quote digits value c
step (Close quote) c = cond (c == closing quote) End Stop

-- The character of the value that this character completes, if it completes one.
abbrev pub gives : Within → ℕ → List ℕ
gives (Open quote) c = cond ((c == closing quote) || (c == 92)) [] (c ∷ [])
gives (Break quote) c = cond (is_space_character c || ((c == closing quote) || (c == 92))) [] (c ∷ [])
gives (Escape quote) c = cond (is_escape c) (escape_value c ∷ []) []
gives (Return quote) c = []
gives (High quote) c = []
gives (Low quote high) c = (high * 16 + digit_value c) ∷ []
gives (Brace quote) c = []
gives (Code quote digits value) c = cond (c == 125) (value ∷ []) []
gives (Close quote) c = []

-- The literal ends with the last of these characters, and not earlier.
abbrev pub ends : Within → List ℕ → Bool
ends within [] = false
ends within (c ∷ cs) = elim (step within c) [ Go more ↦ ends more cs | End ↦ is_empty cs | Stop ↦ false ]

-- The value of these characters, up to the end of the literal.
abbrev pub given : Within → List ℕ → List ℕ
given within [] = []
given within (c ∷ cs) = elim (step within c) [ Go more ↦ gives within c ++ given more cs | End ↦ [] | Stop ↦ [] ]

-- A length that is so much longer, if there is one.
abbrev pub plus : ℕ → Option ℕ → Option ℕ
plus k None = None
plus k (Some n) = Some (k + n)

-- The number of characters up to and including the closing quote, if the literal ends.
abbrev pub end_at : Within → List ℕ → Option ℕ
end_at within [] = None
end_at within (c ∷ cs) = elim (step within c) [ Go more ↦ plus 1 (end_at more cs) | End ↦ Some 1 | Stop ↦ None ]

-- An opening quote and the rest of the literal.
abbrev pub is_quoted : Quote → ℕ → List ℕ → Bool
is_quoted quote mark [] = false
is_quoted quote mark (c ∷ cs) = (c == mark) && ends (Open quote) cs

-- The letter of a prefix, an opening quote and the rest of the literal.
abbrev pub is_prefixed : ℕ → Quote → ℕ → List ℕ → Bool
is_prefixed letter quote mark [] = false
is_prefixed letter quote mark (c ∷ cs) = (c == letter) && is_quoted quote mark cs

-- A string literal.
abbrev pub is_str : List ℕ → Bool
is_str cs = is_quoted Str 34 cs

-- A byte string literal.
abbrev pub is_byte_str : List ℕ → Bool
is_byte_str cs = is_prefixed 98 ByteStr 34 cs

-- A C string literal.
abbrev pub is_c_str : List ℕ → Bool
is_c_str cs = is_prefixed 99 CStr 34 cs

-- A character literal.
abbrev pub is_char : List ℕ → Bool
is_char cs = is_quoted Char 39 cs

-- A byte literal.
abbrev pub is_byte : List ℕ → Bool
is_byte cs = is_prefixed 98 Byte 39 cs
