-- The spellings of pieces in the terms of the Rust Reference (Lexical structure). `Pieces` defines the same by
-- computable tests; that both agree is proved.
use Rattle.std.specs.Prelude.{◌≡◌, ◌⊎◌, ℕ, ◌^◌, ◌<◌, ◌≤◌, not, IsTrue, List, [], ◌∷◌, ◌++◌}
use Rattle.std.specs.List.{list_all, list_any}
use Rattle.std.specs.Char.{is_ascii, is_ascii_digit}
use Rattle.unicode_ident.specs.Ident.{is_xid_continue}
use Rattle.educe_tokens_pieces.specs.declared.integers.Base.{Base}
use Rattle.educe_tokens_pieces.specs.declared.integers.Base.TheVariants.{Binary, Octal, Decimal, Hexadecimal}
use Rattle.educe_tokens_pieces.specs.declared.kind.LiteralKind.TheVariants.{Int, Str, ByteStr, Char, Byte}
use Rattle.educe_tokens_pieces.specs.declared.kind.TokenKind.{TokenKind}
use Rattle.educe_tokens_pieces.specs.declared.kind.TokenKind.TheVariants.{Ident, Lifetime, Literal, Punct, Start, Stop, Doc}
use Rattle.educe_tokens_pieces.specs.declared.kind.UncarriedKind.{UncarriedKind}
use Rattle.educe_tokens_pieces.specs.declared.kind.UncarriedKind.TheVariants.{Float, WideInt, CStr}
use Rattle.educe_tokens_pieces.specs.declared.kind.PieceKind.{PieceKind}
use Rattle.educe_tokens_pieces.specs.declared.kind.PieceKind.TheVariants.{Blank, Comment, Token, Uncarried}
use Rattle.educe_tokens_pieces.specs.declared.quotes.Quote.{Quote}
use Rattle.educe_tokens_pieces.specs.declared.quotes.Quote.TheVariants.{Str as InStr, ByteStr as InByteStr, CStr as InCStr, Char as InChar, Byte as InByte}
use Rattle.educe_tokens_pieces.specs.Chars.{begins, is_blank, is_in_line, is_punct, is_word_start}
use Rattle.educe_tokens_pieces.specs.Words.{is_never_raw}
use Rattle.educe_tokens_pieces.specs.Integers.{is_digit_or_mark, is_integer_type}
use Rattle.educe_tokens_pieces.specs.Floats.{is_decimal_part, is_float_type}
use Rattle.educe_tokens_pieces.specs.Numbers.{is_exponent_mark, is_sign, has_digit, digits_number}
use Rattle.educe_tokens_pieces.specs.Quotes.{Part, closing, IsBody}
use Rattle.educe_tokens_pieces.specs.RawStrings.{IsRawOf}
use Rattle.educe_tokens_pieces.specs.Pieces.{opener, closer}

-- The text begins with this prefix.
abbrev pub BeginsWith : List ℕ → List ℕ → Type 0
BeginsWith mark text = (more : List ℕ) × (text ≡ mark ++ more)

-- The text does not begin with these characters.
abbrev pub BeginsNot : List ℕ → List ℕ → Type 0
BeginsNot mark text = BeginsWith mark text → ⊥

-- A word: XID_Start or `_`, then any number of XID_Continue.
pub record IsWord (text : List ℕ) : Type 0 where
  pub first : ℕ
  pub more : List ℕ
  pub is : text ≡ first ∷ more
  pub starts : IsTrue (is_word_start first)
  pub continues : IsTrue (list_all is_xid_continue more)

-- A raw word: `r#` and a word that may be raw.
pub record IsRawWord (text : List ℕ) : Type 0 where
  pub word : List ℕ
  pub is : text ≡ 114 ∷ 35 ∷ word
  pub own : IsWord word
  pub rawable : IsTrue (not (is_never_raw word))

-- A lifetime: `'` and a word.
pub record IsLifetime (text : List ℕ) : Type 0 where
  pub word : List ℕ
  pub is : text ≡ 39 ∷ word
  pub own : IsWord word

-- The radix prefix of a base: nothing for the decimal one.
abbrev pub mark_of : Base → List ℕ
mark_of Binary = 48 ∷ 98 ∷ []
mark_of Octal = 48 ∷ 111 ∷ []
mark_of Decimal = []
mark_of Hexadecimal = 48 ∷ 120 ∷ []

-- An integer of any size: the radix prefix, digits and `_`, at least one digit of the base among them, and no suffix or
-- an integer type; its first character is a decimal digit.
pub record IsIntegerOf (text : List ℕ) (base : Base) (digits : List ℕ) : Type 0 where
  pub suffix : List ℕ
  pub is : text ≡ mark_of base ++ (digits ++ suffix)
  pub first : IsTrue (begins is_ascii_digit text)
  pub each : IsTrue (list_all (is_digit_or_mark base) digits)
  pub some : IsTrue (has_digit base digits)
  pub typed : (suffix ≡ []) ⊎ IsTrue (is_integer_type suffix)

-- An integer below 2^128.
abbrev pub IsInteger : List ℕ → Type 0
IsInteger text = (base : Base) × (digits : List ℕ) × IsIntegerOf text base digits × (digits_number base digits < 2 ^ 128)

-- An integer of at least 2^128.
abbrev pub IsWideInteger : List ℕ → Type 0
IsWideInteger text = (base : Base) × (digits : List ℕ) × IsIntegerOf text base digits × (2 ^ 128 ≤ digits_number base digits)

-- Decimal digits and `_`, a digit first.
abbrev pub IsDigits : List ℕ → Type 0
IsDigits digits = IsTrue (begins is_ascii_digit digits) × IsTrue (list_all is_decimal_part digits)

-- The suffix of a float: empty, or a float type.
abbrev pub IsFloatSuffix : List ℕ → Type 0
IsFloatSuffix text = (text ≡ []) ⊎ IsTrue (is_float_type text)

-- An exponent: `e` or `E`, an optional sign, digits and `_`, at least one digit among them, and an optional float type.
pub record IsExponent (text : List ℕ) : Type 0 where
  pub letter : ℕ
  pub sign : List ℕ
  pub digits : List ℕ
  pub suffix : List ℕ
  pub is : text ≡ letter ∷ (sign ++ (digits ++ suffix))
  pub marks : IsTrue (is_exponent_mark letter)
  pub signs : (sign ≡ []) ⊎ ((c : ℕ) × IsTrue (is_sign c) × (sign ≡ c ∷ []))
  pub each : IsTrue (list_all is_decimal_part digits)
  pub some : IsTrue (list_any is_ascii_digit digits)
  pub typed : IsFloatSuffix suffix

-- The end of a float: a suffix, or an exponent.
abbrev pub EndsFloat : List ℕ → Type 0
EndsFloat text = IsFloatSuffix text ⊎ IsExponent text

-- What makes the digits before it a float: a `.` alone, a `.` with digits and an end, or an end that is not empty.
pub data IsTail : List ℕ → Type 0 where
  -- A `.` alone.
  Dot : IsTail (46 ∷ [])
  -- A `.`, a fraction's digits, and the end of a float.
  Fraction : (digits end : List ℕ) → IsDigits digits → EndsFloat end → IsTail (46 ∷ (digits ++ end))
  -- A non-empty end of a float.
  End : (c : ℕ) (cs : List ℕ) → EndsFloat (c ∷ cs) → IsTail (c ∷ cs)

-- A float: digits, and a tail that makes them one.
pub record IsFloat (text : List ℕ) : Type 0 where
  pub digits : List ℕ
  pub tail : List ℕ
  pub is : text ≡ digits ++ tail
  pub own : IsDigits digits
  pub makes : IsTail tail

-- A quoted literal: its prefix letters, the quote, parts that this kind of literal may contain, and the quote again.
pub record IsQuoted (letters : List ℕ) (quote : Quote) (text : List ℕ) : Type 0 where
  pub body : List ℕ
  pub parts : List Part
  pub is : text ≡ letters ++ closing quote ∷ body
  pub holds : IsBody quote body parts

-- Letters before a raw string: up to 255 `#`, `"`, and a text up to the first `"` that as many `#` follow.
pub record IsRaw (letters text : List ℕ) : Type 0 where
  pub raw : List ℕ
  pub value : List ℕ
  pub is : text ≡ letters ++ raw
  pub own : IsRawOf raw value

-- A line comment or documentation: `//` and the rest of its line.
pub record IsLineOf (text line : List ℕ) : Type 0 where
  pub is : text ≡ 47 ∷ 47 ∷ line
  pub one : IsTrue (list_all is_in_line line)

-- The text after `/*`, up to the `*/` that closes it: each `/*` in it has its own `*/`.
pub data Closes : List ℕ → Type 0 where
  -- The closing `*/`.
  Close : Closes (42 ∷ 47 ∷ [])
  -- A character that begins neither `/*` nor `*/`, and the rest.
  Other : (c : ℕ) (more : List ℕ) → BeginsNot (47 ∷ 42 ∷ []) (c ∷ more) → BeginsNot (42 ∷ 47 ∷ []) (c ∷ more) → Closes more → Closes (c ∷ more)
  -- A complete nested block, and the rest.
  Block : (inside more : List ℕ) → Closes inside → Closes more → Closes (47 ∷ 42 ∷ (inside ++ more))

-- A block comment or documentation: `/*` and the text up to the `*/` that closes it.
pub record IsBlockOf (text inside : List ℕ) : Type 0 where
  pub is : text ≡ 47 ∷ 42 ∷ inside
  pub closes : Closes inside

-- The text after `//` begins with `/` and not with `//`: outer documentation.
abbrev pub DocumentsLine : List ℕ → Type 0
DocumentsLine line = BeginsWith (47 ∷ []) line × BeginsNot (47 ∷ 47 ∷ []) line

-- The text after `/*` begins with `*`, but with neither `**` nor `*/`: outer documentation.
abbrev pub DocumentsBlock : List ℕ → Type 0
DocumentsBlock inside = BeginsWith (42 ∷ []) inside × BeginsNot (42 ∷ 42 ∷ []) inside × BeginsNot (42 ∷ 47 ∷ []) inside

-- Outer documentation on one line.
abbrev pub IsLineDoc : List ℕ → Type 0
IsLineDoc text = (line : List ℕ) × IsLineOf text line × DocumentsLine line

-- Outer documentation as a block.
abbrev pub IsBlockDoc : List ℕ → Type 0
IsBlockDoc text = (inside : List ℕ) × IsBlockOf text inside × DocumentsBlock inside

-- A line comment: neither outer documentation nor inner documentation, which begins with `!`.
abbrev pub IsLineComment : List ℕ → Type 0
IsLineComment text = (line : List ℕ) × IsLineOf text line × (DocumentsLine line → ⊥) × BeginsNot (33 ∷ []) line

-- A comment of a block: neither documentation nor inner documentation.
abbrev pub IsBlockComment : List ℕ → Type 0
IsBlockComment text = (inside : List ℕ) × IsBlockOf text inside × (DocumentsBlock inside → ⊥) × BeginsNot (33 ∷ []) inside

-- The text is one token of the kind, jointness aside.
abbrev pub Spells : TokenKind → List ℕ → Type 0
Spells Ident text = IsWord text ⊎ IsRawWord text
Spells Lifetime text = IsLifetime text
Spells (Literal Int) text = IsInteger text
Spells (Literal Str) text = IsQuoted [] InStr text ⊎ IsRaw [] text
Spells (Literal ByteStr) text = IsQuoted (98 ∷ []) InByteStr text ⊎ (IsRaw (98 ∷ []) text × IsTrue (list_all is_ascii text))
Spells (Literal Char) text = IsQuoted [] InChar text
Spells (Literal Byte) text = IsQuoted (98 ∷ []) InByte text
Spells (Punct c joint) text = IsTrue (is_punct c) × (text ≡ c ∷ [])
Spells (Start b) text = text ≡ opener b ∷ []
Spells (Stop b) text = text ≡ closer b ∷ []
Spells Doc text = IsLineDoc text ⊎ IsBlockDoc text

-- The text is one unsupported literal.
abbrev pub SpellsUncarried : UncarriedKind → List ℕ → Type 0
SpellsUncarried Float text = IsFloat text
SpellsUncarried WideInt text = IsWideInteger text
SpellsUncarried CStr text = IsQuoted (99 ∷ []) InCStr text ⊎ IsRaw (99 ∷ []) text

-- The text is one piece of the kind.
abbrev pub IsPieceOf : PieceKind → List ℕ → Type 0
IsPieceOf Blank text = (c : ℕ) × IsTrue (is_blank c) × (text ≡ c ∷ [])
IsPieceOf Comment text = IsLineComment text ⊎ IsBlockComment text
IsPieceOf (Token kind) text = Spells kind text
IsPieceOf (Uncarried kind) text = SpellsUncarried kind text
