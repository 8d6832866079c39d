-- Classes of characters.
use Rattle.std.specs.Prelude.{ℕ, ◌==◌, Bool, true, false, ◌&&◌, ◌||◌, not, List, [], ◌∷◌, nat_le}
use Rattle.unicode_ident.specs.Ident.{is_xid_start}

-- The list is not empty and its first character passes the test.
abbrev pub begins : (ℕ → Bool) → List ℕ → Bool
begins test [] = false
begins test (c ∷ cs) = test c

-- The list consists of exactly this one character.
abbrev pub is_only : ℕ → List ℕ → Bool
is_only c [] = false
is_only c (d ∷ []) = d == c
is_only c (d ∷ e ∷ cs) = false

-- The text has no character.
abbrev pub is_empty : List ℕ → Bool
is_empty [] = true
is_empty (c ∷ cs) = false

-- White space: U+0009 to U+000D, U+0020, U+0085, U+200E, U+200F, U+2028, U+2029 (Rust Reference, Whitespace).
abbrev pub is_blank : ℕ → Bool
is_blank c = (nat_le 9 c && nat_le c 13) || (c == 32) || (c == 133) || (c == 8206) || (c == 8207) || (c == 8232) || (c == 8233)

-- Any character but a line feed.
abbrev pub is_in_line : ℕ → Bool
is_in_line c = not (c == 10)

-- Punctuation: ! # $ % & * + , - . / : ; < = > ? @ ^ | ~ (Rust Reference, Punctuation).
abbrev pub is_punct : ℕ → Bool
is_punct c = (c == 33) || (c == 35) || (c == 36) || (c == 37) || (c == 38) || (c == 42) || (c == 43) || (c == 44) || (c == 45) || (c == 46) || (c == 47) || (c == 58) || (c == 59) || (c == 60) || (c == 61) || (c == 62) || (c == 63) || (c == 64) || (c == 94) || (c == 124) || (c == 126)

-- A character that begins a word: XID_Start or `_` (Rust Reference, Identifiers).
abbrev pub is_word_start : ℕ → Bool
is_word_start c = is_xid_start c || (c == 95)

-- The character is `/` or `*`.
abbrev pub is_slash_or_star : ℕ → Bool
is_slash_or_star c = (c == 47) || (c == 42)
