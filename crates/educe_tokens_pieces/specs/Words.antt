-- Words: identifiers, raw ones among them, and lifetimes (Rust Reference, Identifiers; Lifetimes and loop labels).
use Rattle.std.specs.Prelude.{ℕ, ◌+◌, ◌==◌, Bool, false, cond, ◌&&◌, ◌||◌, not, Option, Some, None, List, [], ◌∷◌, take, codes}
use Rattle.std.specs.List.{list_all, list_any, prefix_len}
use Rattle.std.specs.Str.{bytes_eq}
use Rattle.unicode_ident.specs.Ident.{is_xid_continue}
use Rattle.educe_tokens_pieces.specs.Chars.{is_word_start}

-- A word: XID_Start or `_`, then any number of XID_Continue.
abbrev pub is_word : List ℕ → Bool
is_word [] = false
is_word (c ∷ cs) = is_word_start c && list_all is_xid_continue cs

-- The five words that may not follow `r#`.
abbrev pub never_raw : List (List ℕ)
never_raw = codes "crate" ∷ codes "self" ∷ codes "super" ∷ codes "Self" ∷ codes "_" ∷ []

-- The text is one of these words.
unfoldable pub is_never_raw : List ℕ → Bool
is_never_raw text = list_any (λ word. bytes_eq word text) never_raw

-- A raw word: `r#` and a word that may be raw.
abbrev pub is_raw_word : List ℕ → Bool
is_raw_word [] = false
is_raw_word (c ∷ []) = false
is_raw_word (c ∷ d ∷ cs) = ((c == 114) && (d == 35)) && (is_word cs && not (is_never_raw cs))

-- A lifetime: `'` and a word.
abbrev pub is_lifetime : List ℕ → Bool
is_lifetime [] = false
is_lifetime (c ∷ cs) = (c == 39) && is_word cs

-- A character that an identifier may not stand directly before: one that continues it, `"`, `'` or `#`.
abbrev pub touches_word : ℕ → Bool
touches_word c = is_xid_continue c || ((c == 34) || (c == 39) || (c == 35))

-- A lifetime is no piece directly before one of these: a character that continues it, or `'`.
abbrev pub touches_lifetime : ℕ → Bool
touches_lifetime c = is_xid_continue c || (c == 39)

-- The number of characters at the start that continue a word.
abbrev pub continue_len : List ℕ → ℕ
continue_len cs = prefix_len is_xid_continue cs

-- The length of the word at the start, if there is one.
abbrev pub word_len : List ℕ → Option ℕ
word_len [] = None
word_len (c ∷ cs) = cond (is_word_start c) (Some (1 + continue_len cs)) None

-- The length of a word, if the word may be raw.
abbrev pub if_raw : List ℕ → Option ℕ → Option ℕ
if_raw text None = None
if_raw text (Some n) = cond (is_never_raw (take n text)) None (Some n)

-- The length of the word after `r#`, if it may be raw.
abbrev pub raw_word_len : List ℕ → Option ℕ
raw_word_len text = if_raw text (word_len text)
