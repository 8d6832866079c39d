-- Raw strings (Rust Reference, Raw string literals; Raw byte string literals; Raw C string literals).
use Rattle.std.specs.Prelude.{◌≡◌, ℕ, ◌+◌, ◌-◌, ◌*◌, ◌≤◌, ◌==◌, Bool, false, cond, ◌&&◌, Option, Some, None, List, [], ◌∷◌, ◌++◌, take, drop, length, replicate, nat_le}
use Rattle.std.specs.List.{list_all, prefix_len}
use Rattle.std.specs.Char.{is_ascii}
use Rattle.educe_tokens_pieces.specs.Chars.{begins}
use Rattle.educe_tokens_pieces.specs.Machine.{plus}

-- The number of `#` at the start of the text.
abbrev pub mark_count : List ℕ → ℕ
mark_count cs = prefix_len (λ c. c == 35) cs

-- The text after the opening quote ends with the first `"` that is followed by that many `#`.
abbrev pub closes_raw : ℕ → List ℕ → Bool
closes_raw marks [] = false
closes_raw marks (c ∷ cs) = cond ((c == 34) && nat_le marks (mark_count cs)) (length cs == marks) (closes_raw marks cs)

-- At most 255 `#`, `"`, a text up to the first `"` that as many `#` follow, and these.
abbrev pub is_raw : List ℕ → Bool
is_raw cs =
    (nat_le (mark_count cs) 255 && begins (λ c. c == 34) (drop (mark_count cs) cs))
    && closes_raw (mark_count cs) (drop (mark_count cs + 1) cs)

-- A raw string: `r` and a raw text.
abbrev pub is_raw_str : List ℕ → Bool
is_raw_str [] = false
is_raw_str (c ∷ cs) = (c == 114) && is_raw cs

-- A raw byte string: `br` and a raw text of ASCII characters.
abbrev pub is_raw_byte_str : List ℕ → Bool
is_raw_byte_str [] = false
is_raw_byte_str (c ∷ cs) = (c == 98) && (is_raw_str cs && list_all is_ascii cs)

-- A raw C string: `cr` and a raw text.
abbrev pub is_raw_c_str : List ℕ → Bool
is_raw_c_str [] = false
is_raw_c_str (c ∷ cs) = (c == 99) && is_raw_str cs

-- The number of characters after the opening quote up to the end of the raw text, which that many `#` close.
abbrev pub raw_closing_len : ℕ → List ℕ → Option ℕ
raw_closing_len marks [] = None
raw_closing_len marks (c ∷ cs) = cond ((c == 34) && nat_le marks (mark_count cs)) (Some (1 + marks)) (plus 1 (raw_closing_len marks cs))

-- The length of the raw text at the start, counted from its first `#` or `"`.
abbrev pub raw_len : List ℕ → Option ℕ
raw_len cs =
    cond (nat_le (mark_count cs) 255 && begins (λ c. c == 34) (drop (mark_count cs) cs))
    (plus (mark_count cs + 1) (raw_closing_len (mark_count cs) (drop (mark_count cs + 1) cs))) None

-- The value of a raw string: the characters between its quotes.
abbrev pub raw_value : List ℕ → List ℕ
raw_value literal =
    take (length literal - (2 * mark_count (drop 1 literal) + 3)) (drop (mark_count (drop 1 literal) + 2) literal)

-- The literal is `r`, at most 255 `#`, `"`, the value, `"` and as many `#`, and no earlier `"` is followed by as many
-- `#`.
pub record IsRawOf (literal value : List ℕ) : Type 0 where
  pub marks : ℕ
  pub few : marks ≤ 255
  pub is : literal ≡ 114 ∷ (replicate marks 35 ++ 34 ∷ (value ++ 34 ∷ replicate marks 35))
  pub first : (front back : List ℕ) → value ++ 34 ∷ replicate marks 35 ≡ front ++ 34 ∷ (replicate marks 35 ++ back) → front ≡ value
