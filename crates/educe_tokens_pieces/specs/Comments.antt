-- Comments and documentation (Rust Reference, Comments).
use Rattle.std.specs.Prelude.{◌≡◌, ◌⊎◌, ℕ, ◌+◌, ◌-◌, ◌==◌, Bool, false, cond, ◌&&◌, ◌||◌, not, List, [], ◌∷◌, ◌++◌, length, take, drop}
use Rattle.std.specs.List.{list_all}
use Rattle.educe_tokens_pieces.specs.Chars.{begins, is_empty, is_in_line, is_slash_or_star}

-- With `inner` comments open inside the outermost one, the text ends with exactly the `*/` that closes the outermost.
abbrev pub closes_comment : ℕ → List ℕ → Bool
closes_comment inner [] = false
closes_comment inner (c ∷ []) = false
closes_comment inner (c ∷ d ∷ cs) =
    cond ((c == 42) && (d == 47)) (cond (inner == 0) (is_empty cs) (closes_comment (inner - 1) cs))
    (cond ((c == 47) && (d == 42)) (closes_comment (inner + 1) cs) (closes_comment inner (d ∷ cs)))

-- A line comment or documentation: `//` and the rest of its line.
abbrev pub is_line : List ℕ → Bool
is_line [] = false
is_line (c ∷ []) = false
is_line (c ∷ d ∷ cs) = ((c == 47) && (d == 47)) && list_all is_in_line cs

-- A block comment or documentation: `/*` up to the `*/` that closes it.
abbrev pub is_block : List ℕ → Bool
is_block [] = false
is_block (c ∷ []) = false
is_block (c ∷ d ∷ cs) = ((c == 47) && (d == 42)) && closes_comment 0 cs

-- The text after `//` begins with `/` and not with `//`, so the line is outer documentation.
abbrev pub opens_line_doc : List ℕ → Bool
opens_line_doc [] = false
opens_line_doc (c ∷ cs) = (c == 47) && not (begins (λ d. d == 47) cs)

-- The text after `/*` begins with `*`, but with neither `**` nor `*/`, so the block is outer documentation.
abbrev pub opens_block_doc : List ℕ → Bool
opens_block_doc [] = false
opens_block_doc (c ∷ cs) = (c == 42) && not (begins is_slash_or_star cs)

-- The text after `//` or `/*` begins with `!`: inner documentation, which is not supported.
abbrev pub opens_inner : List ℕ → Bool
opens_inner cs = begins (λ c. c == 33) cs

-- Outer documentation on one line (`///`) and as a block (`/** */`), and either of the two.
abbrev pub is_line_doc : List ℕ → Bool
is_line_doc cs = is_line cs && opens_line_doc (drop 2 cs)

-- Documentation of a block.
abbrev pub is_block_doc : List ℕ → Bool
is_block_doc cs = is_block cs && opens_block_doc (drop 2 cs)

-- Documentation of either kind.
abbrev pub is_doc : List ℕ → Bool
is_doc cs = is_line_doc cs || is_block_doc cs

-- Comments that are neither outer nor inner documentation: on one line, as a block, and either of the two.
abbrev pub is_line_comment : List ℕ → Bool
is_line_comment cs = is_line cs && not (opens_line_doc (drop 2 cs) || opens_inner (drop 2 cs))

-- A comment of a block, and no documentation.
abbrev pub is_block_comment : List ℕ → Bool
is_block_comment cs = is_block cs && not (opens_block_doc (drop 2 cs) || opens_inner (drop 2 cs))

-- A comment of either kind.
abbrev pub is_comment : List ℕ → Bool
is_comment cs = is_line_comment cs || is_block_comment cs

-- The text begins with `//` or `/*`.
abbrev pub opens_comment : List ℕ → Bool
opens_comment [] = false
opens_comment (c ∷ cs) = (c == 47) && begins is_slash_or_star cs

-- The text begins with `//`.
abbrev pub opens_line : List ℕ → Bool
opens_line [] = false
opens_line (c ∷ cs) = (c == 47) && begins (λ d. d == 47) cs

-- A text that begins with `//` stands only before a line feed or the end.
abbrev pub ends_line_before : List ℕ → List ℕ → Bool
ends_line_before spelling rest = not (is_line spelling && begins is_in_line rest)

-- The text of documentation: without `///`, or without `/**` and `*/`.
abbrev pub doc_value : List ℕ → List ℕ
doc_value cs = cond (opens_line cs) (drop 3 cs) (take (length cs - 5) (drop 3 cs))

-- The documentation is `///` and the text, or `/**`, the text and `*/`.
abbrev pub IsDocOf : List ℕ → List ℕ → Type 0
IsDocOf doc value = (doc ≡ 47 ∷ 47 ∷ 47 ∷ value) ⊎ (doc ≡ 47 ∷ 42 ∷ 42 ∷ (value ++ 42 ∷ 47 ∷ []))
