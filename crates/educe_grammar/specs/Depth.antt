-- The tokens that open a level of nesting, and how many of them count at a place: each level of nesting, and each link
-- of a chain, takes one.
use Rattle.std.specs.Prelude.{ℕ, ◌+◌, ◌-◌, ◌==◌, Bool, true, false, ◌&&◌, ◌||◌, if◌then◌else◌, List, [], ◌∷◌, codes}
use Rattle.std.specs.List.{list_any}
use Rattle.std.specs.Str.{bytes_eq}
use Rattle.educe_tokens.specs.TokenKind.{TokenKind}
use Rattle.educe_tokens.specs.TokenKind.TheVariants as kind
use Rattle.educe_grammar.specs.Steps.{Tokens}

-- The signs that open a level of nesting: `< > & * - ! + / % ^ | = .`.
abbrev pub opening_signs : List ℕ
opening_signs = 60 ∷ 62 ∷ 38 ∷ 42 ∷ 45 ∷ 33 ∷ 43 ∷ 47 ∷ 37 ∷ 94 ∷ 124 ∷ 61 ∷ 46 ∷ []

-- The token opens a level of nesting: an opening bracket, the word `as` or `dyn`, or one of these signs.
abbrev pub is_opener : TokenKind → List ℕ → Bool
is_opener (kind.Start b) text = true
is_opener (kind.Punct c joint) text = list_any (λ d. d == c) opening_signs
is_opener kind.Ident text = bytes_eq (codes "as") text || bytes_eq (codes "dyn") text
is_opener (kind.Stop b) text = false
is_opener kind.Lifetime text = false
is_opener (kind.Literal l) text = false
is_opener kind.Doc text = false

-- The number of unmatched closing brackets, after one more token to the left.
abbrev pub pending : TokenKind → ℕ → ℕ
pending (kind.Stop b) n = n + 1
pending (kind.Start b) n = n - 1
pending (kind.Punct c joint) n = n
pending kind.Ident n = n
pending kind.Lifetime n = n
pending (kind.Literal l) n = n
pending kind.Doc n = n

-- The number of brackets that are closed in the list but not opened in it.
unfoldable pub closed : Tokens → ℕ
closed [] = 0
closed (t ∷ ts) = pending t.kind (closed ts)

-- How many openers count at the end of the list: those outside every bracket pair that is closed in it. The opening bracket of a
-- pair is outside it.
unfoldable pub counted : Tokens → ℕ
counted [] = 0
counted (t ∷ ts) = counted ts + (if is_opener t.kind t.spelling && (closed (t ∷ ts) == 0) then 1 else 0)
