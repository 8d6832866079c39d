-- Templates with names: what a template says, where `#0`, `#1` and so on are names, and lifetimes and integers are words too.
use Rattle.std.specs.Prelude.{ℕ, ◌==◌, Bool, true, false, cond, ◌&&◌, List, [], ◌∷◌, map, Option, Some, None, slice_get}
use Rattle.std.specs.Borrow.{Bor}
use Rattle.std.specs.Char.{is_ascii, is_ascii_digit}
use Rattle.std.specs.List.{list_all, flat_map}
use Rattle.educe_tokens.specs.LiteralKind.TheVariants.{Int}
use Rattle.educe_tokens.specs.TokenKind.TheVariants as kind
use Rattle.educe_tokens.specs.Chars.{begins}
use Rattle.educe_tokens.specs.Lexes.{Lexeme}
use Rattle.educe_tokens.specs.Pieces.{spells}
use Rattle.educe_tokens.specs.Quote.{template_words, is_template, quoted}
use Rattle.educe_tree.specs.declared.ident.Ident.{Ident}
use Rattle.educe_body_forms.specs.Lifetimes.{is_ascii_lifetime}

-- The names behind references.
abbrev pub behind : List (Bor Ident) → List Ident
behind names = map (λ (n : Bor Ident). n.now) names

-- `#` and one more character.
abbrev pub is_slot : List ℕ → Bool
is_slot [] = false
is_slot (c ∷ []) = false
is_slot (c ∷ d ∷ []) = c == 35
is_slot (c ∷ d ∷ e ∷ cs) = false

-- The number of the name that a digit says.
abbrev pub slot : ℕ → ℕ
slot digit = cond (digit == 48) 0 (cond (digit == 49) 1 (cond (digit == 50) 2 3))

-- The number behind `#`.
abbrev pub slot_of : List ℕ → ℕ
slot_of [] = 0
slot_of (c ∷ []) = 0
slot_of (c ∷ d ∷ cs) = slot d

-- The word begins as a lifetime does.
abbrev pub begins_lifetime : List ℕ → Bool
begins_lifetime word = begins (λ c. c == 39) word

-- The word begins as an integer does.
abbrev pub begins_number : List ℕ → Bool
begins_number word = begins is_ascii_digit word

-- The token of a name, where there is one.
abbrev pub name_lexemes : Option Ident → List Lexeme
name_lexemes None = []
name_lexemes (Some name) = record { kind = kind.Ident; spelling = name.text } ∷ []

-- The tokens of one word of a template with names.
abbrev pub filled_word : List Ident → List ℕ → List Lexeme
filled_word names word =
    cond (is_slot word) (name_lexemes (slice_get names (slot_of word)))
    (cond (begins_lifetime word) (record { kind = kind.Lifetime; spelling = word } ∷ [])
    (cond (begins_number word) (record { kind = kind.Literal Int; spelling = word } ∷ []) (quoted word)))

-- The word may stand in a template with names: it is a slot, a lifetime, an integer, or a word that a plain template may have.
abbrev pub fits : List ℕ → Bool
fits word =
    cond (is_slot word) true
    (cond (begins_lifetime word) (list_all is_ascii word && is_ascii_lifetime word)
    (cond (begins_number word) (list_all is_ascii word && spells (kind.Literal Int) word) (is_template word)))

-- The tokens of a template in which `#0` is the first of the names, `#1` the second and so on, and lifetimes and integers are
-- words too.
abbrev pub filled : List Ident → List ℕ → List Lexeme
filled names text = flat_map (filled_word names) (template_words text)
