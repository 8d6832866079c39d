-- Templates: ASCII texts of words, separated by single blanks, that are printed as tokens.
use Rattle.std.specs.Prelude.{ℕ, ◌==◌, Bool, true, false, cond, ◌&&◌, ◌||◌, List, [], ◌∷◌}
use Rattle.std.specs.Char.{is_ascii_alphabetic, is_ascii_alphanumeric}
use Rattle.std.specs.List.{list_all, flat_map, slice_split}
use Rattle.educe_tokens_pieces.specs.declared.kind.Bracket.TheVariants.{Round, Square, Curly}
use Rattle.educe_tokens_pieces.specs.declared.kind.LiteralKind.TheVariants.{Int}
use Rattle.educe_tokens_pieces.specs.declared.kind.TokenKind.{TokenKind}
use Rattle.educe_tokens_pieces.specs.declared.kind.TokenKind.TheVariants.{Ident, Literal, Punct, Start, Stop}
use Rattle.educe_tokens_pieces.specs.Chars.{begins, is_punct}
use Rattle.educe_tokens_pieces.specs.Pieces.{spells}
use Rattle.educe_tokens.specs.Lexes.{Lexeme}

-- A letter or `_`: the start of an ASCII identifier.
abbrev pub is_name_start : ℕ → Bool
is_name_start c = is_ascii_alphabetic c || (c == 95)

-- A letter, a digit or `_`: a character of an ASCII identifier.
abbrev pub is_name_part : ℕ → Bool
is_name_part c = is_ascii_alphanumeric c || (c == 95)

-- An identifier in ASCII.
abbrev pub is_ascii_name : List ℕ → Bool
is_ascii_name [] = false
is_ascii_name (c ∷ cs) = is_name_start c && list_all is_name_part cs

-- A bracket: ( ) [ ] { }.
abbrev pub is_bracket : ℕ → Bool
is_bracket c = (c == 40) || (c == 41) || (c == 91) || (c == 93) || (c == 123) || (c == 125)

-- The pairs of puncts that a template may contain: `::`, `->`, `=>` and `..`.
abbrev pub is_joint_pair : ℕ → ℕ → Bool
is_joint_pair c d = ((c == 58) && (d == 58)) || ((c == 45) && (d == 62)) || ((c == 61) && (d == 62)) || ((c == 46) && (d == 46))

-- The word is a bracket, a punct or a joint pair of puncts.
abbrev pub is_mark : List ℕ → Bool
is_mark [] = false
is_mark (c ∷ []) = is_bracket c || is_punct c
is_mark (c ∷ d ∷ []) = is_joint_pair c d
is_mark (c ∷ d ∷ e ∷ cs) = false

-- An ASCII identifier, a bracket, a punctuation character, or one of `::`, `->`, `=>` and `..`.
abbrev pub is_template_word : List ℕ → Bool
is_template_word word = is_ascii_name word || is_mark word

-- The words of a text, which blanks separate.
abbrev pub template_words : List ℕ → List (List ℕ)
template_words text = slice_split (λ c. c == 32) text

-- A text of words with one space between any two.
abbrev pub is_template : List ℕ → Bool
is_template text = list_all is_template_word (template_words text)

-- The kind of the token that a bracket or a punct is by itself.
abbrev pub mark_kind : ℕ → TokenKind
mark_kind c =
    cond (c == 40) (Start Round) (cond (c == 41) (Stop Round) (cond (c == 91) (Start Square) (cond (c == 93) (Stop Square) (cond (c == 123) (Start Curly) (cond (c == 125) (Stop Curly) (Punct c false))))))

-- The tokens of a bracket, a punct or a pair of puncts, of which the first is joint.
abbrev pub mark_lexemes : List ℕ → List Lexeme
mark_lexemes [] = []
mark_lexemes (c ∷ []) = record { kind = mark_kind c; spelling = c ∷ [] } ∷ []
mark_lexemes (c ∷ d ∷ cs) = record { kind = Punct c true; spelling = c ∷ [] } ∷ record { kind = Punct d false; spelling = d ∷ [] } ∷ []

-- The tokens of a word of a template.
abbrev pub word_lexemes : List ℕ → List Lexeme
word_lexemes word = cond (begins is_name_start word) (record { kind = Ident; spelling = word } ∷ []) (mark_lexemes word)

-- The tokens of a template.
unfoldable pub quoted : List ℕ → List Lexeme
quoted text = flat_map word_lexemes (template_words text)

-- The token of an identifier or an integer.
abbrev pub word_lexeme : List ℕ → Lexeme
word_lexeme text = record { kind = cond (spells Ident text) Ident (Literal Int); spelling = text }
