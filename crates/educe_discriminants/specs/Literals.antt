-- The values of explicit discriminants that are a literal or a minus and a literal (Rust Reference, Integer literal
-- expressions; Negation operators).
use Rattle.std.specs.Prelude.{ℤ, pos, neg_ℤ, Bool, List, [], ◌∷◌, Option, None, if◌then◌else◌, codes}
use Rattle.std.specs.Option.{option_map}
use Rattle.std.specs.Str.{bytes_eq}
use Rattle.educe_tokens.specs.IntValue.{int_value}
use Rattle.educe_tokens.specs.Lexes.{lexeme_of}
use Rattle.educe_tokens.specs.declared.token.Token.{Token}

-- The token is `-`.
abbrev pub is_minus : Token → Bool
is_minus t = bytes_eq t.spelling (codes "-")

-- The value of these tokens: an integer literal without its suffix, or its negation.
abbrev pub literal_number : List Token → Option ℤ
literal_number [] = None
literal_number (t ∷ []) = option_map pos (int_value (lexeme_of t))
literal_number (t ∷ u ∷ []) = if is_minus t then option_map (λ n. neg_ℤ (pos n)) (int_value (lexeme_of u)) else None
literal_number (t ∷ u ∷ v ∷ more) = None
