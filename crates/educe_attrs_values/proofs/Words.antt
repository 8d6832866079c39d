-- Words, as characters.
use Rattle.std.proofs.Common.{◌≡◌, ℕ, List, [], ◌∷◌, refl, ap, ◌∙◌, codes, Some}
use Rattle.std.specs.Str.{bytes_eq, chars}
use Rattle.educe_syntax.specs.TokenLaws.{ascii_chars}
use Rattle.educe_attrs_values.specs.Readings.{is_empty_text}

-- the characters of `true`
pub chars_true : chars (codes "true") ≡ codes "true"
chars_true = ascii_chars (codes "true") refl

-- the characters of `false`
pub chars_false : chars (codes "false") ≡ codes "false"
chars_false = ascii_chars (codes "false") refl

no_bytes : (text : List ℕ) → bytes_eq [] text ≡ is_empty_text (Some text)
no_bytes [] = refl
no_bytes (c ∷ cs) = refl

-- a text without characters is spelled as nothing
pub empty_spelled : (text : List ℕ) → bytes_eq (chars (codes "")) text ≡ is_empty_text (Some text)
empty_spelled text = ap (λ w. bytes_eq w text) (ascii_chars (codes "") refl) ∙ no_bytes text
