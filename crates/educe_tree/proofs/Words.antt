-- Words, as characters.
use Rattle.std.proofs.Common.{◌≡◌, ℕ, refl, List, [], ◌∷◌}
use Rattle.std.specs.Str.{chars}
use Rattle.std.specs.List.{list_any}
use Rattle.std.specs.Str.{bytes_eq}
use Rattle.educe_tree.specs.declared.names.TheConstants.{KEYWORDS}
use Rattle.educe_tree.specs.Names.{is_keyword}

-- the characters of the empty text
pub chars_empty : chars [] ≡ []
unfolding chars
chars_empty = refl

-- the characters of `_`
pub chars_underscore : chars (95 ∷ []) ≡ 95 ∷ []
unfolding chars
chars_underscore = refl

-- a test of the keywords goes by the table
pub list_any-KEYWORDS : (text : List ℕ) → list_any (λ k. bytes_eq (chars k.now) text) KEYWORDS ≡ is_keyword text
unfolding chars is_keyword
list_any-KEYWORDS text = refl
