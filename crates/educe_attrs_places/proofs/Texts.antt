-- Texts of literals, as characters.
use Rattle.std.proofs.Common.{◌≡◌, [], ◌∷◌, refl, codes}
use Rattle.std.specs.Str.{chars}
use Rattle.educe_tokens.specs.Message.{educe_format}

-- the characters of `educe`
pub chars_educe : chars (codes "educe") ≡ codes "educe"
unfolding chars
chars_educe = refl

-- the words for an `educe` attribute that is no list are those that its message cites
pub format_words : chars (codes "educe") ∷ chars (codes "#[educe(Trait1, Trait2, ..., TraitN)]") ∷ [] ≡ educe_format
unfolding chars
format_words = refl
