-- The names of the traits, as characters.
use Rattle.std.proofs.Common.{◌≡◌, refl, codes, chars}
use Rattle.educe_tree.specs.TokenLaws.{ascii_chars}

pub chars_debug : chars (codes "Debug") ≡ codes "Debug"
chars_debug = ascii_chars (codes "Debug") refl

pub chars_clone : chars (codes "Clone") ≡ codes "Clone"
chars_clone = ascii_chars (codes "Clone") refl

pub chars_copy : chars (codes "Copy") ≡ codes "Copy"
chars_copy = ascii_chars (codes "Copy") refl

pub chars_partial_eq : chars (codes "PartialEq") ≡ codes "PartialEq"
chars_partial_eq = ascii_chars (codes "PartialEq") refl

pub chars_eq : chars (codes "Eq") ≡ codes "Eq"
chars_eq = ascii_chars (codes "Eq") refl

pub chars_partial_ord : chars (codes "PartialOrd") ≡ codes "PartialOrd"
chars_partial_ord = ascii_chars (codes "PartialOrd") refl

pub chars_ord : chars (codes "Ord") ≡ codes "Ord"
chars_ord = ascii_chars (codes "Ord") refl

pub chars_hash : chars (codes "Hash") ≡ codes "Hash"
chars_hash = ascii_chars (codes "Hash") refl

pub chars_default : chars (codes "Default") ≡ codes "Default"
chars_default = ascii_chars (codes "Default") refl

-- the characters of the names of all traits
pub ruleset trait_names = (chars_debug, chars_clone, chars_copy, chars_partial_eq, chars_eq, chars_partial_ord, chars_ord, chars_hash, chars_default)
