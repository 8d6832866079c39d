-- The laws of names as terms, which proofs cite with no call.
use Rattle.std.specs.Prelude.{ℕ, IsTrue, List, chars}
use Rattle.educe_tokens.specs.Quote.{is_ascii_name}
use Rattle.educe_tokens.specs.Spells.{IsWord}
use Rattle.educe_names.specs.Laws.{NameLaws}
use Rattle.educe_names.proofs.Lawful as lawful

-- Names that are chosen have them.
pub lawful_names : NameLaws
lawful_names = lawful.lawful_names

-- An ASCII identifier is a word; at a literal the premise is `refl`.
pub ascii_is_word : (name : List ℕ) → IsTrue (is_ascii_name name) → IsWord (chars name)
ascii_is_word = lawful_names.ascii
