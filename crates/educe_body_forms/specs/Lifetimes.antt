-- Lifetimes in ASCII (Rust Reference, Lifetimes and loop labels).
use Rattle.std.proofs.Common.{◌≡◌, ℕ, Bool, true, false, ◌&&◌, IsTrue, List, [], ◌∷◌, sym, subst}
use Rattle.std.specs.Prelude.{◌==◌}
use Rattle.std.specs.List.{list_all}
use Rattle.std.proofs.lemmas.Bool.{and_parts, and_from, false≢true}
use Rattle.unicode_ident.specs.Ident.{is_xid_continue}
use Rattle.educe_tokens.specs.TokenKind.TheVariants.{Lifetime}
use Rattle.educe_tokens.specs.Chars.{is_word_start}
use Rattle.educe_tokens.specs.Pieces.{spells}
use Rattle.educe_tokens.specs.Quote.{is_ascii_name}
use Rattle.educe_tokens.specs.Spells.{IsWord}
use Rattle.educe_tokens.proofs.Quoting.{ascii_name_is}
use Rattle.educe_names.proofs.AsciiNames.{ascii_is_word}

-- `'` and an identifier in ASCII.
abbrev pub is_ascii_lifetime : List ℕ → Bool
is_ascii_lifetime [] = false
is_ascii_lifetime (c ∷ cs) = (c == 39) && is_ascii_name cs

-- `'` and a word spell a lifetime.
word_spells : (c : ℕ) (cs : List ℕ) → (c == 39) ≡ true → IsWord cs → IsTrue (spells Lifetime (c ∷ cs))
word_spells c cs mark word =
    let Spelled : List ℕ → Type 0 = λ word. IsTrue (spells Lifetime (c ∷ word)) in
    let is_word = and_from (is_word_start word.first) (list_all is_xid_continue word.more) word.starts word.continues in
    subst Spelled (sym word.is) (and_from (c == 39) _ mark is_word)

-- A lifetime in ASCII spells a lifetime.
pub ascii_lifetime_spells : (text : List ℕ) → IsTrue (is_ascii_lifetime text) → IsTrue (spells Lifetime text)
ascii_lifetime_spells [] h = absurd (false≢true h)
ascii_lifetime_spells (c ∷ cs) h =
    let parts = and_parts (c == 39) (is_ascii_name cs) h in
    word_spells c cs parts.0 (subst IsWord (ascii_name_is cs parts.1).1 (ascii_is_word cs parts.1))
