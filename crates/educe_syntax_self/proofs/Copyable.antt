-- Tokens of a set may be copied.
use Rattle.std.proofs.Common.{◌≡◌, true, ℕ, IsTrue, List, [], ◌∷◌, refl}
use Rattle.std.proofs.lemmas.Bool.{false≢true}
use Rattle.educe_tokens.specs.TokenKind.{TokenKind}
use Rattle.educe_tokens.specs.TokenKind.TheVariants as kind
use Rattle.educe_tokens.specs.Copied.{may_be_copied}
use Rattle.educe_grammar.specs.Terminals.{TokenSet, token_in}

-- a token of a set may be copied
pub set_copied : (s : TokenSet) (k : TokenKind) (text : List ℕ) → token_in s k text ≡ true → IsTrue (may_be_copied (record { kind = k; spelling = text } ∷ []))
set_copied s kind.Ident text h = refl
set_copied s kind.Lifetime text h = refl
set_copied s (kind.Literal l) text h = refl
set_copied s (kind.Punct c joint) text h = refl
set_copied s (kind.Start b) text h = absurd (false≢true h)
set_copied s (kind.Stop b) text h = absurd (false≢true h)
set_copied s kind.Doc text h = absurd (false≢true h)
