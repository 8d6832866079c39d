-- Lifetimes as printed tokens: a lifetime may stand side by side with other tokens, and its text lexes as it.
use Rattle.std.proofs.Common.{ℕ, IsTrue, List, [], ◌∷◌, refl}
use Rattle.std.proofs.lemmas.Bool.{and_from}
use Rattle.educe_tokens.specs.TokenKind.TheVariants.{Lifetime}
use Rattle.educe_tokens.specs.Pieces.{spells}
use Rattle.educe_tokens.proofs.Printable.{IsPrintable}
use Rattle.educe_tokens.proofs.Writing.{written-one}

-- A lifetime may stand beside other tokens, and its text lexes as it.
pub printable-lifetime : (text : List ℕ) → IsTrue (spells Lifetime text) → IsPrintable (record { kind = Lifetime; spelling = text } ∷ [])
printable-lifetime text h = record { written = written-one Lifetime text refl; spelled = and_from _ _ h refl }
